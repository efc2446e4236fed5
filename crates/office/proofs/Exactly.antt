-- What the warrants of verdicts come to.
use Rattle.std.proofs.Common.{◌≡◌, ℕ, List, Option, refl, subst}
use Rattle.record.specs.declared.kind.Kind.TheVariants.{Answer, ReadAnswer}
use Rattle.office.specs.Laws.{AlikeQuorum, Warranted, ReadingWarranted, Exact}
use Rattle.office.specs.declared.asking.Write.{Write}
use Rattle.office.specs.declared.slots.Slot.{Slot}
use Rattle.office.specs.declared.verdict.Verdict.{Verdict}
use Rattle.office.specs.declared.verdict.Verdict.TheVariants.{Done, Certify, Back, Clash, Catch, Wait}

module _ (q : ℕ) (slots : List Slot) where
  done_when : (client : ℕ) (write : Option Write) (verdict : Verdict) (found : Option (List ℕ)) → Warranted q client write slots verdict found → (sites : List ℕ) → AlikeQuorum Answer q slots sites → (answer : ℕ) × (verdict ≡ Done answer)
  done_when client write (Done answer) found right sites quorum = (answer, refl)
  done_when client write Certify found right sites quorum = absurd (right.0 sites quorum)
  done_when client write Back found right sites quorum = absurd (right.0 sites quorum)
  done_when client write Clash found right sites quorum = absurd (right.0 sites quorum)
  done_when client write (Catch site) found right sites quorum = absurd (right.0 sites quorum)
  done_when client write Wait found right sites quorum = absurd (right.0 sites quorum)

  pub exact : (client : ℕ) (write : Option Write) (verdict : Verdict) (found : Option (List ℕ)) → Warranted q client write slots verdict found → Exact Answer q slots verdict
  exact client write verdict found right = record {
    done = λ answer e. subst (λ (v : Verdict). Warranted q client write slots v found) e right;
    due = done_when client write verdict found right;
    waits = λ e. (subst (λ (v : Verdict). Warranted q client write slots v found) e right).1.1.1;
  }

  read_when : (verdict : Verdict) → ReadingWarranted q slots verdict → (sites : List ℕ) → AlikeQuorum ReadAnswer q slots sites → (answer : ℕ) × (verdict ≡ Done answer)
  read_when (Done answer) right sites quorum = (answer, refl)
  read_when Certify right sites quorum = absurd right
  read_when Back right sites quorum = absurd right
  read_when Clash right sites quorum = absurd right
  read_when (Catch site) right sites quorum = absurd (right.0 sites quorum)
  read_when Wait right sites quorum = absurd (right.0 sites quorum)

  pub exact_reading : (verdict : Verdict) → ReadingWarranted q slots verdict → Exact ReadAnswer q slots verdict
  exact_reading verdict right = record {
    done = λ answer e. subst (ReadingWarranted q slots) e right;
    due = read_when verdict right;
    waits = λ e. (subst (ReadingWarranted q slots) e right).1;
  }
