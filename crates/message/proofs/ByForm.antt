-- The outcome of each of the checks 5 to 10 on a message of a form.
use Rattle.std.proofs.Common.{◌≡◌, ℕ, ◌+◌, ◌-◌, ◌<◌, ◌≤◌, Bool, true, false, not, ltb, leb, ◌⊎◌, List, Ok, Err, sym, refl, ap, ◌∙◌, inl, inr, ⊎_elim, arith}
use Rattle.std.proofs.lemmas.Bool.{ltb-true, ltb-false, leb-true, leb-false, not-true, not-false}
use Rattle.record.specs.Claims.{claim_of}
use Rattle.record.specs.declared.fields.Statement.{Statement}
use Rattle.message.proofs.Found.{Lowest, none_never, some_lowest, found_or_never}
use Rattle.message.proofs.Groups.{records-group, statement_group}
use Rattle.message.proofs.Tested.{claim_alike, claim_unlike, place_alike, place_unlike, round_alike, round_unlike, claim_in_alike, claim_in_unlike, among_some, among_none}
use Rattle.message.proofs.Verdicts.{Verdict, passed, of_part, of_both}
use Rattle.message.specs.Checks.{unlike, first_unlike, signed_among, first_again, first_unvouched, first_unordered, refuse, clash, agreed, clashing, distinct, vouched, reached, ordered}
use Rattle.message.specs.Forms.{quorum}
use Rattle.message.specs.Laws.{claim_at, round_at, place_at, signer_at, client_at, HasForm, Group, Agrees, IsOneClaim, Again, Sealed, Above, Unordered}
use Rattle.message.specs.Records.{records, record_at, statement_at, group, lowest}
use Rattle.message.specs.Saying.{target}
use Rattle.message.specs.declared.agreement.Agreement.{Agreement}
use Rattle.message.specs.declared.agreement.Agreement.TheVariants.{OneClaim, OneClaimIn, OnePlace, OneRound}
use Rattle.message.specs.declared.faults.CertificateFault.{CertificateFault}
use Rattle.message.specs.declared.faults.CertificateFault.TheVariants.{Mixed, Same, Twice, Unvouched, Low, Order}
use Rattle.message.specs.declared.form.Form.{Form}
use Rattle.message.specs.declared.form.Form.TheVariants.{Write1, Read, Write2, Resolve, Round, ShowGrant, ShowCert}

-- A test of the records of a group, each by itself.
module _ (m : List ℕ) (fault : ℕ → CertificateFault) (first n : ℕ) (within : first + n ≤ records m) (Good Bad : ℕ → Type 0)
    (outside : (i : ℕ) → i < records m → (i < first) ⊎ (first + n ≤ i) → Good i) where
  module _ (t test : ℕ → Bool)
      (same : (k : ℕ) → k < n → t k ≡ test (first + k))
      (fine : (i : ℕ) → first ≤ i → i < first + n → test i ≡ false → Good i)
      (bad : (i : ℕ) → first ≤ i → i < first + n → test i ≡ true → Bad i) where
    of_group : Verdict fault (records m) Good Bad (refuse fault first (lowest t 0 (records (group m first n))))
    of_group =
        let long : records (group m first n) ≡ n = records-group m first n within in
        of_part fault (records m) first 0 (records (group m first n)) t Good Bad
        (λ k from below. omega arith)
        (λ k from below e. fine (first + k) (omega arith) (omega arith) (sym (same k (omega arith)) ∙ e))
        (λ k from below e. bad (first + k) (omega arith) (omega arith) (sym (same k (omega arith)) ∙ e))
        (λ i less out. outside i less (⊎_elim (λ low. inl (omega arith)) (λ high. inr (omega arith)) out))

  unlike_group : (agreement : Agreement)
      → ((i : ℕ) → first ≤ i → i < first + n → unlike agreement (statement_at m first) (statement_at m i) ≡ false → Good i)
      → ((i : ℕ) → first ≤ i → i < first + n → unlike agreement (statement_at m first) (statement_at m i) ≡ true → Bad i)
      → Verdict fault (records m) Good Bad (refuse fault first (first_unlike agreement (group m first n)))
  unlike_group agreement fine bad =
      of_group (λ k. unlike agreement (statement_at (group m first n) 0) (statement_at (group m first n) k)) (λ i. unlike agreement (statement_at m first) (statement_at m i))
      (λ k less.
      let z : first + 0 ≡ first = omega arith in
      ap (λ s. unlike agreement s (statement_at (group m first n) k)) (statement_group m first n 0 (omega arith) ∙ ap (statement_at m) z)
      ∙ ap (λ s. unlike agreement (statement_at m first) s) (statement_group m first n k less))
      fine bad

  -- An earlier record of the group has the signer of record i.
  again_group : ((i : ℕ) → first ≤ i → i < first + n → (((j : ℕ) × (first ≤ j) × (j < i) × (signer_at m j ≡ signer_at m i)) → ⊥) → Good i)
      → ((i : ℕ) → first ≤ i → i < first + n → ((j : ℕ) × (first ≤ j) × (j < i) × (signer_at m j ≡ signer_at m i)) → Bad i)
      → Verdict fault (records m) Good Bad (refuse fault first (first_again (group m first n)))
  again_group fine bad =
      let part = group m first n in
      let long : records part ≡ n = records-group m first n within in
      let signer : (k : ℕ) → k < n → (statement_at part k).signer ≡ signer_at m (first + k) = λ k less. ap (λ (s : Statement). s.signer) (statement_group m first n k less) in
      of_part fault (records m) first 0 (records part) (λ k. signed_among (statement_at part k).signer part k) Good Bad
      (λ k from below. omega arith)
      (λ k from below e. fine (first + k) (omega arith) (omega arith) (λ p.
      let fromj : first ≤ p.0 = p.1 in
      let lessj : p.0 < first + k = p.2 in
      let back : first + (p.0 - first) ≡ p.0 = omega arith in
      among_none (statement_at part k).signer part k e (p.0 - first) (omega arith)
      (signer (p.0 - first) (omega arith) ∙ ap (signer_at m) back ∙ p.3 ∙ sym (signer k (omega arith)))))
      (λ k from below e.
      let p = among_some (statement_at part k).signer part k e in
      let less : p.0 < k = p.1 in
      bad (first + k) (omega arith) (omega arith) (first + p.0, omega arith, omega arith, sym (signer p.0 (omega arith)) ∙ p.2 ∙ signer k (omega arith)))
      (λ i less out. outside i less (⊎_elim (λ low. inl (omega arith)) (λ high. inr (omega arith)) out))

-- A check that does not concern a form.
none_to_check : (fault : ℕ → CertificateFault) (n : ℕ) (Good Bad : ℕ → Type 0) → ((i : ℕ) → Good i) → Verdict fault n Good Bad (Ok tt)
none_to_check fault n Good Bad good = passed (λ i less. good i)

module _ (f : ℕ) (m : List ℕ) where
  -- 5. MIXED
  mixed_starts : quorum f ≤ records m
      → Verdict Mixed (records m) (λ i. i < quorum f → round_at m i ≡ round_at m 0) (λ i. (i < quorum f) × (round_at m i ≡ round_at m 0 → ⊥)) (refuse Mixed 0 (first_unlike OneRound (group m 0 (quorum f))))
  mixed_starts within =
      unlike_group m Mixed 0 (quorum f) (omega arith) (λ i. i < quorum f → round_at m i ≡ round_at m 0) (λ i. (i < quorum f) × (round_at m i ≡ round_at m 0 → ⊥))
      (λ i less out inside. absurd (⊎_elim (λ low. omega arith) (λ high. omega arith) out))
      OneRound
      (λ i from less e inside. round_alike (statement_at m 0) (statement_at m i) e)
      (λ i from less e. (omega arith, round_unlike (statement_at m 0) (statement_at m i) e))

  mixed_grants : (grants : ℕ) → quorum f + grants ≤ records m
      → Verdict Mixed (records m)
      (λ i. quorum f ≤ i → i < quorum f + grants → (claim_at m i ≡ claim_at m (quorum f)) × (round_at m i ≡ round_at m 0))
      (λ i. (quorum f ≤ i) × (i < quorum f + grants) × ((claim_at m i ≡ claim_at m (quorum f)) × (round_at m i ≡ round_at m 0) → ⊥))
      (refuse Mixed (quorum f) (first_unlike (OneClaimIn (statement_at m 0).round) (group m (quorum f) grants)))
  mixed_grants grants within =
      unlike_group m Mixed (quorum f) grants within
      (λ i. quorum f ≤ i → i < quorum f + grants → (claim_at m i ≡ claim_at m (quorum f)) × (round_at m i ≡ round_at m 0))
      (λ i. (quorum f ≤ i) × (i < quorum f + grants) × ((claim_at m i ≡ claim_at m (quorum f)) × (round_at m i ≡ round_at m 0) → ⊥))
      (λ i less out from inside. absurd (⊎_elim (λ low. omega arith) (λ high. omega arith) out))
      (OneClaimIn (statement_at m 0).round)
      (λ i from less e _ _. claim_in_alike (statement_at m (quorum f)) (statement_at m i) (statement_at m 0).round e)
      (λ i from less e. (from, less, claim_in_unlike (statement_at m (quorum f)) (statement_at m i) (statement_at m 0).round e))

  pub mixed_verdict : (form : Form) → HasForm f m form → Verdict Mixed (records m) (Agrees f m form) (λ i. Agrees f m form i → ⊥) (agreed f m form)
  mixed_verdict Write1 h = none_to_check Mixed (records m) (Agrees f m Write1) (λ i. Agrees f m Write1 i → ⊥) (λ i. tt)
  mixed_verdict Read h = none_to_check Mixed (records m) (Agrees f m Read) (λ i. Agrees f m Read i → ⊥) (λ i. tt)
  mixed_verdict Write2 h =
      let long : records m ≡ quorum f = h.1 in
      unlike_group m Mixed 0 (quorum f) (omega arith) (Agrees f m Write2) (λ i. Agrees f m Write2 i → ⊥)
      (λ i less out. absurd (⊎_elim (λ low. omega arith) (λ high. omega arith) out))
      OneClaim
      (λ i from less e. claim_alike (statement_at m 0) (statement_at m i) e)
      (λ i from less e. claim_unlike (statement_at m 0) (statement_at m i) e)
  mixed_verdict Resolve h =
      let long : records m ≡ quorum f + 1 = h.1 in
      unlike_group m Mixed 0 (quorum f) (omega arith) (Agrees f m Resolve) (λ i. Agrees f m Resolve i → ⊥)
      (λ i less out inside. absurd (⊎_elim (λ low. omega arith) (λ high. omega arith) out))
      OnePlace
      (λ i from less e inside. place_alike (statement_at m 0) (statement_at m i) e)
      (λ i from less e agrees. place_unlike (statement_at m 0) (statement_at m i) e (agrees (omega arith)))
  mixed_verdict (Round grants requests) h =
      let long : records m ≡ quorum f + grants + requests = h.3 in
      of_both Mixed (records m)
      (λ i. i < quorum f → round_at m i ≡ round_at m 0) (λ i. (i < quorum f) × (round_at m i ≡ round_at m 0 → ⊥))
      (λ i. quorum f ≤ i → i < quorum f + grants → (claim_at m i ≡ claim_at m (quorum f)) × (round_at m i ≡ round_at m 0))
      (λ i. (quorum f ≤ i) × (i < quorum f + grants) × ((claim_at m i ≡ claim_at m (quorum f)) × (round_at m i ≡ round_at m 0) → ⊥))
      (Agrees f m (Round grants requests)) (λ i. Agrees f m (Round grants requests) i → ⊥)
      (λ i less a b. (a, b))
      (λ i b agrees. b.1 (agrees.0 b.0))
      (λ i b agrees. b.2 (agrees.1 b.0 b.1))
      (λ i j b before from inside. let low : i < quorum f = b.0 in absurd (omega arith))
      (mixed_starts (omega arith))
      (mixed_grants grants (omega arith))
  mixed_verdict ShowGrant h = none_to_check Mixed (records m) (Agrees f m ShowGrant) (λ i. Agrees f m ShowGrant i → ⊥) (λ i. tt)
  mixed_verdict ShowCert h = none_to_check Mixed (records m) (Agrees f m ShowCert) (λ i. Agrees f m ShowCert i → ⊥) (λ i. tt)

  -- 6. SAME
  claim_in_group : (n k : ℕ) → k < n → claim_of (statement_at (group m 0 n) k) ≡ claim_at m k
  claim_in_group n k less = let z : 0 + k ≡ k = omega arith in ap claim_of (statement_group m 0 n k less) ∙ ap (claim_at m) z

  same_of_resolve : quorum f ≤ records m
      → ((clashing f m Resolve ≡ Ok tt) × (IsOneClaim f m Resolve → ⊥)) ⊎ ((clashing f m Resolve ≡ Err Same) × IsOneClaim f m Resolve)
  same_of_resolve within =
      let part = group m 0 (quorum f) in
      let long : records part ≡ quorum f = records-group m 0 (quorum f) (omega arith) in
      let t : ℕ → Bool = λ k. unlike OneClaim (statement_at part 0) (statement_at part k) in
      ⊎_elim
      (λ none. inr (
        ap clash none,
        λ i less.
            let here : claim_of (statement_at part i) ≡ claim_at m i = claim_in_group (quorum f) i less in
            let start : claim_of (statement_at part 0) ≡ claim_at m 0 = claim_in_group (quorum f) 0 (omega arith) in
            let same : claim_of (statement_at part i) ≡ claim_of (statement_at part 0) = claim_alike (statement_at part 0) (statement_at part i) (none_never t 0 (records part) none i (omega arith) (omega arith)) in
            cc (here, start, same),
      ))
      (λ some.
      let l : Lowest t 0 (records part) some.0 = some_lowest t 0 (records part) some.0 some.1 in
      let below = l.below in
      inl (
        ap clash some.1,
        λ one.
            claim_unlike (statement_at part 0) (statement_at part some.0) l.holds
            (claim_in_group (quorum f) some.0 (omega arith) ∙ one some.0 (omega arith) ∙ sym (claim_in_group (quorum f) 0 (omega arith))),
      ))
      (found_or_never t 0 (records part))

  pub same_verdict : (form : Form) → HasForm f m form
      → ((clashing f m form ≡ Ok tt) × (IsOneClaim f m form → ⊥)) ⊎ ((clashing f m form ≡ Err Same) × IsOneClaim f m form)
  same_verdict Write1 h = inl (refl, λ one. one)
  same_verdict Read h = inl (refl, λ one. one)
  same_verdict Write2 h = inl (refl, λ one. one)
  same_verdict Resolve h = let long : records m ≡ quorum f + 1 = h.1 in same_of_resolve (omega arith)
  same_verdict (Round grants requests) h = inl (refl, λ one. one)
  same_verdict ShowGrant h = inl (refl, λ one. one)
  same_verdict ShowCert h = inl (refl, λ one. one)

  -- 7. TWICE
  abbrev Earlier : ℕ → ℕ → Type 0
  Earlier first i = (j : ℕ) × (first ≤ j) × (j < i) × (signer_at m j ≡ signer_at m i)

  twice_in : (first n : ℕ) → first + n ≤ records m
      → Verdict Twice (records m) (λ i. i < first + n → Earlier first i → ⊥) (λ i. (first ≤ i) × (i < first + n) × Earlier first i) (refuse Twice first (first_again (group m first n)))
  twice_in first n within =
      again_group m Twice first n within (λ i. i < first + n → Earlier first i → ⊥) (λ i. (first ≤ i) × (i < first + n) × Earlier first i)
      (λ i less out inside p. let a : first ≤ p.0 = p.1 in let b : p.0 < i = p.2 in absurd (⊎_elim (λ low. omega arith) (λ high. omega arith) out))
      (λ i from less never _. never)
      (λ i from less earlier. (from, less, earlier))

  -- of a form with one group
  twice_alone : (form : Form) → ((first n : ℕ) → Group f form first n → (first ≡ 0) × (n ≡ quorum f)) → Group f form 0 (quorum f) → quorum f ≤ records m
      → Verdict Twice (records m) (λ i. Again f m form i → ⊥) (Again f m form) (refuse Twice 0 (first_again (group m 0 (quorum f))))
  twice_alone form only there within =
      again_group m Twice 0 (quorum f) (omega arith) (λ i. Again f m form i → ⊥) (Again f m form)
      (λ i less out again.
      let o = only again.0 again.1 again.2 in
      let e : again.0 ≡ 0 = o.0 in
      let e' : again.1 ≡ quorum f = o.1 in
      let inside : i < again.0 + again.1 = again.3 in
      ⊎_elim (λ low. omega arith) (λ high. omega arith) out)
      (λ i from less never again.
      let o = only again.0 again.1 again.2 in
      let p = again.4 in
      never (p.0, omega arith, p.2, p.3))
      (λ i from less p. (0, quorum f, there, less, p))

  pub twice_verdict : (form : Form) → HasForm f m form → Verdict Twice (records m) (λ i. Again f m form i → ⊥) (Again f m form) (distinct f m form)
  twice_verdict Write1 h = none_to_check Twice (records m) (λ i. Again f m Write1 i → ⊥) (Again f m Write1) (λ i again. again.2)
  twice_verdict Read h = none_to_check Twice (records m) (λ i. Again f m Read i → ⊥) (Again f m Read) (λ i again. again.2)
  twice_verdict Write2 h = let long : records m ≡ quorum f = h.1 in twice_alone Write2 (λ first n g. g) (refl, refl) (omega arith)
  twice_verdict Resolve h = let long : records m ≡ quorum f + 1 = h.1 in twice_alone Resolve (λ first n g. g) (refl, refl) (omega arith)
  twice_verdict (Round grants requests) h =
      let long : records m ≡ quorum f + grants + requests = h.3 in
      of_both Twice (records m)
      (λ i. i < 0 + quorum f → Earlier 0 i → ⊥) (λ i. (0 ≤ i) × (i < 0 + quorum f) × Earlier 0 i)
      (λ i. i < quorum f + grants → Earlier (quorum f) i → ⊥) (λ i. (quorum f ≤ i) × (i < quorum f + grants) × Earlier (quorum f) i)
      (λ i. Again f m (Round grants requests) i → ⊥) (Again f m (Round grants requests))
      (λ i less a b again.
      let inside : i < again.0 + again.1 = again.3 in
      let p = again.4 in
      let from : again.0 ≤ p.0 = p.1 in
      ⊎_elim
      (λ g. let e : again.0 ≡ 0 = g.0 in let e' : again.1 ≡ quorum f = g.1 in a (omega arith) (p.0, omega arith, p.2, p.3))
      (λ g. let e : again.0 ≡ quorum f = g.0 in let e' : again.1 ≡ grants = g.1 in b (omega arith) (p.0, omega arith, p.2, p.3))
      again.2)
      (λ i b. (0, quorum f, inl (refl, refl), b.1, b.2))
      (λ i b. (quorum f, grants, inr (refl, refl), b.1, b.2))
      (λ i j b before inside p. let low : i < 0 + quorum f = b.1 in let a : quorum f ≤ p.0 = p.1 in let c : p.0 < j = p.2 in omega arith)
      (twice_in 0 (quorum f) (omega arith))
      (twice_in (quorum f) grants (omega arith))
  twice_verdict ShowGrant h = none_to_check Twice (records m) (λ i. Again f m ShowGrant i → ⊥) (Again f m ShowGrant) (λ i again. again.2)
  twice_verdict ShowCert h = none_to_check Twice (records m) (λ i. Again f m ShowCert i → ⊥) (Again f m ShowCert) (λ i again. again.2)

  -- 8. UNVOUCHED
  abbrev pub ShownGood : (List ℕ → Bool) → Form → ℕ → Type 0
  ShownGood accepts form i = Sealed form → accepts (record_at m i) ≡ true

  abbrev pub ShownBad : (List ℕ → Bool) → Form → ℕ → Type 0
  ShownBad accepts form i = Sealed form × (accepts (record_at m i) ≡ false)

  all_shown : (accepts : List ℕ → Bool) (form : Form) → Sealed form → Verdict Unvouched (records m) (ShownGood accepts form) (ShownBad accepts form) (refuse Unvouched 0 (first_unvouched accepts m))
  all_shown accepts form sealed =
      of_part Unvouched (records m) 0 0 (records m) (λ k. not (accepts (record_at m k))) (ShownGood accepts form) (ShownBad accepts form)
      (λ k from below. omega arith)
      (λ k from below e _. let z : k ≡ 0 + k = omega arith in ap (λ i. accepts (record_at m i)) (sym z) ∙ not-false _ e)
      (λ k from below e. let z : k ≡ 0 + k = omega arith in (sealed, ap (λ i. accepts (record_at m i)) (sym z) ∙ not-true _ e))
      (λ i less out. absurd (⊎_elim (λ low. omega arith) (λ high. omega arith) out))

  pub vouched_verdict : (accepts : List ℕ → Bool) (form : Form) → Verdict Unvouched (records m) (ShownGood accepts form) (ShownBad accepts form) (vouched accepts m form)
  vouched_verdict accepts Write1 = all_shown accepts Write1 tt
  vouched_verdict accepts Read = all_shown accepts Read tt
  vouched_verdict accepts Write2 = all_shown accepts Write2 tt
  vouched_verdict accepts Resolve = all_shown accepts Resolve tt
  vouched_verdict accepts (Round grants requests) = all_shown accepts (Round grants requests) tt
  vouched_verdict accepts ShowGrant = none_to_check Unvouched (records m) (ShownGood accepts ShowGrant) (ShownBad accepts ShowGrant) (λ i sealed. absurd sealed)
  vouched_verdict accepts ShowCert = none_to_check Unvouched (records m) (ShownGood accepts ShowCert) (ShownBad accepts ShowCert) (λ i sealed. absurd sealed)

  -- 9. LOW
  pub low_verdict : (form : Form) → HasForm f m form → Verdict Low (records m) (λ i. Above f m form i → ⊥) (Above f m form) (reached f m form)
  low_verdict Write1 h = none_to_check Low (records m) (λ i. Above f m Write1 i → ⊥) (Above f m Write1) (λ i above. above)
  low_verdict Read h = none_to_check Low (records m) (λ i. Above f m Read i → ⊥) (Above f m Read) (λ i above. above)
  low_verdict Write2 h = none_to_check Low (records m) (λ i. Above f m Write2 i → ⊥) (Above f m Write2) (λ i above. above)
  low_verdict Resolve h = none_to_check Low (records m) (λ i. Above f m Resolve i → ⊥) (Above f m Resolve) (λ i above. above)
  low_verdict (Round grants requests) h =
      let long : records m ≡ quorum f + grants + requests = h.3 in
      let t = target m (quorum f) grants in
      of_group m Low 0 (quorum f) (omega arith) (λ i. Above f m (Round grants requests) i → ⊥) (Above f m (Round grants requests))
      (λ i less out above. let low : i < quorum f = above.0 in ⊎_elim (λ low. omega arith) (λ high. omega arith) out)
      (λ k. ltb t (statement_at (group m 0 (quorum f)) k).place) (λ i. ltb t (place_at m i))
      (λ k less. ap (λ (s : Statement). ltb t s.place) (statement_group m 0 (quorum f) k less))
      (λ i from less e above. let up : t < place_at m i = above.1 in let down : place_at m i ≤ t = ltb-false t (place_at m i) e in omega arith)
      (λ i from less e. (omega arith, ltb-true t (place_at m i) e))
  low_verdict ShowGrant h = none_to_check Low (records m) (λ i. Above f m ShowGrant i → ⊥) (Above f m ShowGrant) (λ i above. above)
  low_verdict ShowCert h = none_to_check Low (records m) (λ i. Above f m ShowCert i → ⊥) (Above f m ShowCert) (λ i above. above)

  -- 10. ORDER
  rising_requests : (grants requests : ℕ) → records m ≡ quorum f + grants + requests
      → Verdict Order (records m) (λ i. Unordered f m (Round grants requests) i → ⊥) (Unordered f m (Round grants requests)) (refuse Order (quorum f + grants) (first_unordered (group m (quorum f + grants) requests)))
  rising_requests grants requests long =
      let first = quorum f + grants in
      let part = group m first requests in
      let many : records part ≡ requests = records-group m first requests (omega arith) in
      let client : (k : ℕ) → k < requests → (statement_at part k).client ≡ client_at m (first + k) = λ k less. ap (λ (s : Statement). s.client) (statement_group m first requests k less) in
      let before : (k : ℕ) → 1 ≤ k → k < requests → (statement_at part (k - 1)).client ≡ client_at m (first + k - 1) =
      λ k from less. let z : first + (k - 1) ≡ first + k - 1 = omega arith in client (k - 1) (omega arith) ∙ ap (client_at m) z in
      of_part Order (records m) first 1 (records part - 1) (λ k. leb (statement_at part k).client (statement_at part (k - 1)).client)
      (λ i. Unordered f m (Round grants requests) i → ⊥) (Unordered f m (Round grants requests))
      (λ k from below. omega arith)
      (λ k from below e unordered.
      let up : (statement_at part (k - 1)).client < (statement_at part k).client = leb-false _ _ e in
      let down : client_at m (first + k) ≤ client_at m (first + k - 1) = unordered.1 in
      let a : (statement_at part k).client ≡ client_at m (first + k) = client k (omega arith) in
      let b : (statement_at part (k - 1)).client ≡ client_at m (first + k - 1) = before k from (omega arith) in
      omega (arith, up, down, a, b))
      (λ k from below e.
      let down : (statement_at part k).client ≤ (statement_at part (k - 1)).client = leb-true _ _ e in
      let a : (statement_at part k).client ≡ client_at m (first + k) = client k (omega arith) in
      let b : (statement_at part (k - 1)).client ≡ client_at m (first + k - 1) = before k from (omega arith) in
      (omega arith, omega (arith, down, a, b)))
      (λ i less out unordered. let high : first < i = unordered.0 in ⊎_elim (λ low. omega arith) (λ past. omega arith) out)

  pub order_verdict : (form : Form) → HasForm f m form → Verdict Order (records m) (λ i. Unordered f m form i → ⊥) (Unordered f m form) (ordered f m form)
  order_verdict Write1 h = none_to_check Order (records m) (λ i. Unordered f m Write1 i → ⊥) (Unordered f m Write1) (λ i u. u)
  order_verdict Read h = none_to_check Order (records m) (λ i. Unordered f m Read i → ⊥) (Unordered f m Read) (λ i u. u)
  order_verdict Write2 h = none_to_check Order (records m) (λ i. Unordered f m Write2 i → ⊥) (Unordered f m Write2) (λ i u. u)
  order_verdict Resolve h = none_to_check Order (records m) (λ i. Unordered f m Resolve i → ⊥) (Unordered f m Resolve) (λ i u. u)
  order_verdict (Round grants requests) h = rising_requests grants requests h.3
  order_verdict ShowGrant h = none_to_check Order (records m) (λ i. Unordered f m ShowGrant i → ⊥) (Unordered f m ShowGrant) (λ i u. u)
  order_verdict ShowCert h = none_to_check Order (records m) (λ i. Unordered f m ShowCert i → ⊥) (Unordered f m ShowCert) (λ i u. u)
