-- What each verdict over a sound desk is worth.
use Rattle.std.proofs.Common.{◌≡◌, ℕ, ◌≤◌, Bool, true, false, cond, ◌⊎◌, List, [], ◌∷◌, length, take, drop, IfOk, Some, None, Ok, Err, Option, Result, sym, refl, ap, ◌∙◌, subst, inl, inr, arith}
use Rattle.std.proofs.lemmas.List.{take_at}
use Rattle.std.proofs.lemmas.Bool.{eqb-true, or_cases, false≢true}
use Rattle.std.proofs.lemmas.Bool.Decides.{nat_tests}
use Rattle.message.specs.Checks.{buffers_fit}
use Rattle.message.specs.declared.faults.CertificateFault.TheVariants.{Message}
use Rattle.message.specs.declared.faults.MessageFault.TheVariants.{Short}
use Rattle.message.specs.declared.faults.SiteFault.TheVariants.{Certificate}
use Rattle.message.specs.declared.refusal.Refusal.{Refusal}
use Rattle.message.specs.Forms.{quorum}
use Rattle.record.specs.Claims.{claim_of}
use Rattle.office.proofs.Confirming.{write_confirmed, reading_confirmed}
use Rattle.office.proofs.Members.{slot_there}
use Rattle.office.proofs.Passing.{certificate, clash}
use Rattle.office.proofs.Ranks.{Ranked, has_latest}
use Rattle.record.specs.declared.fields.Record.{Record}
use Rattle.record.specs.declared.fields.Statement.{Statement}
use Rattle.office.specs.Latest.{Latest}
use Rattle.office.specs.Likenesses.{is_filed}
use Rattle.office.specs.Slots.{slot_at}
use Rattle.office.specs.Taking.{is_grant, is_answer, is_read_answer}
use Rattle.office.specs.Calls.{Leaves, Step, finished, board_after, judge_call, judge_write, judgement}
use Rattle.office.specs.Filed.{Filed, Sound, is_write_reply}
use Rattle.office.specs.Fit.{fit_figures}
use Rattle.office.specs.Judging.{lead, found_bytes}
use Rattle.office.specs.Laws.{ByHeard, Warranted, ReadingWarranted}
use Rattle.office.specs.Sending.{Worth, ReadingWorth}
use Rattle.office.specs.declared.desk.Desk.{Desk}
use Rattle.office.specs.declared.slots.Slot.{Slot}
use Rattle.office.specs.declared.verdict.Judged.{Judged}
use Rattle.office.specs.declared.verdict.Verdict.{Verdict}
use Rattle.office.specs.declared.verdict.Verdict.TheVariants.{Done, Certify, Back, Clash, Catch, Wait}

-- Figures that fit have an f of at most 5.
pub few_faulty : (f client : ℕ) → fit_figures f client ≡ true → f ≤ 5
few_faulty f client fit = grind (arith, nat_tests)

-- A weaker fact of what a call gives.
pub made_so : {T E : Type 0} (P Q : T → Type 0) → ((x : T) → P x → Q x) → (r : Result T E) → IfOk r P → IfOk r Q
made_so P Q so (Ok x) h = so x h
made_so P Q so (Err e) h = tt

few_heard : (f : ℕ) → 1 ≤ quorum f
few_heard f = omega arith

-- A reply to a write is of one of its two kinds.
write_kind : (s : Statement) → is_write_reply s ≡ true → (s.kind ≡ 2) ⊎ (s.kind ≡ 4)
write_kind s e =
    elim (or_cases (is_grant s) (is_answer s) e) [
      | inl grant ↦ inl (eqb-true s.kind 2 grant)
      | inr answer ↦ inr (eqb-true s.kind 4 answer)
    ]

-- A slot that is heard holds a reply.
heard_one : (o : Option Record) → is_filed o ≡ true → (r : Record) × (o ≡ Some r)
heard_one None e = absurd (false≢true e)
heard_one (Some r) e = (r, refl)

-- CATCH over a quorum names the site with the latest reply.
named : (slots : List Slot) → Ranked slots → (q : ℕ) → 1 ≤ q → (site : ℕ) → ByHeard q slots (Catch site) → Latest slots site
named slots ranked q some site (e, ([], quorate)) = let z : 0 ≡ q = quorate.size in absurd (omega arith)
named slots ranked q some site (e, (i ∷ rest, quorate)) =
    let sent = quorate.sent.0 in
    let h = heard_one sent.0.filed sent.2 in
    let there : (slot_at slots i).filed ≡ Some h.0 = ap (λ (s : Slot). s.filed) (slot_there slots i sent.0 sent.1) ∙ h.1 in
    subst (Latest slots) (sym e) (has_latest slots ranked i h.0 there)

module _ (f client : ℕ) (accepts : List ℕ → Bool) (desk : Desk) (low : f ≤ 5) (sound : Sound f client accepts desk) where
  abbrev slots : List Slot
  slots = desk.replies.at

  write_ranked : Filed f client accepts desk is_write_reply slots → Ranked slots
  write_ranked filed = record {
    places = λ i r e. (filed i r e).1.fits.place;
    kinds = λ i j r s ei ej. inl (write_kind r.statement (filed i r ei).0, write_kind s.statement (filed j s ej).0);
  }

  read_ranked : Filed f client accepts desk is_read_answer desk.readings.at → Ranked desk.readings.at
  read_ranked filed = record {
    places = λ i r e. (filed i r e).1.fits.place;
    kinds = λ i j r s ei ej. inr (eqb-true r.statement.kind 5 (filed i r ei).0, eqb-true s.statement.kind 5 (filed j s ej).0);
  }

  pub worth : (verdict : Verdict) (found : Option (List ℕ)) → Warranted (quorum f) client desk.write slots verdict found → Worth f client accepts desk verdict (found_bytes slots found)
  worth (Done answer) found right = write_confirmed f client accepts desk sound answer right
  worth Certify None right = absurd right.1
  worth Certify (Some sites) right =
      let q = right.1 in (claim_of (lead slots sites), q.1, certificate f client accepts desk slots low sound.replies sites q.0)
  worth Back None right = absurd right.1
  worth Back (Some sites) right =
      let q = right.1 in (claim_of (lead slots sites), q.1, certificate f client accepts desk slots low sound.replies sites q.0)
  worth Clash None right = absurd right.1.1
  worth Clash (Some sites) right = clash f client accepts desk slots low sound.replies sites right.1.1 right.1.0
  worth (Catch site) found right = let h = right.1.1.1 in named slots (write_ranked sound.replies) (quorum f) (few_heard f) site h
  worth Wait found right = tt

  pub reading_worth : (verdict : Verdict) → ReadingWarranted (quorum f) desk.readings.at verdict → ReadingWorth f client accepts desk verdict
  reading_worth (Done answer) right = reading_confirmed f client accepts desk sound answer right
  reading_worth Certify right = tt
  reading_worth Back right = tt
  reading_worth Clash right = tt
  reading_worth (Catch site) right = let h = right.1 in named desk.readings.at (read_ranked sound.readings) (quorum f) (few_heard f) site h
  reading_worth Wait right = tt

-- The bytes that a call wrote stand at the front of the output, as many as it says.
wrote
    : (fits : Bool) (step : Step Judged) (desk now : Desk) (output out board cleared : List ℕ) (judged : Judged)
    → Leaves (finished desk output board (cond fits (Ok step) (Err (Certificate (Message Short))))) now out cleared (Ok judged)
    → step.given.count ≡ length step.bytes
    → take judged.count out ≡ step.bytes
wrote true step desk now output out board cleared judged leaves size =
    let same : judged ≡ step.given = cc leaves.result in
    let long : judged.count ≡ length step.bytes = ap (λ (j : Judged). j.count) same ∙ size in
    ap (take judged.count) leaves.output ∙ take_at step.bytes (drop (length step.bytes) output) judged.count (sym long)
wrote false step desk now output out board cleared judged leaves size = let z : ◌≡◌ {A = ℕ} 0 1 = cc leaves.result in absurd (omega arith)

pub judged_worth
    : (f client : ℕ) (accepts : List ℕ → Bool) (desk : Desk) (output out board cleared : List ℕ) (r : Result Judged Refusal)
    → f ≤ 5
    → Sound f client accepts desk
    → Leaves (judge_call f client desk output board) desk out cleared r
    → IfOk r (λ j. Warranted (quorum f) client desk.write desk.replies.at j.verdict (judge_write f client desk).sites)
    → IfOk r (λ j. Worth f client accepts desk j.verdict (take j.count out))
judged_worth f client accepts desk output out board cleared (Err e) low sound leaves right = tt
judged_worth f client accepts desk output out board cleared (Ok j) low sound leaves right =
    let found = (judge_write f client desk).sites in
    let bytes = found_bytes desk.replies.at found in
    let e : take j.count out ≡ bytes =
    wrote (buffers_fit (length output) (length board)) (judgement desk bytes (judge_write f client desk).verdict) desk desk output out (board_after (length output) board) cleared j leaves refl in
    subst (Worth f client accepts desk j.verdict) (sym e) (worth f client accepts desk low sound j.verdict found right)
