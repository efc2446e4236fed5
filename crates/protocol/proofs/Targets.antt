-- The targets of the whole pool: they rise, and what is certified or confirmed in a closed round lies within its target.
use Rattle.std.proofs.Common.{◌≡◌, ℕ, zero, suc, ◌+◌, ◌<◌, ◌≤◌, List, [], ◌∷◌, length, sym, subst, ⊎_elim, arith}
use Rattle.std.proofs.lemmas.Bool.{cases_order}
use Rattle.object.specs.Rules.{Rules}
use Rattle.protocol.specs.Words.{Claim, Question, start, Transcript}
use Rattle.protocol.specs.Quorum.{Pool, Sound}
use Rattle.protocol.specs.Book.{Wrote, Certified, Confirmed, ConfirmedReading, Started, Passing, Closed, Line, writes, round_of}
use Rattle.protocol.specs.Moves.{Site, round_in, writes_in}
use Rattle.protocol.specs.Promise.{Life}
use Rattle.protocol.proofs.Quorums.{shared}
use Rattle.protocol.proofs.Lists.{line_place, line_fact}
use Rattle.protocol.proofs.Shape.{Tip, Band, Left, Shape, in_standing, in_pulling, in_settling, shape}
use Rattle.protocol.proofs.Travel.{same_writes, same_round}
use Rattle.protocol.proofs.Grants.{spoken}
use Rattle.protocol.proofs.Kept.{stood_bound}
use Rattle.protocol.proofs.Answers.{answers, Read, at_first, after, readings}
use Rattle.protocol.proofs.Rounds.{Went, Visited, visited, closed_went, history, went_step, went_from, went_up, agreed, none_between, one_before}

module _ {pool : Pool} {R : Rules} {first : R.Value} {T : Transcript} (life : Life pool R first T) where
  -- The STARTs of a round lie above the target at which the round was come into.
  pub rises_once : {u b r t : ℕ} → Went T u b r → Started pool T r t → b < t
  rises_once {r = r} g q =
      let h = shared life.few q q in let i = h.1 in let w = h.2 i.is_sound in let up = went_up life g in
      ⊎_elim (λ z. absurd (omega arith))
      (λ e. let k = one_before life g (record { site = h.0; took_it = e.2 }) in omega arith)
      ((spoken (history life h.0 i)).entry r w.0 w.1)

  -- Targets rise with the rounds.
  rise_below : (n y : ℕ) → y < n → {x t z b c : ℕ} → Went T x t z → Went T y b c → x < y → t < b
  rise_below zero y l g h i = absurd (omega arith)
  rise_below (suc n) y l {x} {t} {z} {b} {c} g h i = ⊎_elim (λ e. absurd (omega arith))
      (λ v. let k = rises_once v.2 (went_step life h).2.starts in let up = went_up life v.2 in ⊎_elim
      (λ e. let m = agreed life (subst (λ u. Went T u t z) e g) v.2 in omega arith)
      (⊎_elim (λ d. let m = rise_below n v.0 (omega arith) g v.2 d in omega arith) (λ d. absurd (none_between life (went_from life g) v.2 d i)))
      (cases_order x v.0))
      (went_from life h)

  pub rises : {x t z y b c : ℕ} → Went T x t z → Went T y b c → x < y → t < b
  rises {y = y} g h i = rise_below (suc y) y (omega arith) g h i

  -- What is certified in a round that has its STARTs lies at most one place above their bound.
  pub below_grant : {c : Claim} {t : ℕ} → Started pool T c.round t → Certified pool T c → c.place ≤ suc t
  below_grant {c} q k =
      let h = shared life.few q k in let i = h.1 in let w = h.2 i.is_sound in
      let l = (spoken (history life h.0 i)).near c w.0 (h.3 i.is_sound) w.1 in omega arith

  pub closed_started : {r t : ℕ} → Closed T r t → Started pool T r t
  closed_started h = (went_step life (closed_went h).1).2.starts

  pub left_within : {s r t k : ℕ} → Closed T r t → Left s T r k → k ≤ t
  left_within {s} h l = let e = agreed life (closed_went h).1 (record { site = s; took_it = l.2 }) in omega arith

  -- What is confirmed in a closed round lies within its target.
  pub below_answer : {c : Claim} {a t : ℕ} → Closed T c.round t → Confirmed pool T c a → c.place ≤ t
  below_answer g k =
      let h = shared life.few (closed_started g) k in let i = h.1 in let w = h.2 i.is_sound in let y = history life h.0 i in
      ⊎_elim (λ l. omega arith) (left_within g) (stood_bound y (answers y (h.3 i.is_sound)).stood w.1)

  pub below_reading : {q : Question} {r p a t : ℕ} → Closed T r t → ConfirmedReading pool T q r p a → p ≤ t
  below_reading {q} {r} {p} {a} {t} g k =
      let h = shared life.few (closed_started g) k in let i = h.1 in let w = h.2 i.is_sound in let y = history life h.0 i in
      from h.0 i w (readings y (h.3 i.is_sound))
    where
      from : (s : ℕ) (i : Sound pool s) → (k : ℕ) × Wrote s (start r k) T × (k ≤ t) → Read s R first T (life.each s i).0 q r p a → p ≤ t
      from s i w (at_first e f z) = omega arith
      from s i w (after {c = c} n e f z) =
          ⊎_elim (λ l. omega arith) (λ l. let j = left_within (subst (λ x. Closed T x t) e g) l in omega arith)
          (stood_bound (history life s i) n (subst (λ x. Wrote s (start x w.0) T) e w.1))

  -- Certified claims are of rounds that were come into.
  pub certified_visited : {c : Claim} → Certified pool T c → Visited T c.round
  certified_visited {c} k = let h = shared life.few k k in let i = h.1 in
      visited ((spoken (history life h.0 i)).of_reached c (h.2 i.is_sound))

  -- Two certified claims of one round and place are one.
  pub one_claim : (c d : Claim) → Certified pool T c → Certified pool T d → c.round ≡ d.round → c.place ≡ d.place → c ≡ d
  one_claim c d k l = let h = shared life.few k l in let i = h.1 in
      (spoken (history life h.0 i)).alike c d (h.2 i.is_sound) (h.3 i.is_sound)

  -- A site whose last write is of its round stands at most one place past the bound of that round's STARTs.
  tip_near : {s v t : ℕ} (w : List Claim) → Line (Band s pool T v) 0 w → Tip v w → Started pool T v t → length w ≤ t + 1
  tip_near [] l e q = omega arith
  tip_near {t = t} (c ∷ w) l e q = let k = line_place l in let m = below_grant (subst (λ r. Started pool T r t) (sym e) q) (line_fact l).certified in omega arith

  pub near : {s t : ℕ} {st : Site} → Shape s pool T st → Started pool T (round_in st) t → length (writes_in st) ≤ t + 1
  near (in_standing {w = w} h) q = tip_near w h.line h.tip q
  near {s} (in_pulling h) q = let k = rises_once (record { site = s; took_it = h.took_it }) q in omega (arith, h.short)
  near {s} (in_settling {w = w} h) q = ⊎_elim (λ l. let k = rises_once (record { site = s; took_it = h.entry.1 }) q in omega arith) (λ e. tip_near w h.line e q) h.tip

  -- No sound site stands further past a target.
  pub not_too_far : (s t : ℕ) → Sound pool s → Passing pool T (round_of s T) t → length (writes s T) ≤ t + 1
  not_too_far s t i q = let h = history life s i in
      rw (same_writes h) (near (shape h) (subst (λ r. Started pool T r t) (same_round h) q.starts))
