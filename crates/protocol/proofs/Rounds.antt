-- The rounds of the whole pool: all sound sites go through the same rounds.
use Rattle.std.proofs.Common.{◌≡◌, ℕ, zero, suc, ◌<◌, ◌⊎◌, sym, subst, inl, inr, ⊎_elim, arith}
use Rattle.std.proofs.lemmas.Bool.{cases_order}
use Rattle.object.specs.Rules.{Rules}
use Rattle.protocol.specs.Words.{took, Transcript}
use Rattle.protocol.specs.Quorum.{Pool, Sound}
use Rattle.protocol.specs.Book.{Happened, Closed}
use Rattle.protocol.specs.Moves.{Site, History}
use Rattle.protocol.specs.Promise.{Life}
use Rattle.protocol.proofs.Travel.{Reached, Step, step}

-- Some sound site went from the round r, at the target t, to the round x.
pub record Went (T : Transcript) (r t x : ℕ) : Type 0 where
  pub site : ℕ
  pub took_it : Happened site (took r t x) T

-- A round that some sound site came into.
abbrev pub Visited : Transcript → ℕ → Type 0
Visited T r = (r ≡ 0) ⊎ ((u : ℕ) × (t : ℕ) × Went T u t r)

pub visited : {T : Transcript} {s r : ℕ} → Reached s T r → Visited T r
visited (inl z) = inl z
visited {s = s} (inr h) = inr (h.0, h.1, record { site = s; took_it = h.2 })

pub closed_went : {T : Transcript} {r t : ℕ} → Closed T r t → (x : ℕ) × Went T r t x
closed_went h = (h.1, record { site = h.0; took_it = h.2 })

module _ {pool : Pool} {R : Rules} {first : R.Value} {T : Transcript} (life : Life pool R first T) where
  -- A site's history.
  abbrev pub history : (s : ℕ) (i : Sound pool s) → History pool R first s T (life.each s i).0
  history s i = (life.each s i).1

  pub went_step : {r t x : ℕ} → Went T r t x → (st : Site) × (s : ℕ) × Step s pool T st r t x
  went_step h = let i = life.ours h.site (took _ _ _) h.took_it in ((life.each h.site i).0, h.site, step (history h.site i) h.took_it)

  pub went_from : {r t x : ℕ} → Went T r t x → Visited T r
  went_from h = visited (went_step h).2.from

  pub went_up : {r t x : ℕ} → Went T r t x → r < x
  went_up h = (went_step h).2.rises

  pub agreed : {r t x u y : ℕ} → Went T r t x → Went T r u y → (t ≡ u) × (x ≡ y)
  agreed g h = life.agreed g.site h.site _ _ _ _ _ g.took_it h.took_it

  -- No sound site comes into a round between one that some sound site left and the next.
  between_below : (n x : ℕ) → x < n → Visited T x → {y t z : ℕ} → Went T y t z → y < x → x < z → ⊥
  between_below zero x l v w a b = omega arith
  between_below (suc n) x l (inl e) w a b = omega arith
  between_below (suc n) x l (inr h) {y} {t} {z} w a b = let up = went_up h.2 in ⊎_elim
      (λ e. let k = agreed (subst (λ u. Went T u h.1 x) e h.2) w in omega arith)
      (⊎_elim (λ i. between_below n y (omega arith) (went_from w) h.2 i a) (λ i. between_below n h.0 (omega arith) (went_from h.2) w i (omega arith)))
      (cases_order h.0 y)

  pub none_between : {x y t z : ℕ} → Visited T x → Went T y t z → y < x → x < z → ⊥
  none_between {x} v w a b = between_below (suc x) x (omega arith) v w a b

  -- A round is come into from one round only, at one target.
  pub one_before : {u t w r x : ℕ} → Went T u t x → Went T w r x → (u ≡ w) × (t ≡ r)
  one_before {u} {t} {w} {r} {x} g h = ⊎_elim (λ e. (e, (agreed (subst (λ y. Went T y t x) e g) h).0))
      (⊎_elim (λ i. absurd (none_between (went_from h) g i (went_up h))) (λ i. absurd (none_between (went_from g) h i (went_up g)))) (cases_order u w)

  -- Of two rounds that were come into, the lower is closed.
  closed_below : (n y : ℕ) → y < n → {x : ℕ} → Visited T x → Visited T y → x < y → (t : ℕ) × (z : ℕ) × Went T x t z
  closed_below zero y l v w i = absurd (omega arith)
  closed_below (suc n) y l v (inl e) i = absurd (omega arith)
  closed_below (suc n) y l {x} v (inr h) i = let up = went_up h.2 in ⊎_elim
      (λ e. (h.1, y, subst (λ u. Went T u h.1 y) (sym e) h.2))
      (⊎_elim (λ k. closed_below n h.0 (omega arith) v (went_from h.2) k) (λ k. absurd (none_between v h.2 k i)))
      (cases_order x h.0)

  pub lower_closed : {x y : ℕ} → Visited T x → Visited T y → x < y → (t : ℕ) × (z : ℕ) × Went T x t z
  lower_closed {y = y} v w l = closed_below (suc y) y (omega arith) v w l
