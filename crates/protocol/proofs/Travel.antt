-- The rounds that one sound site goes through, and that its transcript shows its round and its writes.
use Rattle.std.proofs.Common.{◌≡◌, ℕ, suc, ◌<◌, ◌≤◌, ◌⊎◌, ◌∷◌, refl, ap, ◌∙◌, inl, inr, ⊎_elim, arith}
use Rattle.std.proofs.lemmas.Bool.{cond-true, cond-false, eq-eqb, ne_eqb}
use Rattle.object.specs.Rules.{Rules}
use Rattle.protocol.specs.Words.{Deed, took, Event, did, Transcript}
use Rattle.protocol.specs.Quorum.{Pool}
use Rattle.protocol.specs.Book.{Happened, happened_now, happened_before, Started, rewritten, writes, moved_on, round_of}
use Rattle.protocol.specs.Moves.{Site, round_in, writes_in, Says, answers_again, shows, repeats_answer, repeats_start, reads, repeats, writes_nothing, Move, says, grants, freezes, writes_open, pulls, pulls_last, settles, settles_last, strikes, meets, falls_behind, History, begins, others, own}
use Rattle.protocol.proofs.Lists.{begins_length, line_begin, line_place}
use Rattle.protocol.proofs.Shape.{started_later, Shape, line_in, shape}

-- Of a deed or word in a transcript: it is the last event's, or it was there before.
pub data Is (b : Deed) : Deed → Type 0 where
  same : Is b b

pub latest : {s x : ℕ} {b d : Deed} {T : Transcript} → Happened s b (did x d ∷ T) → Is b d ⊎ Happened s b T
latest happened_now = inl same
latest (happened_before h) = inr h

module _ (s : ℕ) where
  -- The site came into the round r, at some time.
  abbrev pub Reached : Transcript → ℕ → Type 0
  Reached T r = (r ≡ 0) ⊎ ((u : ℕ) × (t : ℕ) × Happened s (took u t r) T)

-- This stays so.
pub reached_later : {s : ℕ} {e : Event} {T : Transcript} {r : ℕ} → Reached s T r → Reached s (e ∷ T) r
reached_later (inl z) = inl z
reached_later (inr h) = inr (h.0, h.1, happened_before h.2)

-- What others do is nothing that this site did.
happened_other : {s x : ℕ} {d b : Deed} {T : Transcript} → (x ≡ s → ⊥) → Happened s b (did x d ∷ T) → Happened s b T
happened_other n happened_now = absurd (n refl)
happened_other n (happened_before h) = h

module _ (s : ℕ) (pool : Pool) where
  -- A ROUND that the site took: it rises, it had its STARTs, and the site was in the round that it left.
  pub record Step (T : Transcript) (st : Site) (r t x : ℕ) : Type 0 where
    pub rises : r < x
    pub past : x ≤ round_in st
    pub starts : Started pool T r t
    pub from : Reached s T r

-- This stays so.
step_later : {s : ℕ} {pool : Pool} {e : Event} {T : Transcript} {st st' : Site} {r t x : ℕ} → round_in st ≤ round_in st' → Step s pool T st r t x → Step s pool (e ∷ T) st' r t x
step_later l h = record { rises = h.rises; past = omega (arith, h.past); starts = started_later h.starts; from = reached_later h.from }

module _ {s : ℕ} {pool : Pool} {R : Rules} {first : R.Value} where
  -- No call leads to a lower round.
  round_rises : {T : Transcript} {st st' : Site} {d : Deed} → Move pool R first s T st d st' → round_in st ≤ round_in st'
  round_rises (says m) = omega arith
  round_rises (grants p q) = omega arith
  round_rises freezes = omega arith
  round_rises (writes_open k p q) = omega arith
  round_rises (pulls k p q l) = omega arith
  round_rises (pulls_last k p q l g) = omega arith
  round_rises (settles k p q l) = omega arith
  round_rises (settles_last k p q l) = omega arith
  round_rises (strikes k p q g) = omega arith
  round_rises (meets k p q g) = omega arith
  round_rises (falls_behind k p q) = omega arith

  -- A ROUND is taken by the calls for it only.
  not_said : {T : Transcript} {st : Site} {r t x : ℕ} → Says pool R first s T st (took r t x) → ⊥
  not_said m = elim m [ ]

  -- The round that a site is in, it came into.
  reached_step : {T : Transcript} {st st' : Site} {d : Deed} → Reached s T (round_in st) → Move pool R first s T st d st' → Reached s (did s d ∷ T) (round_in st')
  reached_step h (says m) = reached_later h
  reached_step h (grants p q) = reached_later h
  reached_step h freezes = reached_later h
  reached_step h (writes_open k p q) = reached_later h
  reached_step h (pulls k p q l) = reached_later h
  reached_step h (pulls_last k p q l g) = reached_later h
  reached_step h (settles k p q l) = reached_later h
  reached_step h (settles_last k p q l) = reached_later h
  reached_step h (strikes {v = v} {t = t} k p q g) = inr (v, t, happened_now)
  reached_step h (meets {v = v} {t = t} k p q g) = inr (v, t, happened_now)
  reached_step h (falls_behind {v = v} {t = t} k p q) = inr (v, t, happened_now)

  pub reached : {T : Transcript} {st : Site} → History pool R first s T st → Reached s T (round_in st)
  reached begins = inl refl
  reached (others n h) = reached_later (reached h)
  reached (own h m) = reached_step (reached h) m

  -- Every ROUND that a site took is such a step.
  step_own : {T : Transcript} {st st' : Site} {d : Deed} {r t x : ℕ} → Reached s T (round_in st) → Is (took r t x) d → Move pool R first s T st d st' → Step s pool (did s d ∷ T) st' r t x
  step_own h same (says m) = absurd (not_said m)
  step_own h same (strikes k p q g) = record { rises = p; past = omega arith; starts = started_later k.starts; from = reached_later h }
  step_own h same (meets k p q g) = record { rises = p; past = omega arith; starts = started_later k.starts; from = reached_later h }
  step_own h same (falls_behind k p q) = record { rises = p; past = omega arith; starts = started_later k.starts; from = reached_later h }

  pub step : {T : Transcript} {st : Site} {r t x : ℕ} → History pool R first s T st → Happened s (took r t x) T → Step s pool T st r t x
  step begins k = elim k [ ]
  step (others n h) k = step_later (omega arith) (step h (happened_other n k))
  step (own h m) k = ⊎_elim (λ i. step_own (reached h) i m) (λ j. step_later (round_rises m) (step h j)) (latest k)

  -- What a call does to the state's writes and round is what the transcript says.
  rewritten_says : {T : Transcript} {st : Site} {d : Deed} → Shape s pool T st → Says pool R first s T st d → rewritten d (writes_in st) ≡ writes_in st
  rewritten_says h (shows k) = refl
  rewritten_says h (answers_again {c = c} b) = let l = begins_length b in let e = line_place (line_begin b (line_in h)) in
      cond-false _ _ _ (ne_eqb c.place _ (omega arith))
  rewritten_says h (repeats_answer b) = refl
  rewritten_says h repeats_start = refl
  rewritten_says h reads = refl
  rewritten_says h (repeats k) = refl
  rewritten_says h writes_nothing = refl

  -- and so it is of every call.
  rewritten_step : {T : Transcript} {st st' : Site} {d : Deed} → Shape s pool T st → Move pool R first s T st d st' → rewritten d (writes_in st) ≡ writes_in st'
  rewritten_step h (says m) = rewritten_says h m
  rewritten_step h (grants p q) = refl
  rewritten_step h freezes = refl
  rewritten_step h (writes_open {c = c} k p q) = cond-true _ _ _ (eq-eqb c.place _ q)
  rewritten_step h (pulls {c = c} k p q l) = cond-true _ _ _ (eq-eqb c.place _ q)
  rewritten_step h (pulls_last {c = c} k p q l g) = cond-true _ _ _ (eq-eqb c.place _ q)
  rewritten_step h (settles {c = c} k p q l) = cond-true _ _ _ (eq-eqb c.place _ q)
  rewritten_step h (settles_last {c = c} k p q l) = cond-true _ _ _ (eq-eqb c.place _ q)
  rewritten_step h (strikes {t = t} k p q g) = cond-true _ _ _ (eq-eqb (suc t) _ (omega arith))
  rewritten_step h (meets {t = t} k p q g) = cond-false _ _ _ (ne_eqb (suc t) _ (omega arith))
  rewritten_step h (falls_behind {t = t} k p q) = cond-false _ _ _ (ne_eqb (suc t) _ (omega arith))

  -- A state's round is the one that the transcript shows.
  moved_step : {T : Transcript} {st st' : Site} {d : Deed} → Move pool R first s T st d st' → moved_on d (round_in st) ≡ round_in st'
  moved_step (says (shows k)) = refl
  moved_step (says (answers_again b)) = refl
  moved_step (says (repeats_answer b)) = refl
  moved_step (says repeats_start) = refl
  moved_step (says reads) = refl
  moved_step (says (repeats k)) = refl
  moved_step (says writes_nothing) = refl
  moved_step (grants p q) = refl
  moved_step freezes = refl
  moved_step (writes_open k p q) = refl
  moved_step (pulls k p q l) = refl
  moved_step (pulls_last k p q l g) = refl
  moved_step (settles k p q l) = refl
  moved_step (settles_last k p q l) = refl
  moved_step (strikes k p q g) = refl
  moved_step (meets k p q g) = refl
  moved_step (falls_behind k p q) = refl

  -- The transcript shows a site's writes and its round.
  pub same_writes : {T : Transcript} {st : Site} → History pool R first s T st → writes s T ≡ writes_in st
  same_writes begins = refl
  same_writes (others {x = x} n h) = cond-false _ _ _ (ne_eqb x s n) ∙ same_writes h
  same_writes (own {d = d} h m) = cond-true _ _ _ (eq-eqb s s refl) ∙ ap (rewritten d) (same_writes h) ∙ rewritten_step (shape h) m

  pub same_round : {T : Transcript} {st : Site} → History pool R first s T st → round_of s T ≡ round_in st
  same_round begins = refl
  same_round (others {x = x} n h) = cond-false _ _ _ (ne_eqb x s n) ∙ same_round h
  same_round (own {d = d} h m) = cond-true _ _ _ (eq-eqb s s refl) ∙ ap (moved_on d) (same_round h) ∙ moved_step m
