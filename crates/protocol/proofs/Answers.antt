-- The ANSWERs and READ-ANSWERs that one sound site wrote: they tell of writes that it had then.
use Rattle.std.proofs.Common.{◌≡◌, ℕ, suc, ◌≤◌, ◌⊎◌, List, [], ◌∷◌, length, refl, subst, inl, inr, ⊎_elim, arith}
use Rattle.object.specs.Rules.{Rules}
use Rattle.protocol.specs.Words.{Claim, Question, Word, answer, reading, Deed, took, Event, did, Transcript}
use Rattle.protocol.specs.Quorum.{Pool}
use Rattle.protocol.specs.Book.{Happened, happened_before, Wrote, earlier, Line, line_none, line_more, Begins, whole, more, due, play}
use Rattle.protocol.specs.Moves.{Site, writes_in, last_round, last_place, answers_again, repeats_answer, reads, repeats, Move, says, writes_open, pulls, pulls_last, settles, settles_last, History, begins, others, own}
use Rattle.protocol.proofs.Lists.{begins_length, line_begin, line_place}
use Rattle.protocol.proofs.Shape.{Shape, line_in, shape}
use Rattle.protocol.proofs.Kept.{Stood, stood_other, stood_move}
use Rattle.protocol.proofs.Grants.{Utters, by_said, by_answered, uttered, wrote_other}

-- What was written, was written later too.
pub wrote-since : {s : ℕ} {w : Word} {past : Transcript} {T : Transcript} → Begins past T → Wrote s w past → Wrote s w T
wrote-since whole h = h
wrote-since (more l) h = earlier (wrote-since l h)

module _ (R : Rules) (first : R.Value) where
  -- An ANSWER that a call newly writes is for one of the site's writes after the call, and due there.
  record NewAnswer (st : Site) (c : Claim) (a : ℕ) : Type 0 where
    older : List Claim
    there : Begins (c ∷ older) (writes_in st)
    placed : c.place ≡ suc (length older)
    is_due : a ≡ due R (play R first older) c

  -- A READ-ANSWER that a call newly writes tells of the site's writes.
  record NewReading (st : Site) (q : Question) (r p a : ℕ) : Type 0 where
    round_is : r ≡ last_round (writes_in st)
    place_is : p ≡ last_place (writes_in st)
    is_look : a ≡ R.look (play R first (writes_in st)) q.operation

module _ (s : ℕ) (R : Rules) (first : R.Value) where
  -- Every ANSWER that a site wrote is for a claim that stood in its writes, and due there.
  pub record Answered (T : Transcript) (st : Site) (c : Claim) (a : ℕ) : Type 0 where
    pub older : List Claim
    pub stood : Stood s T st c older
    pub is_due : a ≡ due R (play R first older) c

  -- Every READ-ANSWER that a site wrote is of the first value, or of a claim that stood in its writes.
  pub data Read (T : Transcript) (st : Site) (q : Question) (r p a : ℕ) : Type 0 where
    at_first : r ≡ 0 → p ≡ 0 → a ≡ R.look first q.operation → Read T st q r p a
    after : {c : Claim} {older : List Claim} → Stood s T st c older → r ≡ c.round → p ≡ c.place → a ≡ R.look (play R first (c ∷ older)) q.operation → Read T st q r p a

module _ {s : ℕ} {R : Rules} {first : R.Value} where
  -- What others do changes nothing of this.
  read_other : {x : ℕ} {d : Deed} {T : Transcript} {st : Site} {q : Question} {r p a : ℕ} → (x ≡ s → ⊥) → Read s R first T st q r p a → Read s R first (did x d ∷ T) st q r p a
  read_other n (at_first e f g) = at_first e f g
  read_other n (after k e f g) = after (stood_other n k) e f g

  -- What a site answers to a question is of its writes.
  read_new : {P : Claim → Type 0} {T : Transcript} {st : Site} {q : Question} {r p a : ℕ} (w : List Claim) → Line P 0 w → w ≡ writes_in st →
      r ≡ last_round w → p ≡ last_place w → a ≡ R.look (play R first w) q.operation → Read s R first T st q r p a
  read_new [] l b e f g = at_first e f g
  read_new {st = st} (c ∷ w) l b e f g = after (record { placed = (let k = line_place l in omega arith); how = inl (subst (Begins (c ∷ w)) b whole) }) e f g

-- The place of the last write is the number of the writes.
last-place-is : {P : Claim → Type 0} {w : List Claim} → Line P 0 w → last_place w ≡ length w
last-place-is line_none = refl
last-place-is (line_more e p l) = omega arith

module _ (s : ℕ) where
  -- The place p is not below the claim's, or the site struck the claim.
  abbrev pub PastIt : Transcript → Claim → ℕ → Type 0
  PastIt T c p = (c.place ≤ p) ⊎ ((t : ℕ) × (x : ℕ) × (c.place ≡ suc t) × Happened s (took c.round t x) T)

-- This stays so.
past-later : {s : ℕ} {e : Event} {T : Transcript} (c : Claim) (p : ℕ) → PastIt s T c p → PastIt s (e ∷ T) c p
past-later c p (inl l) = inl l
past-later c p (inr h) = inr (h.0, h.1, h.2, happened_before h.3)

module _ {s : ℕ} {pool : Pool} {R : Rules} {first : R.Value} where
  -- An ANSWER that is repeated is due in the writes,
  again_answer : {T : Transcript} {st : Site} {c : Claim} {w : List Claim} → Shape s pool T st → Begins (c ∷ w) (writes_in st) → NewAnswer R first st c (due R (play R first w) c)
  again_answer {w = w} h b = record { older = w; there = b; placed = let e = line_place (line_begin b (line_in h)) in omega arith; is_due = refl }

  -- and so is one for a write that is done now.
  new_answer : {T : Transcript} {st st' : Site} {d : Deed} {c : Claim} {a : ℕ} → Shape s pool T st → Utters d (answer c a) → Move pool R first s T st d st' → Wrote s (answer c a) T ⊎ NewAnswer R first st' c a
  new_answer h by_said (says (repeats k)) = inl k
  new_answer h by_said (says (repeats_answer b)) = inr (again_answer h b)
  new_answer h by_answered (says (answers_again b)) = inr (again_answer h b)
  new_answer h by_answered (writes_open {w = w} k p q) = inr (record { older = w; there = whole; placed = q; is_due = refl })
  new_answer h by_answered (pulls {w = w} k p q l) = inr (record { older = w; there = whole; placed = q; is_due = refl })
  new_answer h by_answered (pulls_last {w = w} k p q l g) = inr (record { older = w; there = whole; placed = q; is_due = refl })
  new_answer h by_answered (settles {w = w} k p q l) = inr (record { older = w; there = whole; placed = q; is_due = refl })
  new_answer h by_answered (settles_last {w = w} k p q l) = inr (record { older = w; there = whole; placed = q; is_due = refl })

  -- A READ-ANSWER that a call writes was written before, or is of the writes now.
  new_reading : {T : Transcript} {st st' : Site} {d : Deed} {q : Question} {r p a : ℕ} → Utters d (reading q r p a) → Move pool R first s T st d st' → Wrote s (reading q r p a) T ⊎ (NewReading R first st q r p a × (writes_in st ≡ writes_in st'))
  new_reading by_said (says (repeats k)) = inl k
  new_reading by_said (says reads) = inr (record { round_is = refl; place_is = refl; is_look = refl }, refl)

  -- So it is in every history.
  pub answers : {T : Transcript} {st : Site} {c : Claim} {a : ℕ} → History pool R first s T st → Wrote s (answer c a) T → Answered s R first T st c a
  answers begins w = elim w [ ]
  answers (others n h) w = let k = answers h (wrote_other n w) in record { older = k.older; stood = stood_other n k.stood; is_due = k.is_due }
  answers {c = c} {a = a} (own {d = d} {T = T} {st = st} {st' = st'} h m) w = ⊎_elim (λ u. ⊎_elim (λ o. old (answers h o)) new (new_answer (shape h) u m)) (λ o. old (answers h o)) (uttered w)
    where
      old : Answered s R first T st c a → Answered s R first (did s d ∷ T) st' c a
      old k = record { older = k.older; stood = stood_move h k.stood m; is_due = k.is_due }

      new : NewAnswer R first st' c a → Answered s R first (did s d ∷ T) st' c a
      new k = record { older = k.older; stood = record { placed = k.placed; how = inl k.there }; is_due = k.is_due }

  -- One more call.
  read_move : {T : Transcript} {st st' : Site} {d : Deed} {q : Question} {r p a : ℕ} → History pool R first s T st → Move pool R first s T st d st' → Read s R first T st q r p a → Read s R first (did s d ∷ T) st' q r p a
  read_move h m (at_first e f g) = at_first e f g
  read_move h m (after k e f g) = after (stood_move h k m) e f g

  -- So it is in every history.
  pub readings : {T : Transcript} {st : Site} {q : Question} {r p a : ℕ} → History pool R first s T st → Wrote s (reading q r p a) T → Read s R first T st q r p a
  readings begins w = elim w [ ]
  readings (others n h) w = read_other n (readings h (wrote_other n w))
  readings (own {st = st} h m) w = ⊎_elim
      (λ u. ⊎_elim (λ o. read_move h m (readings h o)) (λ k. read_new (writes_in st) (line_in (shape h)) k.1 k.0.round_is k.0.place_is k.0.is_look) (new_reading u m))
      (λ o. read_move h m (readings h o)) (uttered w)

  -- A site that wrote an ANSWER before it first answered a question stood at the ANSWER's place then, unless it had struck that claim.
  pub ordered : {past : Transcript} {c : Claim} {b : ℕ} {q : Question} {r p a : ℕ} {T : Transcript} {st : Site} → History pool R first s T st → Begins past T → Wrote s (answer c b) past →
      ((r p a : ℕ) → Wrote s (reading q r p a) past → ⊥) → Wrote s (reading q r p a) T → PastIt s T c p
  ordered {r = r} {p = p} {a = a} h whole i n w = absurd (n r p a w)
  ordered {c = c} {p = p} (others x h) (more l) i n w = past-later c p (ordered h l i n (wrote_other x w))
  ordered {c = c} {b = b} {q = q} {r = r} {p = p} {a = a} (own {T = T} {st = st} h m) (more l) i n w =
      past-later c p (⊎_elim (λ u. ⊎_elim (λ o. ordered h l i n o) (λ k. here k.0 (answers h (wrote-since l i))) (new_reading u m)) (λ o. ordered h l i n o) (uttered w))
    where
      here : NewReading R first st q r p a → Answered s R first T st c b → PastIt s T c p
      here k j = let e = last-place-is (line_in (shape h)) in
          ⊎_elim (λ z. inl (let y = begins_length z in omega (arith, j.stood.placed, k.place_is)))
          (λ z. inr (length j.older, z.struck_by.0, j.stood.placed, z.struck_by.1)) j.stood.how
