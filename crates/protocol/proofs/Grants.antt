-- The GRANTs and STARTs that one sound site wrote: one claim for a round and place, and none past its START by more than one place.
use Rattle.std.proofs.Common.{◌≡◌, ℕ, suc, ◌+◌, ◌<◌, ◌≤◌, ◌⊎◌, List, ◌∷◌, length, sym, refl, subst, inl, inr, ⊎_elim, arith}
use mathlib.Core.Option.{Option, some, some-injective, none-ne-some}
use Rattle.object.specs.Rules.{Rules}
use Rattle.protocol.specs.Words.{Claim, Word, grant, answer, start, Deed, answered, said, did, Transcript}
use Rattle.protocol.specs.Quorum.{Pool}
use Rattle.protocol.specs.Book.{Wrote, saying, answering, earlier, Begins}
use Rattle.protocol.specs.Moves.{Mode, frozen, Site, standing, pulling, settling, round_in, Shown, shows, repeats_start, repeats, Move, says, grants, freezes, writes_open, pulls, pulls_last, settles, settles_last, strikes, meets, falls_behind, History, begins, others, own}
use Rattle.protocol.proofs.Lists.{begins_length, line_begin, line_place, line_fact, line_same}
use Rattle.protocol.proofs.Shape.{Entered, entered_later, Shape, in_standing, in_settling, shape}
use Rattle.protocol.proofs.Travel.{Reached, reached_later, reached}

-- The word is that of a deed.
pub data Utters : Deed → Word → Type 0 where
  by_said : {w : Word} → Utters (said w) w
  by_answered : {c : Claim} {a : ℕ} → Utters (answered c a) (answer c a)

-- A word in a transcript is the last deed's, or was there before.
pub uttered : {s x : ℕ} {w : Word} {d : Deed} {T : Transcript} → Wrote s w (did x d ∷ T) → Utters d w ⊎ Wrote s w T
uttered saying = inl by_said
uttered answering = inl by_answered
uttered (earlier h) = inr h

-- What others do adds no word of this site.
pub wrote_other : {s x : ℕ} {w : Word} {d : Deed} {T : Transcript} → (x ≡ s → ⊥) → Wrote s w (did x d ∷ T) → Wrote s w T
wrote_other n saying = absurd (n refl)
wrote_other n answering = absurd (n refl)
wrote_other n (earlier h) = h

-- A deed has one word.
same_grant : {d : Deed} {c e : Claim} → Utters d (grant c) → Utters d (grant e) → c ≡ e
same_grant by_said by_said = refl

not_both : {d : Deed} {c : Claim} {r k : ℕ} → Utters d (grant c) → Utters d (start r k) → ⊥
not_both by_said u = elim u [ ]

-- Where a claim whose GRANT the site wrote stands in its state: it is of an earlier round, of the settlement, of a place done since, or out.
pub data Granted (c : Claim) : Site → Type 0 where
  past : {st : Site} → c.round < round_in st → Granted c st
  planned : {m : Mode} {v b : ℕ} {w g : List Claim} {out : Option Claim} {rest : List Claim} → Begins (c ∷ rest) g → Granted c (standing m v b w out g)
  settled : {v t : ℕ} {w g : List Claim} {rest : List Claim} → Begins (c ∷ rest) g → Granted c (settling v t w g)
  spent : {m : Mode} {v b : ℕ} {w g : List Claim} {out : Option Claim} → c.round ≡ v → b + length g < c.place → c.place ≤ length w → Granted c (standing m v b w out g)
  is_out : {m : Mode} {v b : ℕ} {w g : List Claim} → Granted c (standing m v b w (some c) g)

-- Where a round whose START the site wrote stands in its state: it is an earlier one, or the site is FROZEN in it at the START's place.
pub data Begun (r k : ℕ) : Site → Type 0 where
  gone : {st : Site} → r < round_in st → Begun r k st
  present : {v b : ℕ} {w g : List Claim} {out : Option Claim} → r ≡ v → k ≡ length w → Begun r k (standing frozen v b w out g)

-- A GRANT that a call newly writes.
record NewGrant (st st' : Site) (c : Claim) : Type 0 where
  stands : Granted c st'
  its_round : c.round ≡ round_in st
  alone : (d : Claim) → Granted d st → c.round ≡ d.round → c.place ≡ d.place → c ≡ d
  under : (k : ℕ) → Begun c.round k st → c.place ≤ suc k

-- A START that a call newly writes.
pub record NewStart (s : ℕ) (T : Transcript) (st st' : Site) (r k : ℕ) : Type 0 where
  stands : Begun r k st'
  pub its_round : r ≡ round_in st
  entry : Entered s T r k
  over : (c : Claim) → Granted c st → c.round ≡ r → c.place ≤ suc k

-- All that the site wrote of GRANTs and STARTs.
pub record Spoken (s : ℕ) (T : Transcript) (st : Site) : Type 0 where
  pub granted : (c : Claim) → Wrote s (grant c) T → Granted c st
  pub of_reached : (c : Claim) → Wrote s (grant c) T → Reached s T c.round
  pub alike : (c d : Claim) → Wrote s (grant c) T → Wrote s (grant d) T → c.round ≡ d.round → c.place ≡ d.place → c ≡ d
  pub begun : (r k : ℕ) → Wrote s (start r k) T → Begun r k st
  pub entry : (r k : ℕ) → Wrote s (start r k) T → Entered s T r k
  pub near : (c : Claim) (k : ℕ) → Wrote s (grant c) T → Wrote s (start c.round k) T → c.place ≤ suc k

-- A START of a standing site's round is not more than one place below a claim that lies at most at the next place.
under_next : {m : Mode} {v b k : ℕ} {w g : List Claim} {out : Option Claim} (c : Claim) → c.round ≡ v → c.place ≤ suc (length w) → Begun c.round k (standing m v b w out g) → c.place ≤ suc k
under_next c p q (gone l) = absurd (omega arith)
under_next c p q (present e f) = omega arith

-- A SETTLING site wrote no START of its round.
under_settling : {v t k : ℕ} {w g : List Claim} (c : Claim) → c.round ≡ v → Begun c.round k (settling v t w g) → c.place ≤ suc k
under_settling c r (gone l) = absurd (omega arith)

module _ {s : ℕ} {pool : Pool} where
  -- In a standing site the GRANTs of its round lie at most one place above its writes.
  granted_near : {T : Transcript} {m : Mode} {v b : ℕ} {w g : List Claim} {out : Option Claim} {c : Claim} →
      Shape s pool T (standing m v b w out g) → Granted c (standing m v b w out g) → c.round ≡ v → c.place ≤ suc (length w)
  granted_near h (past l) e = absurd (omega arith)
  granted_near (in_standing h) (planned k) e = let n = begins_length k in let p = line_place (line_begin k h.plan) in omega (arith, h.done)
  granted_near h (spent r l k) e = omega arith
  granted_near {c = c} (in_standing h) is_out e = omega (arith, h.slot c refl)

  -- No GRANT is of a round to come.
  granted_round : {T : Transcript} {st : Site} {c : Claim} → Shape s pool T st → Granted c st → c.round ≤ round_in st
  granted_round h (past l) = omega arith
  granted_round (in_standing h) (planned k) = omega (arith, line_fact (line_begin k h.plan))
  granted_round (in_settling h) (settled k) = omega (arith, line_fact (line_begin k h.plan))
  granted_round (in_standing h) (spent r l k) = omega arith
  granted_round {c = c} (in_standing h) is_out = omega (arith, h.slot c refl)

  -- A standing site's claim at the next place is the one that is out.
  alone_next : {T : Transcript} {m : Mode} {v b : ℕ} {w g : List Claim} {out : Option Claim} {d : Claim} (c : Claim) → Shape s pool T (standing m v b w out g) → c.round ≡ v → c.place ≡ suc (length w) →
      Granted d (standing m v b w out g) → c.round ≡ d.round → c.place ≡ d.place → out ≡ some d
  alone_next c h p q (past l) e f = absurd (omega arith)
  alone_next c (in_standing h) p q (planned k) e f = let n = begins_length k in let i = line_place (line_begin k h.plan) in absurd (omega (arith, h.done))
  alone_next c h p q (spent r l k) e f = absurd (omega arith)
  alone_next c h p q is_out e f = refl

  -- So the claim that is out is the only one granted for its place.
  shown_out : {T : Transcript} {m : Mode} {v b : ℕ} {w g : List Claim} {c : Claim} → Shape s pool T (standing m v b w (some c) g) →
      NewGrant (standing m v b w (some c) g) (standing m v b w (some c) g) c
  shown_out {c = c} (in_standing h) = let p = h.slot c refl in
      record { stands = is_out; its_round = p.0; alone = λ d k e f. some-injective c d (alone_next c (in_standing h) p.0 p.1 k e f); under = λ k. under_next c p.0 (omega arith) }

  -- A claim of the settlement is the only one granted for its place, once the settlement is done,
  alone_plan : {T : Transcript} {m : Mode} {v b : ℕ} {w g : List Claim} {out : Option Claim} {c d : Claim} {rest : List Claim} → Shape s pool T (standing m v b w out g) → Begins (c ∷ rest) g →
      Granted d (standing m v b w out g) → c.round ≡ d.round → c.place ≡ d.place → c ≡ d
  alone_plan (in_standing h) b (past l) e f = let r = line_fact (line_begin b h.plan) in absurd (omega arith)
  alone_plan (in_standing h) b (planned k) e f = line_same h.plan b k f
  alone_plan (in_standing h) b (spent r l k) e f = let n = begins_length b in let i = line_place (line_begin b h.plan) in absurd (omega arith)
  alone_plan {d = d} (in_standing h) b is_out e f = let n = begins_length b in let i = line_place (line_begin b h.plan) in absurd (omega (arith, h.slot d refl, h.done))

  shown_plan : {T : Transcript} {m : Mode} {v b : ℕ} {w g : List Claim} {out : Option Claim} {c : Claim} {rest : List Claim} → Shape s pool T (standing m v b w out g) → Begins (c ∷ rest) g →
      NewGrant (standing m v b w out g) (standing m v b w out g) c
  shown_plan {c = c} (in_standing h) k = let r = line_fact (line_begin k h.plan) in let n = begins_length k in let i = line_place (line_begin k h.plan) in
      record { stands = planned k; its_round = r; alone = λ d. alone_plan (in_standing h) k; under = λ j. under_next c r (omega (arith, h.done)) }

  -- and before.
  alone_settling : {T : Transcript} {v t : ℕ} {w g : List Claim} {c d : Claim} {rest : List Claim} → Shape s pool T (settling v t w g) → Begins (c ∷ rest) g →
      Granted d (settling v t w g) → c.round ≡ d.round → c.place ≡ d.place → c ≡ d
  alone_settling (in_settling h) b (past l) e f = let r = line_fact (line_begin b h.plan) in absurd (omega arith)
  alone_settling (in_settling h) b (settled k) e f = line_same h.plan b k f

  -- So is every claim that a site can show.
  shown : {T : Transcript} {c : Claim} (st : Site) → Shape s pool T st → Shown st c → NewGrant st st c
  shown {T} {c} (standing m v b w out g) h (inl e) =
      subst (λ o. Shape s pool T (standing m v b w o g) → NewGrant (standing m v b w o g) (standing m v b w o g) c) (sym e) shown_out h
  shown (standing m v b w out g) h (inr k) = shown_plan h k.1
  shown (pulling u v t w) h k = absurd k
  shown {c = c} (settling v t w g) (in_settling h) k = let r = line_fact (line_begin k.1 h.plan) in
      record { stands = settled k.1; its_round = r; alone = λ d. alone_settling (in_settling h) k.1; under = λ j. under_settling c r }

  -- A standing site entered its round below its place, unless that is the first round.
  entered_place : {T : Transcript} {m : Mode} {v b : ℕ} {w g : List Claim} {out : Option Claim} → Shape s pool T (standing m v b w out g) → Entered s T v (length w)
  entered_place {b = b} (in_standing h) = ⊎_elim (λ z. inl z.0) (λ k. inr (k.1.0, b, k.1.1, k.0)) h.ground

module _ {s : ℕ} {pool : Pool} {R : Rules} {first : R.Value} where
  -- What a call does to where GRANTs stand.
  granted_move : {T : Transcript} {st st' : Site} {d : Deed} {c : Claim} → Shape s pool T st → Granted c st → Move pool R first s T st d st' → Granted c st'
  granted_move h k (says m) = k
  granted_move h (past l) (grants p q) = past l
  granted_move h (planned k) (grants p q) = planned k
  granted_move h (spent r l k) (grants p q) = spent r l k
  granted_move h (past l) freezes = past l
  granted_move h (planned k) freezes = planned k
  granted_move h (spent r l k) freezes = spent r l k
  granted_move h is_out freezes = is_out
  granted_move h (past l) (writes_open i p q) = past l
  granted_move h (planned k) (writes_open i p q) = planned k
  granted_move h (spent r l k) (writes_open i p q) = spent r l (omega arith)
  granted_move {c = c} (in_standing h) is_out (writes_open i p q) = spent (h.slot c refl).0 (omega (arith, h.slot c refl, h.done)) (omega (arith, h.slot c refl))
  granted_move h (past l) (pulls i p q j) = past l
  granted_move h (past l) (pulls_last i p q j g) = past l
  granted_move h (past l) (settles i p q j) = past l
  granted_move h (settled k) (settles i p q j) = settled k
  granted_move h (past l) (settles_last i p q j) = past l
  granted_move h (settled k) (settles_last i p q j) = planned k
  granted_move h k (strikes i p q g) = past (omega (arith, granted_round h k))
  granted_move h k (meets i p q g) = past (omega (arith, granted_round h k))
  granted_move h k (falls_behind i p q) = past (omega (arith, granted_round h k))

  -- What a call does to where STARTs stand.
  begun_move : {T : Transcript} {st st' : Site} {d : Deed} {r k : ℕ} → Begun r k st → Move pool R first s T st d st' → Begun r k st'
  begun_move h (says m) = h
  begun_move (gone l) (grants p q) = gone l
  begun_move (gone l) freezes = gone l
  begun_move (gone l) (writes_open i p q) = gone l
  begun_move (gone l) (pulls i p q j) = gone l
  begun_move (gone l) (pulls_last i p q j g) = gone l
  begun_move (gone l) (settles i p q j) = gone l
  begun_move (gone l) (settles_last i p q j) = gone l
  begun_move (gone l) (strikes i p q g) = gone (omega arith)
  begun_move (present e f) (strikes i p q g) = gone (omega arith)
  begun_move (gone l) (meets i p q g) = gone (omega arith)
  begun_move (present e f) (meets i p q g) = gone (omega arith)
  begun_move (gone l) (falls_behind i p q) = gone (omega arith)
  begun_move (present e f) (falls_behind i p q) = gone (omega arith)

  -- A GRANT that a call writes was written before, or is new.
  new_grant : {T : Transcript} {st st' : Site} {c : Claim} → Shape s pool T st → Move pool R first s T st (said (grant c)) st' → Wrote s (grant c) T ⊎ NewGrant st st' c
  new_grant h (says (repeats k)) = inl k
  new_grant h (says (shows {st = st} k)) = inr (shown st h k)
  new_grant {c = c} h (grants p q) = inr (record { stands = is_out; its_round = p; alone = λ d k e f. absurd (none-ne-some d (alone_next c h p q k e f)); under = λ k. under_next c p (omega arith) })

  -- A START that a call writes was written before, or is new.
  new_start : {T : Transcript} {st st' : Site} {r k : ℕ} → Shape s pool T st → Move pool R first s T st (said (start r k)) st' → Wrote s (start r k) T ⊎ NewStart s T st st' r k
  new_start h (says (repeats k)) = inl k
  new_start h (says repeats_start) = inr (record { stands = present refl refl; its_round = refl; entry = entered_place h; over = λ c k. granted_near h k })
  new_start h freezes = inr (record { stands = present refl refl; its_round = refl; entry = entered_place h; over = λ c k. granted_near h k })

  -- The last call's GRANT, if it is new, or one that was there.
  grant_view : {T : Transcript} {st st' : Site} {d : Deed} {c : Claim} → Shape s pool T st → Move pool R first s T st d st' → Wrote s (grant c) (did s d ∷ T) →
      Wrote s (grant c) T ⊎ (Utters d (grant c) × NewGrant st st' c)
  grant_view {T} {st} {st'} {d} {c} h m k = ⊎_elim (λ u. new u m) inl (uttered k)
    where
      new : {d : Deed} → Utters d (grant c) → Move pool R first s T st d st' → Wrote s (grant c) T ⊎ (Utters d (grant c) × NewGrant st st' c)
      new by_said m = ⊎_elim inl (λ n. inr (by_said, n)) (new_grant h m)

  pub start_view : {T : Transcript} {st st' : Site} {d : Deed} {r k : ℕ} → Shape s pool T st → Move pool R first s T st d st' → Wrote s (start r k) (did s d ∷ T) →
      Wrote s (start r k) T ⊎ (Utters d (start r k) × NewStart s T st st' r k)
  start_view {T} {st} {st'} {d} {r} {k} h m i = ⊎_elim (λ u. new u m) inl (uttered i)
    where
      new : {d : Deed} → Utters d (start r k) → Move pool R first s T st d st' → Wrote s (start r k) T ⊎ (Utters d (start r k) × NewStart s T st st' r k)
      new by_said m = ⊎_elim inl (λ n. inr (by_said, n)) (new_start h m)

  -- One more call.
  spoken_step : {T : Transcript} {st st' : Site} {d : Deed} → Shape s pool T st → Reached s T (round_in st) → Spoken s T st → Move pool R first s T st d st' → Spoken s (did s d ∷ T) st'
  spoken_step {T} {st} {st'} {d} h r k m = record {
    granted = λ c w. ⊎_elim (λ o. granted_move h (k.granted c o) m) (λ n. n.1.stands) (grant_view h m w);
    of_reached = λ c w. ⊎_elim (λ o. reached_later (k.of_reached c o)) (λ n. rw n.1.its_round (reached_later r)) (grant_view h m w);
    alike = λ c e w x. two c e (grant_view h m w) (grant_view h m x);
    begun = λ a b w. ⊎_elim (λ o. begun_move (k.begun a b o) m) (λ n. n.1.stands) (start_view h m w);
    entry = λ a b w. entered_later (⊎_elim (λ o. k.entry a b o) (λ n. n.1.entry) (start_view h m w));
    near = λ c b w x. under c b (grant_view h m w) (start_view h m x);
  }
    where
      two : (c e : Claim) → Wrote s (grant c) T ⊎ (Utters d (grant c) × NewGrant st st' c) → Wrote s (grant e) T ⊎ (Utters d (grant e) × NewGrant st st' e) →
          c.round ≡ e.round → c.place ≡ e.place → c ≡ e
      two c e (inl a) (inl b) p q = k.alike c e a b p q
      two c e (inl a) (inr b) p q = sym (b.1.alone c (k.granted c a) (sym p) (sym q))
      two c e (inr a) (inl b) p q = a.1.alone e (k.granted e b) p q
      two c e (inr a) (inr b) p q = same_grant a.0 b.0

      under : (c : Claim) (b : ℕ) → Wrote s (grant c) T ⊎ (Utters d (grant c) × NewGrant st st' c) → Wrote s (start c.round b) T ⊎ (Utters d (start c.round b) × NewStart s T st st' c.round b) → c.place ≤ suc b
      under c b (inl x) (inl y) = k.near c b x y
      under c b (inl x) (inr y) = y.1.over c (k.granted c x) refl
      under c b (inr x) (inl y) = x.1.under b (k.begun c.round b y)
      under c b (inr x) (inr y) = absurd (not_both x.0 y.0)

  -- Every history has all this.
  pub spoken : {T : Transcript} {st : Site} → History pool R first s T st → Spoken s T st
  spoken begins = record { granted = λ c w. elim w [ ]; of_reached = λ c w. elim w [ ]; alike = λ c e w. elim w [ ]; begun = λ a b w. elim w [ ]; entry = λ a b w. elim w [ ]; near = λ c b w. elim w [ ] }
  spoken (others n h) = let k = spoken h in record {
    granted = λ c w. k.granted c (wrote_other n w);
    of_reached = λ c w. reached_later (k.of_reached c (wrote_other n w));
    alike = λ c e w x. k.alike c e (wrote_other n w) (wrote_other n x);
    begun = λ a b w. k.begun a b (wrote_other n w);
    entry = λ a b w. entered_later (k.entry a b (wrote_other n w));
    near = λ c b w x. k.near c b (wrote_other n w) (wrote_other n x);
  }
  spoken (own h m) = spoken_step (shape h) (reached h) (spoken h) m
