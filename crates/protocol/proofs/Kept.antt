-- A claim that one sound site had among its writes stays there, unless it was the last and a ROUND struck it.
use Rattle.std.proofs.Common.{◌≡◌, ℕ, suc, ◌≤◌, ◌⊎◌, List, ◌∷◌, length, inl, inr, ⊎_elim, arith}
use mathlib.Core.Option.{Option}
use Rattle.object.specs.Rules.{Rules}
use Rattle.protocol.specs.Words.{Claim, start, Deed, took, did, Transcript}
use Rattle.protocol.specs.Quorum.{Pool}
use Rattle.protocol.specs.Book.{Happened, happened_now, happened_before, Wrote, Begins, whole, more}
use Rattle.protocol.specs.Moves.{Mode, Site, standing, pulling, settling, round_in, writes_in, Move, says, grants, freezes, writes_open, pulls, pulls_last, settles, settles_last, strikes, meets, falls_behind, History}
use Rattle.protocol.proofs.Lists.{begins_length, begins_shorter, line_begin, line_place, line_fact}
use Rattle.protocol.proofs.Shape.{Left, Shape, in_standing, line_in, shape}
use Rattle.protocol.proofs.Travel.{step}
use Rattle.protocol.proofs.Grants.{uttered, wrote_other, Begun, gone, present, Spoken, spoken, start_view}

-- How many of a state's writes no ROUND can strike.
abbrev pub firm_in : Site → ℕ
firm_in (standing m v b w out g) = b
firm_in (pulling u v t w) = length w
firm_in (settling v t w g) = t

module _ (s : ℕ) where
  -- A claim that the site struck by a ROUND of the claim's round: what was below it stays. A START of that round was not below the claim.
  pub record Struck (T : Transcript) (st : Site) (c : Claim) (older : List Claim) : Type 0 where
    pub rest : Begins older (writes_in st)
    pub firm : length older ≤ firm_in st
    pub struck_by : (x : ℕ) × Happened s (took c.round (length older) x) T
    pub starts : (k : ℕ) → Wrote s (start c.round k) T → c.place ≤ k

  -- The claim was the last of the site's writes at some time, on top of older ones: they still stand, or it alone was struck.
  pub record Stood (T : Transcript) (st : Site) (c : Claim) (older : List Claim) : Type 0 where
    pub placed : c.place ≡ suc (length older)
    pub how : Begins (c ∷ older) (writes_in st) ⊎ Struck T st c older

-- What others do changes nothing of this.
pub stood_other : {s x : ℕ} {d : Deed} {T : Transcript} {st : Site} {c : Claim} {older : List Claim} → (x ≡ s → ⊥) → Stood s T st c older → Stood s (did x d ∷ T) st c older
stood_other n h = record { placed = h.placed; how = ⊎_elim inl (λ k. inr (record { rest = k.rest; firm = k.firm; struck_by = (k.struck_by.0, happened_before k.struck_by.1); starts = λ i w. k.starts i (wrote_other n w) })) h.how }

-- A START of a site's own round names its place.
start_place : {r k : ℕ} {st : Site} → Begun r k st → r ≡ round_in st → k ≡ length (writes_in st)
start_place (gone l) e = absurd (omega arith)
start_place (present p q) e = q

-- To take a ROUND writes no START.
start_not_took : {s : ℕ} {T : Transcript} {r k v t x : ℕ} → Wrote s (start r k) (did s (took v t x) ∷ T) → Wrote s (start r k) T
start_not_took w = ⊎_elim (λ u. elim u [ ]) (λ o. o) (uttered w)

-- A ROUND that strikes leaves what is below the last write, and strikes that.
kept_strike : {s : ℕ} {pool : Pool} {T : Transcript} {m : Mode} {v b t x : ℕ} {c : Claim} {older : List Claim} {e : Claim} {w g h : List Claim} {out : Option Claim} →
    Shape s pool T (standing m v b (e ∷ w) out g) → Spoken s T (standing m v b (e ∷ w) out g) → Begins (c ∷ older) (e ∷ w) → length w ≡ t →
    Begins (c ∷ older) w ⊎ Struck s (did s (took v t x) ∷ T) (settling x t w h) c older
kept_strike h k (more b) q = inl b
kept_strike {T} {t = t} {x = x} {c = c} {older = older} (in_standing h) k whole q = inr (record {
  rest = whole;
  firm = omega arith;
  struck_by = (x, rw (h.tip, q) happened_now);
  starts = λ i w. let p = start_place (k.begun c.round i (start_not_took w)) h.tip in omega (arith, line_place h.line);
})

module _ {s : ℕ} {pool : Pool} {R : Rules} {first : R.Value} where
  -- What begins the writes and is firm stays.
  rest_move : {T : Transcript} {st st' : Site} {d : Deed} {older : List Claim} → Shape s pool T st → Begins older (writes_in st) → length older ≤ firm_in st → Move pool R first s T st d st' →
      Begins older (writes_in st') × (length older ≤ firm_in st')
  rest_move h b l (says m) = (b, l)
  rest_move h b l (grants p q) = (b, l)
  rest_move h b l freezes = (b, l)
  rest_move h b l (writes_open i p q) = (more b, l)
  rest_move h b l (pulls i p q j) = (more b, omega arith)
  rest_move h b l (pulls_last i p q j g) = (more b, omega arith)
  rest_move h b l (settles i p q j) = (more b, l)
  rest_move h b l (settles_last i p q j) = (more b, l)
  rest_move (in_standing h) b l (strikes i p q g) = let k = h.done in let e = h.ground in (begins_shorter b (omega arith), omega arith)
  rest_move (in_standing h) b l (meets i p q g) = (b, omega (arith, h.done))
  rest_move h b l (falls_behind i p q) = (b, begins_length b)

  -- What stands in the writes stands there after a call, or is struck by it.
  kept_move : {T : Transcript} {st st' : Site} {d : Deed} {c : Claim} {older : List Claim} → Shape s pool T st → Spoken s T st → Begins (c ∷ older) (writes_in st) → Move pool R first s T st d st' →
      Begins (c ∷ older) (writes_in st') ⊎ Struck s (did s d ∷ T) st' c older
  kept_move h k b (says m) = inl b
  kept_move h k b (grants p q) = inl b
  kept_move h k b freezes = inl b
  kept_move h k b (writes_open i p q) = inl (more b)
  kept_move h k b (pulls i p q j) = inl (more b)
  kept_move h k b (pulls_last i p q j g) = inl (more b)
  kept_move h k b (settles i p q j) = inl (more b)
  kept_move h k b (settles_last i p q j) = inl (more b)
  kept_move h k b (strikes i p q g) = kept_strike h k b q
  kept_move h k b (meets i p q g) = inl b
  kept_move h k b (falls_behind i p q) = inl b

  -- What stood at some time, stood so after one more call.
  pub stood_move : {T : Transcript} {st st' : Site} {d : Deed} {c : Claim} {older : List Claim} → History pool R first s T st → Stood s T st c older → Move pool R first s T st d st' → Stood s (did s d ∷ T) st' c older
  stood_move {T} {st} {st'} {d} {c} {older} h n m = record { placed = n.placed; how = ⊎_elim (λ b. kept_move (shape h) (spoken h) b m) (λ k. inr (again k)) n.how }
    where
      again : Struck s T st c older → Struck s (did s d ∷ T) st' c older
      again k = let b = rest_move (shape h) k.rest k.firm m in let l = step h k.struck_by.1 in
          record {
            rest = b.0;
            firm = b.1;
            struck_by = (k.struck_by.0, happened_before k.struck_by.1);
            starts = λ i w. ⊎_elim (k.starts i) (λ x. absurd (omega (arith, l.rises, l.past, x.1.its_round))) (start_view (shape h) m w);
          }

  -- A claim that stood lies not above a START of its round, or not above the target at which the site left that round.
  pub stood_bound : {T : Transcript} {st : Site} {c : Claim} {older : List Claim} {k : ℕ} → History pool R first s T st → Stood s T st c older → Wrote s (start c.round k) T →
      (c.place ≤ k) ⊎ Left s T c.round c.place
  stood_bound {T} {st} {c} {older} {k} h n w = ⊎_elim kept (λ x. inl (x.starts k w)) n.how
    where
      kept : Begins (c ∷ older) (writes_in st) → (c.place ≤ k) ⊎ Left s T c.round c.place
      kept b = let f = line_fact (line_begin b (line_in (shape h))) in let l = begins_length b in
          ⊎_elim (λ e. inl (let p = start_place ((spoken h).begun c.round k w) e in omega (arith, n.placed))) inr f.high
