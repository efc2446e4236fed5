-- The shape of one sound site's state, from its own events alone: in which rounds its writes were done, and between which targets.
use Rattle.std.proofs.Common.{◌≡◌, ℕ, suc, ◌+◌, ◌<◌, ◌≤◌, ◌⊎◌, List, [], ◌∷◌, length, sym, refl, subst, inl, inr, ⊎_elim, arith}
use mathlib.Core.Option.{Option, some, some-injective, none-ne-some}
use Rattle.object.specs.Rules.{Rules}
use Rattle.protocol.specs.Words.{Claim, Deed, took, Event, did, Transcript}
use Rattle.protocol.specs.Quorum.{Pool}
use Rattle.protocol.specs.Book.{Happened, happened_now, happened_before, earlier, Certified, Started, Line, line_none, line_more}
use Rattle.protocol.specs.Moves.{Mode, Site, standing, pulling, settling, round_in, writes_in, Move, says, grants, freezes, writes_open, pulls, pulls_last, settles, settles_last, strikes, meets, falls_behind, History, begins, others, own}
use Rattle.protocol.proofs.Quorums.{reworded}
use Rattle.protocol.proofs.Lists.{line_map, line_rest}

-- What others back, they back later.
-- What is certified, and what STARTs a quorum wrote, stays so.
pub certified_later : {pool : Pool} {e : Event} {T : Transcript} {c : Claim} → Certified pool T c → Certified pool (e ∷ T) c
certified_later = reworded (λ s h i. earlier (h i))

pub started_later : {pool : Pool} {e : Event} {T : Transcript} {r t : ℕ} → Started pool T r t → Started pool (e ∷ T) r t
started_later = reworded (λ s h i. ((h i).0, earlier (h i).1, (h i).2))

-- The last of a list of writes is of the round v.
abbrev pub Tip : ℕ → List Claim → Type 0
Tip v [] = Unit {0}
Tip v (c ∷ w) = c.round ≡ v

module _ (s : ℕ) where
  -- The site entered the round r by a ROUND with a target below k, unless r is the first round.
  abbrev pub Entered : Transcript → (r k : ℕ) → Type 0
  Entered T r k = (r ≡ 0) ⊎ ((u : ℕ) × (t : ℕ) × Happened s (took u t r) T × (t < k))

  -- The site entered the round v at the target b, and b is below k; or v is the first round, and b is 0.
  abbrev pub Ground : Transcript → (v b k : ℕ) → Type 0
  Ground T v b k = ((v ≡ 0) × (b ≡ 0)) ⊎ ((b < k) × ((u : ℕ) × Happened s (took u b v) T))

  -- The site left the round r by a ROUND with a target not below k.
  abbrev pub Left : Transcript → (r k : ℕ) → Type 0
  Left T r k = (t : ℕ) × (x : ℕ) × Happened s (took r t x) T × (k ≤ t)

-- What a site took, it took later too.
pub entered_later : {s : ℕ} {e : Event} {T : Transcript} {r k : ℕ} → Entered s T r k → Entered s (e ∷ T) r k
entered_later (inl z) = inl z
entered_later (inr h) = inr (h.0, h.1, happened_before h.2, h.3)

pub entered_above : {s : ℕ} {T : Transcript} {r k l : ℕ} → k ≤ l → Entered s T r k → Entered s T r l
entered_above b (inl z) = inl z
entered_above b (inr h) = inr (h.0, h.1, h.2, omega arith)

pub ground_later : {s : ℕ} {e : Event} {T : Transcript} {v b k l : ℕ} → k ≤ l → Ground s T v b k → Ground s (e ∷ T) v b l
ground_later i (inl z) = inl z
ground_later i (inr h) = inr (omega arith, (h.1.0, happened_before h.1.1))

pub left_later : {s : ℕ} {e : Event} {T : Transcript} {r k : ℕ} → Left s T r k → Left s (e ∷ T) r k
left_later h = (h.0, h.1, happened_before h.2, h.3)

module _ (s : ℕ) (pool : Pool) where
  -- One of the site's writes: it is certified, it stands above the target at which the site entered its round, and not above the one at which it left that round.
  pub record Band (T : Transcript) (v : ℕ) (c : Claim) : Type 0 where
    pub certified : Certified pool T c
    pub low : Entered s T c.round c.place
    pub high : (c.round ≡ v) ⊎ Left s T c.round c.place

  pub record Standing (T : Transcript) (v b : ℕ) (w : List Claim) (out : Option Claim) (g : List Claim) : Type 0 where
    pub line : Line (Band T v) 0 w
    pub plan : Line (λ c. c.round ≡ v) b g
    pub done : b + length g ≤ length w
    pub ground : Ground s T v b (length w)
    pub tip : Tip v w
    pub slot : (c : Claim) → out ≡ some c → (c.round ≡ v) × (c.place ≡ suc (length w))

  pub record Pulling (T : Transcript) (u v t : ℕ) (w : List Claim) : Type 0 where
    pub line : Line (Band T v) 0 w
    pub short : length w < t
    pub took_it : Happened s (took u t v) T
    pub low : Entered s T u (suc (length w))

  pub record Settling (T : Transcript) (v t : ℕ) (w g : List Claim) : Type 0 where
    pub line : Line (Band T v) 0 w
    pub plan : Line (λ c. c.round ≡ v) t g
    pub reached : t ≤ length w
    pub short : length w < t + length g
    pub entry : (u : ℕ) × Happened s (took u t v) T
    pub tip : (length w ≤ t) ⊎ Tip v w

  -- The shape of a state.
  pub data Shape (T : Transcript) : Site → Type 0 where
    in_standing : {m : Mode} {v b : ℕ} {w : List Claim} {out : Option Claim} {g : List Claim} → Standing T v b w out g → Shape T (standing m v b w out g)
    in_pulling : {u v t : ℕ} {w : List Claim} → Pulling T u v t w → Shape T (pulling u v t w)
    in_settling : {v t : ℕ} {w g : List Claim} → Settling T v t w g → Shape T (settling v t w g)

module _ {s : ℕ} {pool : Pool} where
  -- A state's writes are in line, each with its band.
  pub line_in : {T : Transcript} {st : Site} → Shape s pool T st → Line (Band s pool T (round_in st)) 0 (writes_in st)
  line_in (in_standing h) = h.line
  line_in (in_pulling h) = h.line
  line_in (in_settling h) = h.line

  -- All this stays so as others go on.
  band_later : {e : Event} {T : Transcript} {v : ℕ} (c : Claim) → Band s pool T v c → Band s pool (e ∷ T) v c
  band_later c h = record { certified = certified_later h.certified; low = entered_later h.low; high = ⊎_elim inl (λ l. inr (left_later l)) h.high }

  line_later : {e : Event} {T : Transcript} {v : ℕ} {w : List Claim} → Line (Band s pool T v) 0 w → Line (Band s pool (e ∷ T) v) 0 w
  line_later {e} {T} {v} = line_map (Band s pool (e ∷ T) v) (λ c b. band_later c)

  -- A site that leaves the round v at a target not below its place has its writes within that target.
  line_left : {T : Transcript} {v t x : ℕ} {w : List Claim} → length w ≤ t → Line (Band s pool T v) 0 w → Line (Band s pool (did s (took v t x) ∷ T) x) 0 w
  line_left {T} {v} {t} {x} {w} l = line_map (Band s pool (did s (took v t x) ∷ T) x) keep
    where
      keep : (c : Claim) → c.place ≤ 0 + length w → Band s pool T v c → Band s pool (did s (took v t x) ∷ T) x c
      keep c b h = record {
        certified = certified_later h.certified;
        low = entered_later h.low;
        high = inr (⊎_elim (λ e. (t, x, subst (λ r. Happened s (took r t x) (did s (took v t x) ∷ T)) (sym e) happened_now, omega arith)) (λ l. left_later l) h.high);
      }

  -- One more write, of a round that the site entered below it.
  line_push : {e : Event} {T : Transcript} {v r : ℕ} {w : List Claim} {c : Claim} → Certified pool T c → c.round ≡ r → c.place ≡ suc (length w) →
      Entered s T r (suc (length w)) → (r ≡ v) ⊎ Left s T r (suc (length w)) → Line (Band s pool T v) 0 w → Line (Band s pool (e ∷ T) v) 0 (c ∷ w)
  line_push k p q en le l = line_more (omega arith)
      (record { certified = certified_later k; low = rw (p, q) (entered_later en); high = rw (p, q) (⊎_elim inl (λ z. inr (left_later z)) le) }) (line_later l)

  standing_later : {e : Event} {T : Transcript} {v b : ℕ} {w : List Claim} {out : Option Claim} {g : List Claim} → Standing s pool T v b w out g → Standing s pool (e ∷ T) v b w out g
  standing_later h = record { line = line_later h.line; plan = h.plan; done = h.done; tip = h.tip; slot = h.slot; ground = ground_later (omega arith) h.ground }

  shape_later : {e : Event} {T : Transcript} {st : Site} → Shape s pool T st → Shape s pool (e ∷ T) st
  shape_later (in_standing h) = in_standing (standing_later h)
  shape_later (in_pulling h) = in_pulling (record { line = line_later h.line; short = h.short; took_it = happened_before h.took_it; low = entered_later h.low })
  shape_later (in_settling h) = in_settling (record {
    line = line_later h.line;
    plan = h.plan;
    reached = h.reached;
    short = h.short;
    entry = (h.entry.0, happened_before h.entry.1);
    tip = h.tip;
  })

  -- A standing site entered its round below its next place.
  pub entered_standing : {T : Transcript} {v b : ℕ} {w : List Claim} {out : Option Claim} {g : List Claim} → Standing s pool T v b w out g → Entered s T v (suc (length w))
  entered_standing {b = b} h = ⊎_elim (λ z. inl z.0) (λ k. inr (k.1.0, b, k.1.1, omega (arith, h.done))) h.ground

module _ {s : ℕ} {pool : Pool} {R : Rules} {first : R.Value} where
  -- Every call leads from a shape to a shape.
  shape_step : {T : Transcript} {st st' : Site} {d : Deed} → Shape s pool T st → Move pool R first s T st d st' → Shape s pool (did s d ∷ T) st'
  shape_step h (says m) = shape_later h
  shape_step (in_standing h) (grants {v = v} {w = w} {c = c} p q) = let k = standing_later h in
      in_standing (record {
        line = k.line;
        plan = k.plan;
        done = k.done;
        tip = k.tip;
        ground = k.ground;
        slot = λ x e. subst (λ y. (y.round ≡ v) × (y.place ≡ suc (length w))) (some-injective c x e) (p, q);
      })
  shape_step (in_standing h) freezes = in_standing (standing_later h)
  shape_step (in_standing h) (writes_open k p q) =
      in_standing (record {
        line = line_push k p q (entered_standing h) (inl refl) h.line;
        plan = h.plan;
        done = omega (arith, h.done);
        tip = p;
        ground = ground_later (omega arith) h.ground;
        slot = λ x e. absurd (none-ne-some x e);
      })
  shape_step (in_pulling h) (pulls {v = v} {t = t} k p q l) =
      in_pulling (record {
        line = line_push k p q h.low (inr (t, v, h.took_it, omega arith)) h.line;
        short = omega arith;
        took_it = happened_before h.took_it;
        low = entered_later (entered_above (omega arith) h.low);
      })
  shape_step (in_pulling h) (pulls_last {u = u} {v = v} {t = t} k p q l g) =
      in_settling (record {
        line = line_push k p q h.low (inr (t, v, h.took_it, omega arith)) h.line;
        plan = g.in_line;
        reached = omega arith;
        short = omega (arith, g.some_claim);
        entry = (u, happened_before h.took_it);
        tip = inl (omega arith);
      })
  shape_step (in_settling h) (settles {t = t} k p q l) =
      in_settling (record {
        line = line_push k p q (inr (h.entry.0, t, h.entry.1, omega (arith, h.reached))) (inl refl) h.line;
        plan = h.plan;
        reached = omega (arith, h.reached);
        short = omega arith;
        entry = (h.entry.0, happened_before h.entry.1);
        tip = inr p;
      })
  shape_step (in_settling h) (settles_last {t = t} k p q l) =
      in_standing (record {
        line = line_push k p q (inr (h.entry.0, t, h.entry.1, omega (arith, h.reached))) (inl refl) h.line;
        plan = h.plan;
        done = omega arith;
        ground = inr (omega (arith, h.reached), (h.entry.0, happened_before h.entry.1));
        tip = p;
        slot = λ x e. absurd (none-ne-some x e);
      })
  shape_step (in_standing h) (strikes {v = v} k p q g) = in_settling (record {
    line = line_left (omega arith) (line_rest h.line);
    plan = g.in_line;
    reached = omega arith;
    short = omega (arith, g.some_claim);
    entry = (v, happened_now);
    tip = inl (omega arith);
  })
  shape_step (in_standing h) (meets {v = v} k p q g) = in_settling (record {
    line = line_left (omega arith) h.line;
    plan = g.in_line;
    reached = omega arith;
    short = omega (arith, g.some_claim);
    entry = (v, happened_now);
    tip = inl (omega arith);
  })
  shape_step (in_standing h) (falls_behind k p q) = in_pulling (record { line = line_left (omega arith) h.line; short = q; took_it = happened_now; low = entered_later (entered_standing h) })

  -- Every history comes to a state of its shape.
  pub shape : {T : Transcript} {st : Site} → History pool R first s T st → Shape s pool T st
  shape begins = in_standing (record { line = line_none; plan = line_none; done = omega arith; ground = inl (refl, refl); tip = tt; slot = λ x e. absurd (none-ne-some x e) })
  shape (others n h) = shape_later (shape h)
  shape (own h m) = shape_step (shape h) m
