-- A sound site: its states, the calls that it takes, and its history in a transcript.
use Rattle.std.specs.Prelude.{◌≡◌, ℕ, suc, ◌+◌, ◌<◌, ◌⊎◌, List, [], ◌∷◌, length, ◌≢◌}
use Rattle.std.proofs.Math.Option.{Option, none, some}
use Rattle.object.specs.Rules.{Rules}
use Rattle.protocol.specs.Words.{Claim, Question, Word, grant, answer, start, reading, Deed, answered, took, said, silent, did, Transcript}
use Rattle.protocol.specs.Quorum.{Pool}
use Rattle.protocol.specs.Book.{Wrote, Certified, Passing, Line, Begins, due, play}

-- A site that stands in a round is OPEN, or FROZEN once it has written its START.
pub data Mode : Type 0 where
  opened : Mode
  frozen : Mode

-- A site's state. Its writes are a list; its number of writes is its place.
pub data Site : Type 0 where
  -- OPEN or FROZEN in round v, which began at the target b; its writes; the grant that is out; the settlement of the round
  standing : Mode → (v b : ℕ) → (w : List Claim) → (out : Option Claim) → (settlement : List Claim) → Site
  -- PULLING: it left round u for round v, and does the writes of u up to the target t
  pulling : (u v t : ℕ) → (w : List Claim) → Site
  -- SETTLING: in round v, which began at the target t, it does the writes of the settlement's places
  settling : (v t : ℕ) → (w : List Claim) → (settlement : List Claim) → Site

-- A fresh site.
abbrev pub fresh : Site
fresh = standing opened 0 0 [] none []

-- A state's round.
abbrev pub round_in : Site → ℕ
round_in (standing m v b w out g) = v
round_in (pulling u v t w) = v
round_in (settling v t w g) = v

-- A state's writes.
abbrev pub writes_in : Site → List Claim
writes_in (standing m v b w out g) = w
writes_in (pulling u v t w) = w
writes_in (settling v t w g) = w

-- The round and place of the last of a list of writes, or 0 and 0.
abbrev pub last_round : List Claim → ℕ
last_round [] = 0
last_round (c ∷ w) = c.round

abbrev pub last_place : List Claim → ℕ
last_place [] = 0
last_place (c ∷ w) = c.place

-- A settlement of the round v after the target t: at least one claim, all of that round, at the places t + 1, t + 2 and on.
pub record Settlement (v t : ℕ) (g : List Claim) : Type 0 where
  pub some_claim : 0 < length g
  pub in_line : Line (λ c. c.round ≡ v) t g

-- The claims of which a site can show its GRANT: the one that is out, and those of its round's settlement.
abbrev pub Shown : Site → Claim → Type 0
Shown (standing m v b w out g) c = (out ≡ some c) ⊎ ((rest : List Claim) × Begins (c ∷ rest) g)
Shown (pulling u v t w) c = ⊥
Shown (settling v t w g) c = (rest : List Claim) × Begins (c ∷ rest) g

module _ (pool : Pool) (R : Rules) (first : R.Value) (s : ℕ) where
  -- The calls that leave a site as it is, by what it does then. T is the transcript before the call.
  pub data Says (T : Transcript) : Site → Deed → Type 0 where
    -- it shows a GRANT
    shows : {st : Site} {c : Claim} → Shown st c → Says T st (said (grant c))
    -- it answers again for a claim among its writes, by the answer due there, to a WRITE-2 message or another
    answers_again : {st : Site} {c : Claim} {w : List Claim} → Begins (c ∷ w) (writes_in st) → Says T st (answered c (due R (play R first w) c))
    repeats_answer : {st : Site} {c : Claim} {w : List Claim} → Begins (c ∷ w) (writes_in st) → Says T st (said (answer c (due R (play R first w) c)))
    -- FROZEN, it repeats its START
    repeats_start : {v b : ℕ} {w : List Claim} {out : Option Claim} {g : List Claim} → Says T (standing frozen v b w out g) (said (start v (length w)))
    -- it answers a question, by its last write and its value
    reads : {st : Site} {q : Question} → Says T st (said (reading q (last_round (writes_in st)) (last_place (writes_in st)) (R.look (play R first (writes_in st)) q.operation)))
    -- it repeats a word that it wrote before, as when the certificate that it shows holds its own GRANT
    repeats : {st : Site} {w : Word} → Wrote s w T → Says T st (said w)
    -- it refuses, or shows what others wrote
    writes_nothing : {st : Site} → Says T st silent

  -- The calls that a site takes, each with what it needs, what it does and the state after it.
  pub data Move (T : Transcript) : Site → Deed → Site → Type 0 where
    says : {st : Site} {d : Deed} → Says T st d → Move T st d st
    -- OPEN with no grant out, it grants the next place of its round
    grants : {v b : ℕ} {w g : List Claim} {c : Claim} → c.round ≡ v → c.place ≡ suc (length w) →
        Move T (standing opened v b w none g) (said (grant c)) (standing opened v b w (some c) g)
    -- it freezes: the START names its round and place
    freezes : {v b : ℕ} {w g : List Claim} {out : Option Claim} →
        Move T (standing opened v b w out g) (said (start v (length w))) (standing frozen v b w out g)
    -- OPEN, it does a certified write of its round at the next place
    writes_open : {v b : ℕ} {w g : List Claim} {out : Option Claim} {c : Claim} → Certified pool T c → c.round ≡ v → c.place ≡ suc (length w) →
        Move T (standing opened v b w out g) (answered c (due R (play R first w) c)) (standing opened v b (c ∷ w) none g)
    -- PULLING, it does a certified write of the round that it left, below its target
    pulls : {u v t : ℕ} {w : List Claim} {c : Claim} → Certified pool T c → c.round ≡ u → c.place ≡ suc (length w) → c.place < t →
        Move T (pulling u v t w) (answered c (due R (play R first w) c)) (pulling u v t (c ∷ w))
    -- or at its target: it then settles
    pulls_last : {u v t : ℕ} {w g : List Claim} {c : Claim} → Certified pool T c → c.round ≡ u → c.place ≡ suc (length w) → c.place ≡ t → Settlement v t g →
        Move T (pulling u v t w) (answered c (due R (play R first w) c)) (settling v t (c ∷ w) g)
    -- SETTLING, it does a certified write of its round, below the last place of the settlement
    settles : {v t : ℕ} {w g : List Claim} {c : Claim} → Certified pool T c → c.round ≡ v → c.place ≡ suc (length w) → c.place < t + length g →
        Move T (settling v t w g) (answered c (due R (play R first w) c)) (settling v t (c ∷ w) g)
    -- or at that place: it is then OPEN
    settles_last : {v t : ℕ} {w g : List Claim} {c : Claim} → Certified pool T c → c.round ≡ v → c.place ≡ suc (length w) → c.place ≡ t + length g →
        Move T (settling v t w g) (answered c (due R (play R first w) c)) (standing opened v t (c ∷ w) none g)
    -- it takes the ROUND of its round v, with the target t and a higher next round x: standing one place past the target it strikes its last write,
    strikes : {m : Mode} {v b t x : ℕ} {w g h : List Claim} {out : Option Claim} {c : Claim} → Passing pool T v t → v < x → length w ≡ t → Settlement x t h →
        Move T (standing m v b (c ∷ w) out g) (took v t x) (settling x t w h)
    -- at the target it settles,
    meets : {m : Mode} {v b t x : ℕ} {w g h : List Claim} {out : Option Claim} → Passing pool T v t → v < x → length w ≡ t → Settlement x t h →
        Move T (standing m v b w out g) (took v t x) (settling x t w h)
    -- and below the target it pulls. (Further past the target it refuses.)
    falls_behind : {m : Mode} {v b t x : ℕ} {w g : List Claim} {out : Option Claim} → Passing pool T v t → v < x → length w < t →
        Move T (standing m v b w out g) (took v t x) (pulling v x t w)

  -- The site's history in a transcript, and the state that it comes to: fresh at first, and at each event of its own a call that it takes,
  -- with what stands in the transcript before.
  pub data History : Transcript → Site → Type 0 where
    begins : History [] fresh
    others : {x : ℕ} {d : Deed} {T : Transcript} {st : Site} → (x ≢ s) → History T st → History (did x d ∷ T) st
    own : {d : Deed} {T : Transcript} {st st' : Site} → History T st → Move T st d st' → History (did s d ∷ T) st'
