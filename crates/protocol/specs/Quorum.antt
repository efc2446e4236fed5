-- The pool, and what it means that enough of its sites do something.
use Rattle.std.specs.Prelude.{◌≡◌, ℕ, zero, suc, ◌+◌, ◌*◌, ◌<◌, ◌≤◌, Bool, true, cond, List, [], ◌∷◌, length}

-- A pool of 3f + 1 sites, numbered from 0, and which of them are sound.
pub record Pool : Type 0 where
  pub f : ℕ
  pub sound : ℕ → Bool

-- How many sites the pool has.
abbrev pub sites : Pool → ℕ
sites pool = 3 * pool.f + 1

-- How many of the numbers below n are in a set.
abbrev pub count : (ℕ → Bool) → ℕ → ℕ
count who zero = 0
count who (suc n) = cond (who n) (suc (count who n)) (count who n)

-- A sound site of the pool.
pub record Sound (pool : Pool) (s : ℕ) : Type 0 where
  pub below : s < sites pool
  pub is_sound : pool.sound s ≡ true

-- A quorum does P: a set has at least 2f + 1 of the pool's sites, each counted once, and each of these does P.
pub record Quorum (pool : Pool) (P : ℕ → Type 0) : Type 0 where
  pub who : ℕ → Bool
  pub enough : 2 * pool.f + 1 ≤ count who (sites pool)
  pub each : (s : ℕ) → s < sites pool → who s ≡ true → P s

-- The number is one of a list.
pub data In (s : ℕ) : List ℕ → Type 0 where
  here : {l : List ℕ} → In s (s ∷ l)
  there : {x : ℕ} {l : List ℕ} → In s l → In s (x ∷ l)

-- The numbers of a list are all different.
pub data Different : List ℕ → Type 0 where
  different_none : Different []
  different_more : {s : ℕ} {l : List ℕ} → (In s l → ⊥) → Different l → Different (s ∷ l)

-- The same as a quorum, by a list: at least 2f + 1 different sites of the pool, each of which does P.
pub record Signers (pool : Pool) (P : ℕ → Type 0) : Type 0 where
  pub signers : List ℕ
  pub different : Different signers
  pub enough : 2 * pool.f + 1 ≤ length signers
  pub each : (s : ℕ) → In s signers → (s < sites pool) × P s
