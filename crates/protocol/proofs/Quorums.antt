-- Two quorums share a sound site, and whether a quorum does something can be decided.
use Rattle.std.proofs.Common.{◌≡◌, ℕ, zero, suc, ◌+◌, ◌*◌, ◌<◌, ◌≤◌, Bool, true, false, cond, not, ◌⊎◌, refl, inl, inr, ⊎_elim, arith}
use native.Mathlib.Decide.{dec_le}
use Rattle.protocol.specs.Quorum.{Pool, sites, count, Sound, Quorum}

-- A number below n that is in three sets.
InAll : (S A B : ℕ → Bool) → ℕ → Type 0
InAll S A B n = (i : ℕ) × (i < n) × (S i ≡ true) × (A i ≡ true) × (B i ≡ true)

-- Three sets have a number below n in common, unless they are small.
common : (S A B : ℕ → Bool) (n : ℕ) → InAll S A B n ⊎ (count S n + count A n + count B n ≤ n + n)
unfolding InAll
common S A B zero = inr (omega arith)
common S A B (suc n) = ⊎_elim (λ h. inl (h.0, omega arith, h.2, h.3, h.4)) (λ h. here (S n) (A n) (B n) refl refl refl h) (common S A B n)
  where
    here : (a b c : Bool) → S n ≡ a → A n ≡ b → B n ≡ c → count S n + count A n + count B n ≤ n + n →
        InAll S A B (suc n) ⊎ (cond a (suc (count S n)) (count S n) + cond b (suc (count A n)) (count A n) + cond c (suc (count B n)) (count B n) ≤ suc n + suc n)
    here true true true p q r h = inl (n, omega arith, p, q, r)
    here true true false p q r h = inr (omega arith)
    here true false true p q r h = inr (omega arith)
    here true false false p q r h = inr (omega arith)
    here false true true p q r h = inr (omega arith)
    here false true false p q r h = inr (omega arith)
    here false false true p q r h = inr (omega arith)
    here false false false p q r h = inr (omega arith)

-- A set and the rest of the numbers below n.
count-not : (S : ℕ → Bool) (n : ℕ) → count (λ s. not (S s)) n + count S n ≡ n
count-not S zero = refl
count-not S (suc n) = here (S n) (count-not S n)
  where
    here : (a : Bool) → count (λ s. not (S s)) n + count S n ≡ n →
        cond (not a) (suc (count (λ s. not (S s)) n)) (count (λ s. not (S s)) n) + cond a (suc (count S n)) (count S n) ≡ suc n
    here true h = omega arith
    here false h = omega arith

-- A set within another is not larger.
pub count-within : (A B : ℕ → Bool) (n : ℕ) → ((s : ℕ) → s < n → A s ≡ true → B s ≡ true) → count A n ≤ count B n
count-within A B zero h = omega arith
count-within A B (suc n) h = here (A n) (B n) (h n (omega arith)) (count-within A B n (λ s l. h s (omega arith)))
  where
    here : (a b : Bool) → (a ≡ true → b ≡ true) → count A n ≤ count B n → cond a (suc (count A n)) (count A n) ≤ cond b (suc (count B n)) (count B n)
    here true true k l = omega arith
    here true false k l = let e : false ≡ true = k refl in let z : ◌≡◌ {A = ℕ} 0 1 = cc in omega arith
    here false true k l = omega arith
    here false false k l = omega arith

-- The truth of what is decided.
holds : {P : Type 0} → Dec P → Bool
holds (yes p) = true
holds (no p) = false

held : {P : Type 0} (d : Dec P) → holds d ≡ true → P
unfolding holds
held (yes p) e = p
held (no p) e = let z : ◌≡◌ {A = ℕ} 0 1 = cc in absurd (omega arith)

holding : {P : Type 0} (d : Dec P) → P → holds d ≡ true
unfolding holds
holding (yes p) q = refl
holding (no n) q = absurd (n q)

module _ {pool : Pool} where
  -- Two quorums share a sound site.
  pub shared : {P Q : ℕ → Type 0} → count (λ s. not (pool.sound s)) (sites pool) ≤ pool.f → Quorum pool P → Quorum pool Q → (s : ℕ) × Sound pool s × P s × Q s
  unfolding InAll
  shared few a b = ⊎_elim (λ h. (h.0, record { below = h.1; is_sound = h.2 }, a.each h.0 h.1 h.3, b.each h.0 h.1 h.4))
      (λ h. absurd (omega (arith, count-not pool.sound (sites pool), a.enough, b.enough))) (common pool.sound a.who b.who (sites pool))

  -- What a quorum does, it does in other words.
  pub reworded : {P Q : ℕ → Type 0} → ((s : ℕ) → P s → Q s) → Quorum pool P → Quorum pool Q
  reworded h a = record { who = a.who; enough = a.enough; each = λ s l i. h s (a.each s l i) }

  -- Whether a quorum does P can be decided, where it can be decided of each site.
  pub quorum_dec : (P : ℕ → Type 0) → ((s : ℕ) → Dec (P s)) → Dec (Quorum pool P)
  quorum_dec P dec = here (dec_le (2 * pool.f + 1) (count (λ s. holds (dec s)) (sites pool)))
    where
      here : Dec (2 * pool.f + 1 ≤ count (λ s. holds (dec s)) (sites pool)) → Dec (Quorum pool P)
      here (yes l) = yes (record { who = λ s. holds (dec s); enough = l; each = λ s b e. held (dec s) e })
      here (no l) = no (λ a. l (let k = count-within a.who (λ s. holds (dec s)) (sites pool) (λ s b e. holding (dec s) (a.each s b e)) in omega (arith, a.enough)))
