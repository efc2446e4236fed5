-- Two quorums of a pool share a site, so that they cannot give two answers.
use Rattle.std.proofs.Common.{◌≡◌, ℕ, zero, suc, ◌+◌, ◌<◌, ◌≤◌, Bool, true, false, cond, ◌||◌, eqb, ◌⊎◌, List, [], ◌∷◌, length, sym, refl, ap, ◌∙◌, subst, inl, inr, arith}
use Rattle.std.specs.List.{AllByRecursion as All}
use Rattle.std.proofs.lemmas.Bool.{cases_Bool, cases_eq, cases_lt, cond-true, cond-false, eq-eqb, ne_eqb, eqb-true, or_cases, or_from, or_left, false≢true}
use Rattle.finder.specs.Law.{Pairs}

-- How many of the first n numbers are in a set.
count : (ℕ → Bool) → ℕ → ℕ
count A zero = 0
count A (suc n) = cond (A n) (suc (count A n)) (count A n)

-- Two sets share a number below n, or have together at most n below it.
share : (A B : ℕ → Bool) (n : ℕ) → ((k : ℕ) × (k < n) × (A k ≡ true) × (B k ≡ true)) ⊎ (count A n + count B n ≤ n)
unfolding count
share A B zero = inr (omega arith)
share A B (suc n) =
    elim (share A B n) [
      | inl (k, less, a, b) ↦ inl (k, omega arith, a, b)
      | inr few ↦ elim (cases_Bool (A n)) [
        | inl a ↦ elim (cases_Bool (B n)) [
          | inl b ↦ inl (n, omega arith, a, b)
          | inr b ↦ inr (let ea = cond-true (A n) (suc (count A n)) (count A n) a in let eb = cond-false (B n) (suc (count B n)) (count B n) b in omega arith)
        ]
        | inr a ↦ elim (cases_Bool (B n)) [
          | inl b ↦ inr (let ea = cond-false (A n) (suc (count A n)) (count A n) a in let eb = cond-true (B n) (suc (count B n)) (count B n) b in omega arith)
          | inr b ↦ inr (let ea = cond-false (A n) (suc (count A n)) (count A n) a in let eb = cond-false (B n) (suc (count B n)) (count B n) b in omega arith)
        ]
      ]
    ]

-- A number is one of a list.
member : List ℕ → ℕ → Bool
member [] k = false
member (x ∷ xs) k = eqb k x || member xs k

-- One number more, where it was not in the set.
same_below : (A : ℕ → Bool) (x n : ℕ) → n ≤ x → count (λ k. eqb k x || A k) n ≡ count A n
unfolding count
same_below A x zero past = refl
same_below A x (suc n) past =
    let e : (eqb n x || A n) ≡ A n = ap (λ (b : Bool). b || A n) (ne_eqb n x (λ h. omega arith)) in
    let before = same_below A x n (omega arith) in
    ap (λ (b : Bool). cond b (suc (count (λ k. eqb k x || A k) n)) (count (λ k. eqb k x || A k) n)) e
    ∙ ap (λ (m : ℕ). cond (A n) (suc m) m) before

lifted : (b : Bool) (m : ℕ) → cond b (suc (suc m)) (suc m) ≡ suc (cond b (suc m) m)
lifted true m = refl
lifted false m = refl

below : (x n : ℕ) → x < suc n → (n ≡ x → ⊥) → x < n
below x n less other = elim (cases_eq n x) [ inl e ↦ absurd (other e) | inr _ ↦ (elim (cases_lt x n) [ inl l ↦ l | inr m ↦ (let e : n ≡ x = omega arith in absurd (other e)) ]) ]

one_more : (A : ℕ → Bool) (x n : ℕ) → x < n → A x ≡ false → count (λ k. eqb k x || A k) n ≡ suc (count A n)
unfolding count
one_more A x zero less out = absurd (omega arith)
one_more A x (suc n) less out =
    elim (cases_eq n x) [
      | inl here ↦ (
          let yes' : (eqb n x || A n) ≡ true = or_left (eqb n x) (A n) (eq-eqb n x here) in
          let no' : A n ≡ false = ap A here ∙ out in
          cond-true (eqb n x || A n) (suc (count (λ k. eqb k x || A k) n)) (count (λ k. eqb k x || A k) n) yes'
          ∙ ap suc (same_below A x n (omega arith))
          ∙ ap suc (sym (cond-false (A n) (suc (count A n)) (count A n) no')))
      | inr other ↦ (
          let e : (eqb n x || A n) ≡ A n = ap (λ (b : Bool). b || A n) (ne_eqb n x other) in
          let before = one_more A x n (below x n less other) out in
          ap (λ (b : Bool). cond b (suc (count (λ k. eqb k x || A k) n)) (count (λ k. eqb k x || A k) n)) e
          ∙ ap (λ (m : ℕ). cond (A n) (suc m) m) before
          ∙ lifted (A n) (count A n))
    ]

none_counted : (n : ℕ) → count (λ k. false) n ≡ 0
unfolding count
none_counted zero = refl
none_counted (suc n) = none_counted n

-- A number of none of a list is not a member of it.
not_member : (x : ℕ) (xs : List ℕ) → All (λ j. x ≡ j → ⊥) xs → member xs x ≡ false
unfolding member
not_member x [] all = refl
not_member x (y ∷ xs) (here, all) = or_from (eqb x y) (member xs x) (ne_eqb x y here) (not_member x xs all)

-- Different numbers below n are as many as a list of them is long.
as_many : (n : ℕ) (xs : List ℕ) → Pairs (λ i j. i ≡ j → ⊥) xs → All (λ i. i < n) xs → count (member xs) n ≡ length xs
unfolding member
as_many n [] different low = none_counted n
as_many n (x ∷ xs) (here, different) (l, low) = one_more (member xs) x n l (not_member x xs here) ∙ ap suc (as_many n xs different low)

-- What holds of all of a list holds of each member.
of_member : (P : ℕ → Type 0) (xs : List ℕ) (k : ℕ) → All P xs → member xs k ≡ true → P k
unfolding member
of_member P [] k all e = absurd (false≢true e)
of_member P (x ∷ xs) k (here, all) e =
    elim (or_cases (eqb k x) (member xs k) e) [
      | inl same ↦ subst P (sym (eqb-true k x same)) here
      | inr later ↦ of_member P xs k all later
    ]

-- Two lists of different numbers below n that are together longer than n share one.
pub shared
    : (n : ℕ) (xs ys : List ℕ) (P Q : ℕ → Type 0)
    → Pairs (λ i j. i ≡ j → ⊥) xs
    → Pairs (λ i j. i ≡ j → ⊥) ys
    → All (λ i. i < n) xs
    → All (λ i. i < n) ys
    → n < length xs + length ys
    → All P xs
    → All Q ys
    → (k : ℕ) × P k × Q k
shared n xs ys P Q dx dy lx ly many ps qs =
    elim (share (member xs) (member ys) n) [
      | inl (k, less, a, b) ↦ (k, of_member P xs k ps a, of_member Q ys k qs b)
      | inr few ↦ (let ex = as_many n xs dx lx in let ey = as_many n ys dy ly in absurd (omega arith))
    ]
