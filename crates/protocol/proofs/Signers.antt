-- A quorum and a list of different signers are the same thing.
use Rattle.std.proofs.Common.{◌≡◌, ℕ, zero, suc, ◌<◌, ◌≤◌, Bool, true, false, cond, ◌||◌, eqb, ◌⊎◌, ◌↔◌, List, [], ◌∷◌, length, sym, refl, subst, inl, inr, ⊎_elim, arith}
use Rattle.std.proofs.lemmas.Bool.{eqb-true, eq-eqb, or_cases, or_left, or_right, cases_Bool, cases_eq, both_ways}
use Rattle.protocol.specs.Quorum.{Pool, sites, count, Quorum, In, here, there, Different, different_none, different_more, Signers}
use Rattle.protocol.proofs.Quorums.{count-within}

-- One of a list is its first, or one of the others.
in_split : {s x : ℕ} {l : List ℕ} → In s (x ∷ l) → (s ≡ x) ⊎ In s l
in_split here = inl refl
in_split (there h) = inr h

-- The numbers below n of a set, as a list.
below : (ℕ → Bool) → ℕ → List ℕ
below who zero = []
below who (suc n) = cond (who n) (n ∷ below who n) (below who n)

below_in : (who : ℕ → Bool) (n : ℕ) {s : ℕ} → In s (below who n) → (s < n) × (who s ≡ true)
unfolding below
below_in who zero h = elim h [ ]
below_in who (suc n) {s} h = from (who n) refl (λ k. below_in who n k) h
  where
    up : (s < n) × (who s ≡ true) → (s < suc n) × (who s ≡ true)
    up k = (omega arith, k.1)

    from : (b : Bool) → who n ≡ b → (In s (below who n) → (s < n) × (who s ≡ true)) → In s (cond b (n ∷ below who n) (below who n)) → (s < suc n) × (who s ≡ true)
    from true e old h = ⊎_elim (λ i. (omega arith, subst (λ x. who x ≡ true) (sym i) e)) (λ k. up (old k)) (in_split h)
    from false e old h = up (old h)

below_different : (who : ℕ → Bool) (n : ℕ) → Different (below who n)
unfolding below
below_different who zero = different_none
below_different who (suc n) = from (who n) (below_different who n)
  where
    from : (b : Bool) → Different (below who n) → Different (cond b (n ∷ below who n) (below who n))
    from true d = different_more (λ h. let k = below_in who n h in omega arith) d
    from false d = d

below_length : (who : ℕ → Bool) (n : ℕ) → length (below who n) ≡ count who n
unfolding below
below_length who zero = refl
below_length who (suc n) = from (who n) (below_length who n)
  where
    from : (b : Bool) → length (below who n) ≡ count who n → length (cond b (n ∷ below who n) (below who n)) ≡ cond b (suc (count who n)) (count who n)
    from true e = omega arith
    from false e = e

-- The set of a list's numbers.
among : List ℕ → ℕ → Bool
among [] s = false
among (x ∷ l) s = eqb s x || among l s

among_in : (l : List ℕ) (s : ℕ) → among l s ≡ true → In s l
unfolding among
among_in [] s h = absurd (both_ways false refl h)
among_in (x ∷ l) s h = ⊎_elim (λ e. subst (λ y. In s (y ∷ l)) (eqb-true s x e) here) (λ k. there (among_in l s k)) (or_cases (eqb s x) (among l s) h)

-- A set with one more number is larger.
count-more : (A B : ℕ → Bool) (x n : ℕ) → x < n → A x ≡ false → B x ≡ true → ((s : ℕ) → A s ≡ true → B s ≡ true) → suc (count A n) ≤ count B n
count-more A B x zero l p q h = absurd (omega arith)
count-more A B x (suc n) l p q h = ⊎_elim
    (λ e. last (A n) (B n) (subst (λ y. A y ≡ false) e p) (subst (λ y. B y ≡ true) e q) (count-within A B n (λ s i. h s)))
    (λ e. other (A n) (B n) (h n) (count-more A B x n (omega arith) p q h)) (cases_eq x n)
  where
    last : (a b : Bool) → a ≡ false → b ≡ true → count A n ≤ count B n → suc (cond a (suc (count A n)) (count A n)) ≤ cond b (suc (count B n)) (count B n)
    last true b e f k = absurd (both_ways true e refl)
    last false true e f k = omega arith
    last false false e f k = absurd (both_ways false refl f)

    other : (a b : Bool) → (a ≡ true → b ≡ true) → suc (count A n) ≤ count B n → suc (cond a (suc (count A n)) (count A n)) ≤ cond b (suc (count B n)) (count B n)
    other true true i k = omega arith
    other true false i k = absurd (both_ways false refl (i refl))
    other false true i k = omega arith
    other false false i k = omega arith

-- A list of different numbers below n is not longer than its set.
among_count : (l : List ℕ) (n : ℕ) → Different l → ((s : ℕ) → In s l → s < n) → length l ≤ count (among l) n
unfolding among
among_count [] n d h = omega arith
among_count (x ∷ l) n (different_more m d) h =
    let k = among_count l n d (λ s i. h s (there i)) in
    let new : among l x ≡ false = ⊎_elim (λ e. absurd (m (among_in l x e))) (λ e. e) (cases_Bool (among l x)) in
    let j = count-more (among l) (among (x ∷ l)) x n (h x here) new (or_left (eqb x x) (among l x) (eq-eqb x x refl)) (λ s e. or_right (eqb s x) (among l s) e) in
    omega arith

pub quorum_signers : {pool : Pool} {P : ℕ → Type 0} → Quorum pool P ↔ Signers pool P
quorum_signers {pool} {P} = (list, set)
  where
    list : Quorum pool P → Signers pool P
    list q = record {
      signers = below q.who (sites pool);
      different = below_different q.who (sites pool);
      enough = (let e = below_length q.who (sites pool) in omega (arith, q.enough));
      each = λ s h. let k = below_in q.who (sites pool) h in (k.0, q.each s k.0 k.1);
    }

    set : Signers pool P → Quorum pool P
    set q = record {
      who = among q.signers;
      enough = (let k = among_count q.signers (sites pool) q.different (λ s h. (q.each s h).0) in omega (arith, q.enough));
      each = λ s b h. (q.each s (among_in q.signers s h)).1;
    }
