-- What the lowest index at which a test holds says of the test.
use Rattle.std.proofs.Common.{◌≡◌, ℕ, zero, suc, ◌+◌, ◌-◌, ◌<◌, ◌≤◌, Bool, true, false, ◌⊎◌, Some, None, Option, sym, refl, ap, ◌∙◌, inl, inr, ⊎_elim, arith}
use Rattle.std.proofs.lemmas.Bool.{cond-true, cond-false, cases_Bool, cases_eq}
use Rattle.std.specs.Option.{MatchOption}
use Rattle.message.specs.Records.{lowest}

-- the test fails at each of n indexes from i on
abbrev pub Never : (ℕ → Bool) → ℕ → ℕ → Type 0
Never test i n = (k : ℕ) → i ≤ k → k < i + n → test k ≡ false

-- k is the lowest of n indexes from i on at which the test holds
pub record Lowest (test : ℕ → Bool) (i n k : ℕ) : Type 0 where
  pub from : i ≤ k
  pub below : k < i + n
  pub holds : test k ≡ true
  pub first : (j : ℕ) → i ≤ j → j < k → test j ≡ false

never_from : (test : ℕ → Bool) (i n : ℕ) → test i ≡ false → Never test (i + 1) n → Never test i (suc n)
never_from test i n here later k from less =
    ⊎_elim (λ e. ap test e ∙ here) (λ ne. later k (omega arith) (omega arith)) (cases_eq k i)

pub none_never : (test : ℕ → Bool) (i n : ℕ) → lowest test i n ≡ None → Never test i n
unfolding lowest
none_never test i zero e = λ k from less. absurd (omega arith)
none_never test i (suc n) e =
    ⊎_elim
    (λ t. let z : ◌≡◌ {A = Option ℕ} (Some i) None = sym (cond-true (test i) (Some i) (lowest test (i + 1) n) t) ∙ e in let zz : ◌≡◌ {A = ℕ} 0 1 = cc in absurd (omega arith))
    (λ t. never_from test i n t (none_never test (i + 1) n (sym (cond-false (test i) (Some i) (lowest test (i + 1) n) t) ∙ e)))
    (cases_Bool (test i))

pub never_none : (test : ℕ → Bool) (i n : ℕ) → Never test i n → lowest test i n ≡ None
unfolding lowest
never_none test i zero never = refl
never_none test i (suc n) never =
    cond-false (test i) (Some i) (lowest test (i + 1) n) (never i (omega arith) (omega arith))
    ∙ never_none test (i + 1) n (λ k from less. never k (omega arith) (omega arith))

lowest_later : (test : ℕ → Bool) (i n k : ℕ) → test i ≡ false → Lowest test (i + 1) n k → Lowest test i (suc n) k
lowest_later test i n k here l =
    let from = l.from in
    let below = l.below in
    record {
      from = omega arith;
      below = omega arith;
      holds = l.holds;
      first = λ j fromj less. ⊎_elim (λ e. ap test e ∙ here) (λ ne. l.first j (omega arith) less) (cases_eq j i);
    }

pub some_lowest : (test : ℕ → Bool) (i n k : ℕ) → lowest test i n ≡ Some k → Lowest test i n k
unfolding lowest
some_lowest test i zero k e = let zz : ◌≡◌ {A = ℕ} 0 1 = cc in absurd (omega arith)
some_lowest test i (suc n) k e =
    ⊎_elim
    (λ t.
    let z : ◌≡◌ {A = Option ℕ} (Some i) (Some k) = sym (cond-true (test i) (Some i) (lowest test (i + 1) n) t) ∙ e in
    let ik : i ≡ k = cc in
    record { from = omega arith; below = omega arith; holds = ap test (sym ik) ∙ t; first = λ j from less. absurd (omega arith) })
    (λ t. lowest_later test i n k t (some_lowest test (i + 1) n k (sym (cond-false (test i) (Some i) (lowest test (i + 1) n) t) ∙ e)))
    (cases_Bool (test i))

-- whether there is such an index
pub found_or_never : (test : ℕ → Bool) (i n : ℕ) → (lowest test i n ≡ None) ⊎ ((k : ℕ) × (lowest test i n ≡ Some k))
found_or_never test i n = elim (lowest test i n) as (λ o. (o ≡ None) ⊎ ((k : ℕ) × (o ≡ Some k))) [ None ↦ inl refl | Some k ↦ inr (k, refl) ]

-- the lowest index at which a test holds is the one that is found
pub lowest_is : (test : ℕ → Bool) (i n k : ℕ) → i ≤ k → k < i + n → test k ≡ true → ((j : ℕ) → i ≤ j → j < k → test j ≡ false) → lowest test i n ≡ Some k
unfolding lowest
lowest_is test i zero k from below holds first = absurd (omega arith)
lowest_is test i (suc n) k from below holds first =
    ⊎_elim
    (λ e. cond-true (test i) (Some i) (lowest test (i + 1) n) (ap test (sym e) ∙ holds) ∙ ap Some (sym e))
    (λ ne.
    cond-false (test i) (Some i) (lowest test (i + 1) n) (first i (omega arith) (omega arith))
    ∙ lowest_is test (i + 1) n k (omega arith) (omega arith) holds (λ j low less. first j (omega arith) less))
    (cases_eq k i)

-- What `find` gives over the indexes from a to below b.
abbrev pub IsFound : (ℕ → Bool) → ℕ → ℕ → Option ℕ → Type 0
IsFound test a b found =
    MatchOption found ((k : ℕ) → a ≤ k → k < b → test k ≡ false)
    (λ i. (a ≤ i) × (i < b) × (test i ≡ true) × ((k : ℕ) → a ≤ k → k < i → test k ≡ false))

pub found_lowest : (test : ℕ → Bool) (a b : ℕ) (found : Option ℕ) → IsFound test a b found → found ≡ lowest test a (b - a)
found_lowest test a b None never = sym (never_none test a (b - a) (λ k from less. never k from (omega arith)))
found_lowest test a b (Some i) (from, below, holds, first) = sym (lowest_is test a (b - a) i from (omega arith) holds first)

pub found_from : (test : ℕ → Bool) (a end b : ℕ) (found : Option ℕ) → end ≡ b → IsFound test a end found → found ≡ lowest test a (b - a)
found_from test a end b found e is = found_lowest test a end found is ∙ ap (λ n. lowest test a (n - a)) e

pub found_first : (test : ℕ → Bool) (end n : ℕ) (found : Option ℕ) → end ≡ n → IsFound test 0 end found → found ≡ lowest test 0 n
found_first test end n found e is = let z : n - 0 ≡ n = omega arith in found_from test 0 end n found e is ∙ ap (lowest test 0) z
