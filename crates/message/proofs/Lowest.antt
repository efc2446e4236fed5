-- The steps of a loop that looks for the lowest index at which a test holds.
use Rattle.std.proofs.Common.{◌≡◌, ℕ, zero, suc, ◌+◌, ◌-◌, ◌<◌, ◌≤◌, Bool, true, false, cond, Some, None, Option, sym, refl, ap, ◌∙◌, arith}
use Rattle.std.proofs.lemmas.Bool.{cond-true, cond-false}
use Rattle.message.specs.Records.{lowest}

-- one index fewer is left
pub unroll : (test : ℕ → Bool) (i n : ℕ) → 0 < n → lowest test i n ≡ cond (test i) (Some i) (lowest test (i + 1) (n - 1))
unfolding lowest
unroll test i zero some = absurd (omega arith)
unroll test i (suc n) some = let e : (suc n - 1) ≡ n = omega arith in rw e

pub at_start : (test : ℕ → Bool) (n : ℕ) → lowest test 0 (n - 0) ≡ lowest test 0 n
at_start test n = let e : (n - 0) ≡ n = omega arith in ap (lowest test 0) e

pub passed_over : (test : ℕ → Bool) (k n : ℕ) {x : Option ℕ} → k < n → test k ≡ false → lowest test k (n - k) ≡ x → lowest test (k + 1) (n - (k + 1)) ≡ x
passed_over test k n less fine left =
    let e : (n - k) - 1 ≡ n - (k + 1) = omega arith in
    let u : lowest test k (n - k) ≡ cond (test k) (Some k) (lowest test (k + 1) ((n - k) - 1)) = unroll test k (n - k) (omega arith) in
    ap (lowest test (k + 1)) (sym e) ∙ sym (cond-false (test k) (Some k) _ fine) ∙ sym u ∙ left

pub stopped_at : (test : ℕ → Bool) (k n : ℕ) {x : Option ℕ} → k < n → test k ≡ true → lowest test k (n - k) ≡ x → Some k ≡ x
stopped_at test k n less bad left =
    let u : lowest test k (n - k) ≡ cond (test k) (Some k) (lowest test (k + 1) ((n - k) - 1)) = unroll test k (n - k) (omega arith) in
    sym (cond-true (test k) (Some k) _ bad) ∙ sym u ∙ left

nothing_left : (test : ℕ → Bool) (i n : ℕ) → n ≡ 0 → lowest test i n ≡ None
unfolding lowest
nothing_left test i zero e = refl
nothing_left test i (suc n) e = absurd (omega arith)

pub at_end : (test : ℕ → Bool) (k n : ℕ) {x : Option ℕ} → n ≤ k → lowest test k (n - k) ≡ x → None ≡ x
at_end test k n more left = sym (nothing_left test k (n - k) (omega arith)) ∙ left
