-- What the outcome of one check says of every record.
use Rattle.std.proofs.Common.{◌≡◌, ℕ, ◌+◌, ◌-◌, ◌<◌, ◌≤◌, Bool, true, false, ◌⊎◌, Some, None, Ok, Err, Result, sym, subst, inl, inr, ⊎_elim, arith}
use Rattle.std.proofs.lemmas.Bool.{cases_lt}
use Rattle.message.proofs.Found.{Lowest, none_never, some_lowest, found_or_never}
use Rattle.message.specs.Checks.{refuse, after}
use Rattle.message.specs.Records.{lowest}
use Rattle.message.specs.declared.faults.CertificateFault.{CertificateFault}

-- Every record of n is good, or the fault names the lowest that is bad.
pub data Verdict (fault : ℕ → CertificateFault) (n : ℕ) (Good Bad : ℕ → Type 0) : Result (Unit {0}) CertificateFault → Type 0 where
  passed : ((i : ℕ) → i < n → Good i) → Verdict fault n Good Bad (Ok tt)
  refused : (i : ℕ) → i < n → Bad i → ((j : ℕ) → j < i → Good j) → Verdict fault n Good Bad (Err (fault i))

-- A test of the records s, s+1, .. s+c-1 of a part whose first record has index `first`.
module _ (fault : ℕ → CertificateFault) (n first s c : ℕ) (t : ℕ → Bool) (Good Bad : ℕ → Type 0)
    (within : (k : ℕ) → s ≤ k → k < s + c → first + k < n)
    (fine : (k : ℕ) → s ≤ k → k < s + c → t k ≡ false → Good (first + k))
    (bad : (k : ℕ) → s ≤ k → k < s + c → t k ≡ true → Bad (first + k))
    (outside : (i : ℕ) → i < n → (i < first + s) ⊎ (first + s + c ≤ i) → Good i) where
  inside : (i : ℕ) → first + s ≤ i → i < first + s + c → t (i - first) ≡ false → Good i
  inside i from less e =
      let back : first + (i - first) ≡ i = omega arith in
      subst Good back (fine (i - first) (omega arith) (omega arith) e)

  each : (i : ℕ) → i < n → ((k : ℕ) → s ≤ k → k < s + c → first + k ≤ i → t k ≡ false) → Good i
  each i less never =
      ⊎_elim (λ low. outside i less (inl low))
      (λ from. ⊎_elim (λ low. inside i from low (never (i - first) (omega arith) (omega arith) (omega arith))) (λ high. outside i less (inr high)) (cases_lt i (first + s + c)))
      (cases_lt i (first + s))

  at_none : lowest t s c ≡ None → Verdict fault n Good Bad (refuse fault first None)
  at_none e = passed (λ i less. each i less (λ k from below _. none_never t s c e k from below))

  at_some : (k : ℕ) → lowest t s c ≡ Some k → Verdict fault n Good Bad (refuse fault first (Some k))
  at_some k e =
      let l : Lowest t s c k = some_lowest t s c k e in
      let from = l.from in
      let below = l.below in
      let less : first + k < n = within k from below in
      refused (first + k) less (bad k from below l.holds)
      (λ j before. each j (omega arith) (λ k' from' below' upto. l.first k' from' (omega arith)))

  pub of_part : Verdict fault n Good Bad (refuse fault first (lowest t s c))
  of_part =
      ⊎_elim
      (λ none. subst (λ o. Verdict fault n Good Bad (refuse fault first o)) (sym none) (at_none none))
      (λ some. subst (λ o. Verdict fault n Good Bad (refuse fault first o)) (sym some.1) (at_some some.0 some.1))
      (found_or_never t s c)

-- Two groups, of which the first lies before the second.
module _ (fault : ℕ → CertificateFault) (n : ℕ) (Good₁ Bad₁ Good₂ Bad₂ Good Bad : ℕ → Type 0)
    (good : (i : ℕ) → i < n → Good₁ i → Good₂ i → Good i)
    (bad₁ : (i : ℕ) → Bad₁ i → Bad i)
    (bad₂ : (i : ℕ) → Bad₂ i → Bad i)
    (apart : (i j : ℕ) → Bad₁ i → j < i → Good₂ j) where
  pub of_both : {r₁ r₂ : Result (Unit {0}) CertificateFault} → Verdict fault n Good₁ Bad₁ r₁ → Verdict fault n Good₂ Bad₂ r₂ → Verdict fault n Good Bad (after r₁ r₂)
  of_both (refused i less b first) v₂ = refused i less (bad₁ i b) (λ j before. good j (omega arith) (first j before) (apart i j b before))
  of_both (passed g₁) (refused i less b first) = refused i less (bad₂ i b) (λ j before. good j (omega arith) (g₁ j (omega arith)) (first j before))
  of_both (passed g₁) (passed g₂) = passed (λ i less. good i less (g₁ i less) (g₂ i less))
