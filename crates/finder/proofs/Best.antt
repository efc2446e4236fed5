-- The group that the finder gives is the best, over any test that is symmetric and transitive.
use Rattle.std.proofs.Common.{◌≡◌, ℕ, zero, suc, ◌<◌, ◌≤◌, Bool, true, leb, ◌⊎◌, List, [], ◌∷◌, length, take, Some, None, refl, subst, inl, inr, arith, lit<}
use Rattle.finder.proofs.Classes.{all_both, all_in, front_before, front_least, kept_all, kept_in, kept_pairs, kept_passes, pairs_from_all, pairs_take}
use Rattle.finder.proofs.Preference.{In, order_complete, order_sorted, order_sound}
use Rattle.finder.specs.Groups.{best_group, class_of, led_by, or_else}
use Rattle.finder.specs.Law.{AtMost, Best, Pairs}
use Rattle.finder.specs.Order.{Before, order}
use Rattle.std.proofs.ByRecursion.{All-take, All-weaker}
use Rattle.std.proofs.lemmas.List.{length-take-le}
use Rattle.std.proofs.lemmas.Bool.{cond_both, leb-false, leb-true}
use Rattle.std.specs.List.{AllByRecursion as All}

-- q sites in the order of preference, each of which goes together with itself and with each other
pub record Good (together : ℕ → ℕ → Bool) (q : ℕ) (sites : List ℕ) : Type 0 where
  pub size : length sites ≡ q
  pub known : All (λ i. i < 16) sites
  pub ordered : Pairs Before sites
  pub own : All (λ i. together i i ≡ true) sites
  pub paired : Pairs (λ i j. together i j ≡ true) sites

module _
    (together : ℕ → ℕ → Bool)
    (symmetric : (i j : ℕ) → together i j ≡ true → together j i ≡ true)
    (transitive : (i j k : ℕ) → together i j ≡ true → together j k ≡ true → together i k ≡ true)
    (q : ℕ) where
  -- a group stands in the class of its first member
  in_class : (i : ℕ) (sites : List ℕ) → Good together q (i ∷ sites) → All (λ j. In j (class_of together order i)) (i ∷ sites)
  in_class i sites good = (
    kept_in (together i) order i (order_complete i good.known.0) good.own.0,
    all_both
        (λ j. j < 16)
        (λ j. together i j ≡ true)
        (λ j. In j (class_of together order i))
        (λ j known passes. kept_in (together i) order j (order_complete j known) passes)
        sites
        good.known.1
        good.paired.0,
  )

  class_sorted : (i : ℕ) → Pairs Before (class_of together order i)
  class_sorted i = kept_pairs Before (together i) order order_sorted

  -- so that class has q members
  class_large : (i : ℕ) (sites : List ℕ) → Good together q (i ∷ sites) → q ≤ length (class_of together order i)
  class_large i sites good =
      subst
      (λ n. n ≤ length (class_of together order i))
      good.size
      (front_least (class_of together order i) (i ∷ sites) (class_sorted i) good.ordered (in_class i sites good)).0

  -- the first q of a class are a group
  class_good : (i : ℕ) → q ≤ length (class_of together order i) → Good together q (take q (class_of together order i))
  class_good i large =
      let passes : All (λ j. together i j ≡ true) (take q (class_of together order i)) =
      All-take (λ j. together i j ≡ true) q (class_of together order i) (kept_passes (together i) order)
      in
      record {
        size = length-take-le q (class_of together order i) large;
        known =
            All-take (λ j. j < 16) q (class_of together order i) (kept_all (λ j. j < 16) (together i) order order_sound);
        ordered = pairs_take Before q (class_of together order i) (class_sorted i);
        own =
            All-weaker
            (λ j. together i j ≡ true)
            (λ j. together j j ≡ true)
            (λ j ij. transitive j i j (symmetric i j ij) ij)
            (take q (class_of together order i))
            passes;
        paired =
            pairs_from_all
            (λ j. together i j ≡ true)
            (λ j k. together j k ≡ true)
            (λ j k ij ik. transitive j i k (symmetric i j ij) ik)
            (take q (class_of together order i))
            passes;
      }

  -- a site whose class has a member is in it
  own_class :
      (i : ℕ) (class : List ℕ) → i < 16 → All (λ j. together i j ≡ true) class → 0 < length class →
      In i (class_of together order i)
  own_class i [] known passes some = absurd (omega arith)
  own_class i (j ∷ class) known (ij, passes) some =
      kept_in (together i) order i (order_complete i known) (transitive i j i ij (symmetric i j ij))

  -- the first q of a large class are at most a group that begins at its lead or after it
  class_least :
      (i : ℕ) → i < 16 → q ≤ length (class_of together order i) → 0 < q → (j : ℕ) (sites : List ℕ) →
      Good together q (j ∷ sites) → (j ≡ i) ⊎ Before i j → AtMost (take q (class_of together order i)) (j ∷ sites)
  class_least i known large some j sites good (inl e) =
      subst
      (λ lead. AtMost (take q (class_of together order lead)) (j ∷ sites))
      e
      (subst
      (λ n. AtMost (take n (class_of together order j)) (j ∷ sites))
      good.size
      (front_least (class_of together order j) (j ∷ sites) (class_sorted j) good.ordered (in_class j sites good)).1)
  class_least i known large some j sites good (inr ij) =
      front_before
      (class_of together order i)
      i
      j
      q
      sites
      (class_sorted i)
      (own_class i (class_of together order i) known (kept_passes (together i) order) (omega arith))
      ij
      some

  no_empty : Good together q [] → 0 < q → ⊥
  no_empty good some = omega (arith, good.size)

  least :
      (i : ℕ) → i < 16 → q ≤ length (class_of together order i) → 0 < q →
      ((j : ℕ) (sites : List ℕ) → Good together q (j ∷ sites) → (j ≡ i) ⊎ Before i j) →
      (other : List ℕ) → Good together q other → AtMost (take q (class_of together order i)) other
  least i known large some starts [] good = absurd (no_empty good some)
  least i known large some starts (j ∷ sites) good =
      class_least i known large some j sites good (starts j sites good)

  -- where each group begins at one of the leads, they give the best group
  leads_best :
      (leads : List ℕ) → All (λ i. i < 16) leads → Pairs Before leads → 0 < q →
      ((j : ℕ) (sites : List ℕ) → Good together q (j ∷ sites) → In j leads) →
      Best (Good together q) (led_by together order q leads)
  leads_best [] known sorted some starts = nobody
    where
      nobody : (other : List ℕ) → Good together q other → ⊥
      nobody [] good = no_empty good some
      nobody (j ∷ sites) good = starts j sites good
  leads_best (i ∷ leads) (here, known) (above, sorted) some starts =
      cond_both
      (leb q (length (class_of together order i)))
      (Some (take q (class_of together order i)))
      None
      (λ found. Best (Good together q) (or_else found (led_by together order q leads)))
      (λ large.
      let enough : q ≤ length (class_of together order i) = leb-true q (length (class_of together order i)) large in (
        class_good i enough,
        least i here enough some
            (λ j sites good.
            elim (starts j sites good) [ inl e ↦ inl e | inr later ↦ inr (all_in (Before i) leads j above later) ]),
      ))
      (λ small.
      leads_best leads known sorted some
      (λ j sites good.
      elim (starts j sites good) [
        | inl e ↦
            let large : q ≤ length (class_of together order i) =
            subst (λ lead. q ≤ length (class_of together order lead)) e (class_large j sites good)
            in
            absurd (omega (arith, leb-false q (length (class_of together order i)) small))
        | inr later ↦ later
      ]))

  some_best : 0 < q → Best (Good together q) (best_group together q)
  unfolding best_group
  some_best some =
      leads_best order order_sound order_sorted some (λ j sites good. order_complete j good.known.0)

-- a group of nobody is always there, and at most any other
none_good : (together : ℕ → ℕ → Bool) → Good together 0 []
none_good together = record { size = refl; known = tt; ordered = tt; own = tt; paired = tt }

none_led :
    (together : ℕ → ℕ → Bool) (leads : List ℕ) → 0 < length leads → Best (Good together 0) (led_by together order 0 leads)
none_led together [] some = absurd (omega arith)
none_led together (lead ∷ leads) some =
    cond_both
    (leb 0 (length (class_of together order lead)))
    (Some [])
    None
    (λ found. Best (Good together 0) (or_else found (led_by together order 0 leads)))
    (λ _. (none_good together, λ _ _. tt))
    (λ small. absurd (omega (arith, leb-false 0 (length (class_of together order lead)) small)))

none_best : (together : ℕ → ℕ → Bool) → Best (Good together 0) (best_group together 0)
unfolding best_group
none_best together = none_led together order (lit< tt)

pub group_best :
    (together : ℕ → ℕ → Bool) → ((i j : ℕ) → together i j ≡ true → together j i ≡ true) →
    ((i j k : ℕ) → together i j ≡ true → together j k ≡ true → together i k ≡ true) → (q : ℕ) →
    Best (Good together q) (best_group together q)
group_best together symmetric transitive zero = none_best together
group_best together symmetric transitive (suc q) = some_best together symmetric transitive (suc q) (omega arith)
