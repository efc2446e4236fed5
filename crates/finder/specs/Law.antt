-- What a quorum is, and which one is the best, in the words of those who ask for one.
use Rattle.std.specs.Prelude.{◌≡◌, ℕ, ◌<◌, Bool, true, ◌⊎◌, List, [], ◌∷◌, length, Some, None, Option}
use Rattle.finder.specs.Order.{Before}
use Rattle.std.specs.List.{slice_get, AllByRecursion}

-- Holds of each two of a list, the earlier one first.
abbrev pub Pairs : (ℕ → ℕ → Type 0) → List ℕ → Type 0
Pairs Holds [] = Unit {0}
Pairs Holds (i ∷ rest) = AllByRecursion (Holds i) rest × Pairs Holds rest

-- Site i has sent a reply that counts.
abbrev pub Sent : {R : Type 0} → (R → Bool) → List R → ℕ → Type 0
Sent {R} counted replies i = (x : R) × (slice_get replies i ≡ Some x) × (counted x ≡ true)

-- The replies of the sites i and j are alike.
abbrev pub Agree : {R : Type 0} → (R → R → Bool) → List R → ℕ → ℕ → Type 0
Agree {R} likened replies i j = (x y : R) → slice_get replies i ≡ Some x → slice_get replies j ≡ Some y → likened x y ≡ true

-- Of the sites 0 to 15, q different ones, in the order of preference, each with a reply that counts, each two of them alike.
pub record Quorum {R : Type 0} (counted : R → Bool) (likened : R → R → Bool) (replies : List R) (q : ℕ) (sites : List ℕ)
    : Type 0 where
  pub size : length sites ≡ q
  pub known : AllByRecursion (λ i. i < 16) sites
  pub ordered : Pairs Before sites
  pub sent : AllByRecursion (Sent counted replies) sites
  pub agree : Pairs (Agree likened replies) sites

-- One list of sites is another, or is preferred to it: where they first differ, its site goes before the other's.
abbrev pub AtMost : List ℕ → List ℕ → Type 0
AtMost [] other = Unit {0}
AtMost (i ∷ rest) [] = ⊥
AtMost (i ∷ rest) (j ∷ other) = Before i j ⊎ ((i ≡ j) × AtMost rest other)

-- None exactly where there is no such list; else one of them, and none of them is preferred to it.
abbrev pub Best : (List ℕ → Type 0) → Option (List ℕ) → Type 0
Best Wanted None = (other : List ℕ) → Wanted other → ⊥
Best Wanted (Some sites) = Wanted sites × ((other : List ℕ) → Wanted other → AtMost sites other)
