-- Which two sites' replies go together.
use Rattle.std.specs.Prelude.{ℕ, Bool, false, ◌&&◌, List, Some, None, Option}
use Rattle.std.specs.List.{slice_get}

-- Both replies are there, both count, and they are alike.
abbrev pub both : {R : Type 0} → (R → Bool) → (R → R → Bool) → Option R → Option R → Bool
both counted likened None y = false
both counted likened (Some x) None = false
both counted likened (Some x) (Some y) = counted x && (counted y && likened x y)

-- The replies of the sites i and j go together. A site past the end of the list has sent none.
abbrev pub together : {R : Type 0} → (R → Bool) → (R → R → Bool) → List R → ℕ → ℕ → Bool
together counted likened replies i j = both counted likened (slice_get replies i) (slice_get replies j)
