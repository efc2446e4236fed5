-- The order of preference among the sites: which of two groups of replies is the better one, and in which
-- order its members stand. Today a lower number goes first.
use Rattle.std.specs.Prelude.{ℕ, ◌<◌, List, [], ◌∷◌}

-- Site i goes before site j.
abbrev pub Before : ℕ → ℕ → Type 0
Before i j = i < j

-- Every site, each before all that follow it. There are 16 at most.
abbrev pub order : List ℕ
order = 0 ∷ 1 ∷ 2 ∷ 3 ∷ 4 ∷ 5 ∷ 6 ∷ 7 ∷ 8 ∷ 9 ∷ 10 ∷ 11 ∷ 12 ∷ 13 ∷ 14 ∷ 15 ∷ []
