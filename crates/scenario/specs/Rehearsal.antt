-- The keys of a rehearsal.
use Rattle.std.specs.Prelude.{ℕ, ◌+◌, List, [], ◌∷◌, replicate}

-- A key of 32 equal bytes.
abbrev pub plain_key : ℕ → List ℕ
plain_key value = replicate 32 value

-- Sixteen keys: the first is of this value, and each next one of the next value.
abbrev pub rehearsal_keys : ℕ → List (List ℕ)
rehearsal_keys first =
    plain_key first ∷ plain_key (first + 1) ∷ plain_key (first + 2) ∷ plain_key (first + 3) ∷ plain_key (first + 4) ∷ plain_key (first + 5)
    ∷ plain_key (first + 6) ∷ plain_key (first + 7) ∷ plain_key (first + 8) ∷ plain_key (first + 9) ∷ plain_key (first + 10)
    ∷ plain_key (first + 11) ∷ plain_key (first + 12) ∷ plain_key (first + 13) ∷ plain_key (first + 14) ∷ plain_key (first + 15) ∷ []
