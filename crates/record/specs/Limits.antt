-- The limits of fields, each in one place.
use Rattle.std.specs.Prelude.{ℕ, ◌+◌, ◌*◌}

-- The highest round.
abbrev pub highest_round : ℕ
highest_round = 2000000000

-- The highest place: a settlement of a mark and fifteen requests may pass the limit by sixteen.
abbrev pub highest_place : ℕ
highest_place = highest_round + 16

-- Clients are numbered from 0 to 15.
abbrev pub highest_client : ℕ
highest_client = 15

-- The client number that stands for the mark of a round.
abbrev pub mark : ℕ
mark = 16

-- Sites are numbered from 0 to 3f.
abbrev pub highest_site : ℕ → ℕ
highest_site f = 3 * f
