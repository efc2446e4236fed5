-- The answers that both kinds of object give by one number.
use Rattle.std.specs.Prelude.{ℕ}

-- The answer to an operation whose code the object does not know.
abbrev pub unknown_code : ℕ
unknown_code = 9999999

-- The answer to a reading of a title or an account that there is not.
abbrev pub out_of_reach : ℕ
out_of_reach = 9999998
