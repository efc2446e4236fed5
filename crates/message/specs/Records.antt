-- The records of a message: 80 bytes each, end to end, numbered from 0.
use Rattle.std.specs.Prelude.{ℕ, zero, suc, ◌+◌, ◌*◌, ◌/◌, Bool, cond, List, length, take, drop, replicate, Some, None, Option, nat_lt}
use Rattle.record.specs.Layout.{statement_of}
use Rattle.record.specs.declared.fields.Statement.{Statement}

-- How many whole records there are.
abbrev pub records : List ℕ → ℕ
records m = length m / 80

-- The bytes of record i.
abbrev pub record_at : List ℕ → ℕ → List ℕ
record_at m i = take 80 (drop (80 * i) m)

-- What record i states.
abbrev pub statement_at : List ℕ → ℕ → Statement
statement_at m i = statement_of (record_at m i)

-- A group of the message: the bytes of `n` records from index `first` on.
abbrev pub group : List ℕ → ℕ → ℕ → List ℕ
group m first n = take (80 * n) (drop (80 * first) m)

-- A statement with nothing in it.
abbrev pub no_statement : Statement
no_statement = record {
  kind = 0;
  signer = 0;
  client = 0;
  spare = 0;
  number = 0;
  round = 0;
  place = 0;
  operation = replicate 16 0;
  answer = 0;
  nonce = 0;
}

-- What record i of a part states, and nothing where the part has no such record.
abbrev pub stated : List ℕ → ℕ → Statement
stated bytes i = cond (nat_lt i (records bytes)) (statement_at bytes i) no_statement

-- The lowest of `n` indexes from `i` on at which a test holds, if it holds at any.
unfoldable pub lowest : (ℕ → Bool) → ℕ → ℕ → Option ℕ
lowest test i zero = None
lowest test i (suc n) = cond (test i) (Some i) (lowest test (i + 1) n)
