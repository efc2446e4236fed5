-- The layout of a record: which bytes hold which field.
use Rattle.std.specs.Prelude.{ℕ, List, ◌∷◌, ◌++◌, slice_index}
use Rattle.record.specs.Numbers.{bytes_at, number_at, bytes_of_number}
use Rattle.record.specs.declared.fields.Statement.{Statement}
use Rattle.record.specs.declared.fields.Record.{Record}

-- The statement that the first 48 bytes make.
abbrev pub statement_of : List ℕ → Statement
statement_of bytes = record {
  kind = slice_index bytes 0;
  signer = slice_index bytes 1;
  client = slice_index bytes 2;
  spare = slice_index bytes 3;
  number = number_at 4 4 bytes;
  round = number_at 8 4 bytes;
  place = number_at 12 4 bytes;
  operation = bytes_at 16 16 bytes;
  answer = number_at 32 8 bytes;
  nonce = number_at 40 8 bytes;
}

-- The bytes of a record that make its statement, and those that make its seal.
abbrev pub statement_part : List ℕ → List ℕ
statement_part bytes = bytes_at 0 48 bytes

abbrev pub seal_part : List ℕ → List ℕ
seal_part bytes = bytes_at 48 32 bytes

-- The record that 80 bytes make: a statement, and a seal in the last 32 bytes.
abbrev pub record_of : List ℕ → Record
record_of bytes = record { statement = statement_of bytes; seal = seal_part bytes }

-- The 48 bytes of a statement: its fields in their order.
abbrev pub statement_bytes : Statement → List ℕ
statement_bytes s =
    s.kind ∷ s.signer ∷ s.client ∷ s.spare
    ∷ bytes_of_number 4 s.number
    ++ (bytes_of_number 4 s.round
    ++ (bytes_of_number 4 s.place
    ++ (s.operation ++ (bytes_of_number 8 s.answer ++ bytes_of_number 8 s.nonce))))

-- The 80 bytes of a record.
abbrev pub record_bytes : Record → List ℕ
record_bytes r = statement_bytes r.statement ++ r.seal
