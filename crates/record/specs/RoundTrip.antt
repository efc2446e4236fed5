-- Reading and writing are each other's inverse.
use Rattle.std.specs.Prelude.{◌≡◌, ℕ, ◌^◌, ◌<◌, List, length}
use Rattle.std.specs.List.{AllByRecursion}
use Rattle.record.specs.Layout.{record_of, record_bytes}
use Rattle.record.specs.declared.fields.Statement.{Statement}
use Rattle.record.specs.declared.fields.Record.{Record}

-- Each element of a list is a byte.
abbrev pub Bytes : List ℕ → Type 0
Bytes bytes = AllByRecursion (λ b. b < 256) bytes

-- The fields of a statement fit the bytes that the layout has for them.
pub record Fits (s : Statement) : Type 0 where
  pub number : s.number < 2 ^ 32
  pub round : s.round < 2 ^ 32
  pub place : s.place < 2 ^ 32
  pub operation : length s.operation ≡ 16
  pub answer : s.answer < 2 ^ 64
  pub nonce : s.nonce < 2 ^ 64

-- What is read from 80 bytes and written again is the same 80 bytes.
abbrev pub ReadThenWritten : Type 0
ReadThenWritten = (bytes : List ℕ) → length bytes ≡ 80 → Bytes bytes → record_bytes (record_of bytes) ≡ bytes

-- Fields that are written and read again are the same fields.
abbrev pub WrittenThenRead : Type 0
WrittenThenRead = (r : Record) → Fits r.statement → length r.seal ≡ 32 → record_of (record_bytes r) ≡ r
