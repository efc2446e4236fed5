-- What an object means: its values, and what each call does to them.
use Rattle.std.specs.Prelude.{ℕ, Bool, ◌&&◌, List, Option, nat_le, nat_lt, slice_index}

-- The meaning of one kind of object. A call is described by the value now, the client's number and the
-- sixteen bytes of the operation, and by nothing else.
pub record Rules : Type 1 where
  -- what the object may hold
  pub Value : Type 0
  -- the value after a write by a client
  pub next : Value → ℕ → List ℕ → Value
  -- the number that answers that write
  pub answer : Value → ℕ → List ℕ → ℕ
  -- the number that answers a reading
  pub look : Value → List ℕ → ℕ
  -- the highest operation code that the object knows
  pub highest : ℕ

-- What an object holds at one moment: its value, and the value before the last write, until it is taken back.
pub record Moment (V : Type 0) : Type 0 where
  pub value : V
  pub before : Option V

-- An operation's code is its first byte.
abbrev pub code : List ℕ → ℕ
code operation = slice_index operation 0

-- An operation is fit where its code lies from 1 to the highest.
abbrev pub fit : ℕ → List ℕ → Bool
fit highest operation = nat_lt 0 (code operation) && nat_le (code operation) highest
