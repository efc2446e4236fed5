-- What an office may rely on of the replies that it has filed.
use Rattle.std.specs.Prelude.{◌≡◌, ℕ, Bool, true, ◌||◌, List, length, Some}
use Rattle.record.specs.Layout.{record_bytes}
use Rattle.record.specs.Ranges.{in_range}
use Rattle.record.specs.RoundTrip.{Fits}
use Rattle.record.specs.declared.fields.Record.{Record}
use Rattle.record.specs.declared.fields.Statement.{Statement}
use Rattle.office.specs.Slots.{slot_at}
use Rattle.office.specs.Taking.{is_grant, is_answer, is_read_answer, standing}
use Rattle.office.specs.declared.desk.Desk.{Desk}
use Rattle.office.specs.declared.desk.Standing.TheVariants.{Like}
use Rattle.office.specs.declared.slots.Slot.{Slot}

-- A reply to a write is a GRANT or an ANSWER.
abbrev pub is_write_reply : Statement → Bool
is_write_reply s = is_grant s || is_answer s

-- A good reply of site i: the site signed it, its fields are in range, it replies to what is open, it has 80 bytes, and the notary accepts them.
pub record Good (f client : ℕ) (accepts : List ℕ → Bool) (desk : Desk) (i : ℕ) (reply : Record) : Type 0 where
  pub signer : reply.statement.signer ≡ i
  pub ranged : in_range f reply.statement ≡ true
  pub like : standing client desk reply.statement ≡ Like
  pub fits : Fits reply.statement
  pub sealed : length reply.seal ≡ 32
  pub vouched : accepts (record_bytes reply) ≡ true

-- Every reply that is filed is good, of the kinds wanted, and stands in its signer's slot.
abbrev pub Filed : ℕ → ℕ → (List ℕ → Bool) → Desk → (Statement → Bool) → List Slot → Type 0
Filed f client accepts desk wanted slots =
    (i : ℕ) (reply : Record) → (slot_at slots i).filed ≡ Some reply → (wanted reply.statement ≡ true) × Good f client accepts desk i reply

-- A sound desk: the write's slots hold good GRANTs and ANSWERs, the question's slots good READ-ANSWERs.
pub record Sound (f client : ℕ) (accepts : List ℕ → Bool) (desk : Desk) : Type 0 where
  pub replies : Filed f client accepts desk is_write_reply desk.replies.at
  pub readings : Filed f client accepts desk is_read_answer desk.readings.at
