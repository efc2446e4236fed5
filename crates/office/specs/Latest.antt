-- The latest reply, in the words of the order of lateness.
use Rattle.std.specs.Prelude.{◌≡◌, ℕ, ◌<◌, true, false, List, Some}
use Rattle.record.specs.declared.fields.Record.{Record}
use Rattle.office.specs.Slots.{slot_at, later}
use Rattle.office.specs.declared.slots.Slot.{Slot}

-- A site has the latest reply: no reply is later than its own, and its own is later than that of every lower site.
pub record Latest (slots : List Slot) (site : ℕ) : Type 0 where
  pub reply : Record
  pub filed : (slot_at slots site).filed ≡ Some reply
  pub latest : (i : ℕ) (other : Record) → (slot_at slots i).filed ≡ Some other → later other.statement reply.statement ≡ false
  pub lowest : (i : ℕ) (other : Record) → i < site → (slot_at slots i).filed ≡ Some other → later reply.statement other.statement ≡ true
