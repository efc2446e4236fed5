-- The slots that replies are filed in, one for each site, and which of two replies is the later.
use Rattle.std.specs.Prelude.{ℕ, zero, suc, ◌+◌, Bool, true, false, cond, ◌&&◌, List, length, replicate, Some, None, Option, ◌==◌, nat_lt, slice_index_or, slice_set}
use Rattle.record.specs.Kinds.{kind_number}
use Rattle.record.specs.declared.fields.Record.{Record}
use Rattle.record.specs.declared.fields.Statement.{Statement}
use Rattle.record.specs.declared.kind.Kind.TheVariants.{Grant, Answer}
use Rattle.office.specs.declared.slots.Slot.{Slot}
use Rattle.office.specs.declared.slots.Slots.{Slots}

-- A slot with nothing in it, and one that holds a reply.
abbrev pub no_reply : Slot
no_reply = record { filed = None }

abbrev pub holding : Record → Slot
holding reply = record { filed = Some reply }

-- Nobody has replied.
abbrev pub empty_slots : Slots
empty_slots = record { at = replicate 16 no_reply }

-- The slot of site i.
abbrev pub slot_at : List Slot → ℕ → Slot
slot_at slots i = slice_index_or slots i no_reply

-- An ANSWER goes over a GRANT.
abbrev pub answer_over_grant : Statement → Statement → Bool
answer_over_grant a b = a.kind == kind_number Answer && b.kind == kind_number Grant

-- The order of lateness: by round, then by place, then an ANSWER over a GRANT.
abbrev pub later : Statement → Statement → Bool
later a b =
    cond (a.round == b.round)
    (cond (a.place == b.place) (answer_over_grant a b) (nat_lt b.place a.place))
    (nat_lt b.round a.round)

-- The same of what slots hold: a reply is later than none.
abbrev pub later_held : Option Record → Option Record → Bool
later_held None b = false
later_held (Some a) None = true
later_held (Some a) (Some b) = later a.statement b.statement

abbrev pub later_slot : Slot → Slot → Bool
later_slot a b = later_held a.filed b.filed

-- Filing: a reply replaces what stands in its signer's slot only where it is later.
abbrev pub filed_in : List Slot → Record → List Slot
filed_in slots reply =
    cond (later_slot (holding reply) (slot_at slots reply.statement.signer)) (slice_set slots reply.statement.signer (holding reply)) slots

abbrev pub filed_among : Slots → Record → Slots
filed_among slots reply = record { at = filed_in slots.at reply }

-- Of the site `best` and the next n sites from i on, the one with the latest reply; the first of those that are equally late.
unfoldable pub latest_from : List Slot → ℕ → ℕ → ℕ → ℕ
latest_from slots best i zero = best
latest_from slots best i (suc n) = latest_from slots (cond (later_slot (slot_at slots i) (slot_at slots best)) i best) (i + 1) n

-- The site with the latest reply, the lowest of those that are equally late.
abbrev pub latest : List Slot → ℕ
latest slots = latest_from slots 0 0 (length slots)
