-- Which filed replies count, and which two are alike, for each question that is asked of the slots.
use Rattle.std.specs.Prelude.{Bool, true, false, ◌&&◌, Some, None, Option, ◌==◌}
use Rattle.record.specs.Claims.{claim_of, same_claim, alike}
use Rattle.record.specs.Kinds.{kind_number}
use Rattle.record.specs.declared.fields.Record.{Record}
use Rattle.record.specs.declared.fields.Statement.{Statement}
use Rattle.record.specs.declared.kind.Kind.{Kind}
use Rattle.office.specs.declared.slots.Slot.{Slot}

-- A reply is filed.
abbrev pub is_filed : Option Record → Bool
is_filed None = false
is_filed (Some reply) = true

abbrev pub heard : Slot → Bool
heard slot = is_filed slot.filed

-- A reply of a kind is filed.
abbrev pub filed_kind : Kind → Option Record → Bool
filed_kind kind None = false
filed_kind kind (Some reply) = reply.statement.kind == kind_number kind

abbrev pub of_kind : Kind → Slot → Bool
of_kind kind slot = filed_kind kind slot.filed

-- Likeness of statements, for slots. Empty slots are alike, and unlike all others.
abbrev pub both_held : (Statement → Statement → Bool) → Option Record → Option Record → Bool
both_held like None None = true
both_held like None (Some b) = false
both_held like (Some a) None = false
both_held like (Some a) (Some b) = like a.statement b.statement

-- Alike but for the signer.
abbrev pub alike_slots : Slot → Slot → Bool
alike_slots a b = both_held alike a.filed b.filed

-- Of one claim.
abbrev pub one_claim : Statement → Statement → Bool
one_claim a b = same_claim (claim_of a) (claim_of b)

abbrev pub claim_slots : Slot → Slot → Bool
claim_slots a b = both_held one_claim a.filed b.filed

-- Of one round and place.
abbrev pub one_place : Statement → Statement → Bool
one_place a b = a.round == b.round && a.place == b.place

abbrev pub place_slots : Slot → Slot → Bool
place_slots a b = both_held one_place a.filed b.filed

-- Any two.
abbrev pub any_slots : Slot → Slot → Bool
any_slots a b = true
