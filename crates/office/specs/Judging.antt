-- The verdicts, over the replies that are filed.
use Rattle.std.specs.Prelude.{◌≡◌, ℕ, Bool, false, cond, ◌&&◌, List, [], ◌∷◌, ◌++◌, length, replicate, IfSome, Some, None, Option, ◌==◌}
use Rattle.std.specs.Str.{bytes_eq}
use Rattle.finder.specs.Groups.{best_group}
use Rattle.finder.specs.Replies.{together}
use Rattle.message.specs.Records.{no_statement}
use Rattle.record.specs.Claims.{claim_of}
use Rattle.record.specs.Layout.{record_bytes}
use Rattle.record.specs.declared.fields.Claim.{Claim}
use Rattle.record.specs.declared.fields.Record.{Record}
use Rattle.record.specs.declared.fields.Statement.{Statement}
use Rattle.record.specs.declared.kind.Kind.{Kind}
use Rattle.record.specs.declared.kind.Kind.TheVariants as kind
use Rattle.office.specs.Likenesses.{heard, of_kind, alike_slots, claim_slots, place_slots, any_slots}
use Rattle.office.specs.Slots.{slot_at, latest}
use Rattle.office.specs.declared.asking.Write.{Write}
use Rattle.office.specs.declared.slots.Slot.{Slot}
use Rattle.office.specs.declared.verdict.Verdict.{Verdict}
use Rattle.office.specs.declared.verdict.Verdict.TheVariants.{Done, Certify, Back, Clash, Catch, Wait}

-- The q sites whose replies of a kind are alike; whose GRANTs are of one claim; whose GRANTs are of one round and place; that are heard.
abbrev pub alike_sites : Kind → ℕ → List Slot → Option (List ℕ)
alike_sites kind q slots = best_group (together (of_kind kind) alike_slots slots) q

abbrev pub claim_sites : ℕ → List Slot → Option (List ℕ)
claim_sites q slots = best_group (together (of_kind kind.Grant) claim_slots slots) q

abbrev pub place_sites : ℕ → List Slot → Option (List ℕ)
place_sites q slots = best_group (together (of_kind kind.Grant) place_slots slots) q

abbrev pub heard_sites : ℕ → List Slot → Option (List ℕ)
heard_sites q slots = best_group (together heard any_slots slots) q

-- What a slot states, and nothing where it is empty.
abbrev pub stated_in : Option Record → Statement
stated_in None = no_statement
stated_in (Some reply) = reply.statement

-- What the first site of a group states.
abbrev pub lead : List Slot → List ℕ → Statement
lead slots [] = no_statement
lead slots (site ∷ sites) = stated_in (slot_at slots site).filed

-- A claim is that of a client's write.
abbrev pub claims_write : ℕ → Write → Claim → Bool
claims_write client write claim =
    (claim.client == client) && claim.number == write.number && bytes_eq claim.operation write.operation

-- A claim is that of the open write.
abbrev pub is_ours : ℕ → Option Write → Claim → Bool
is_ours client None claim = false
is_ours client (Some write) claim = claims_write client write claim

-- A verdict, with the sites whose records go with it.
pub record Found : Type 0 where
  pub verdict : Verdict
  pub sites : Option (List ℕ)

abbrev pub alone : Verdict → Found
alone verdict = record { verdict = verdict; sites = None }

abbrev pub beside : Verdict → List ℕ → Found
beside verdict sites = record { verdict = verdict; sites = Some sites }

-- A quorum is heard: the site of the latest reply is named. Else the office waits.
abbrev pub by_heard : List Slot → Option (List ℕ) → Verdict
by_heard slots (Some sites) = Catch (latest slots)
by_heard slots None = Wait

abbrev pub judged_heard : ℕ → List Slot → Verdict
judged_heard q slots = by_heard slots (heard_sites q slots)

-- A quorum of GRANTs of one round and place.
abbrev pub by_place : ℕ → List Slot → Option (List ℕ) → Found
by_place q slots (Some sites) = beside Clash sites
by_place q slots None = alone (judged_heard q slots)

-- A quorum of GRANTs of one claim, ours or another's.
abbrev pub by_claim : ℕ → ℕ → Option Write → List Slot → Option (List ℕ) → Found
by_claim q client write slots (Some sites) = beside (cond (is_ours client write (claim_of (lead slots sites))) Certify Back) sites
by_claim q client write slots None = by_place q slots (place_sites q slots)

-- A quorum of ANSWERs that are alike.
abbrev pub by_answer : ℕ → ℕ → Option Write → List Slot → Option (List ℕ) → Found
by_answer q client write slots (Some sites) = alone (Done (lead slots sites).answer)
by_answer q client write slots None = by_claim q client write slots (claim_sites q slots)

-- JUDGE over the slots of the write: the first that applies of DONE, CERTIFY or BACK, CLASH, CATCH, WAIT.
abbrev pub judged : ℕ → ℕ → Option Write → List Slot → Found
judged q client write slots = by_answer q client write slots (alike_sites kind.Answer q slots)

-- The same over the slots of the question: DONE, CATCH or WAIT.
abbrev pub by_read_answer : ℕ → List Slot → Option (List ℕ) → Verdict
by_read_answer q slots (Some sites) = Done (lead slots sites).answer
by_read_answer q slots None = judged_heard q slots

abbrev pub judged_reading : ℕ → List Slot → Verdict
judged_reading q slots = by_read_answer q slots (alike_sites kind.ReadAnswer q slots)

-- The sites are q in number.
abbrev pub Sized : ℕ → Option (List ℕ) → Type 0
Sized q sites = IfSome sites (λ members. length members ≡ q)

-- The bytes of the record in a slot, seal included.
abbrev pub bytes_in : Option Record → List ℕ
bytes_in None = replicate 80 0
bytes_in (Some reply) = record_bytes reply

-- The records of a group of sites, end to end, in the group's order.
unfoldable pub records_of : List Slot → List ℕ → List ℕ
records_of slots [] = []
records_of slots (site ∷ sites) = bytes_in (slot_at slots site).filed ++ records_of slots sites

-- What a verdict writes: the records of its sites.
abbrev pub found_bytes : List Slot → Option (List ℕ) → List ℕ
found_bytes slots None = []
found_bytes slots (Some sites) = records_of slots sites
