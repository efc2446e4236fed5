use Rattle.std.proofs.Common.{◌≡◌, ◌-◌, length}
use Rattle.message.specs.Records.{records}
use Rattle.message.specs.Saying.{requests_from, requests_in}
use Rattle.site.specs.Tables.{tabled, no_entries}
use Rattle.site.proofs.tables.table_of.Given as goal

-- what is left goes into the table that there is as all goes into an empty one
abbrev pub invariant-loop-i : goal.invariant-loop-i
invariant-loop-i l = (length l.table ≡ 16)
    × (tabled (requests_from l.part.bytes.now l.i (records l.part.bytes.now - l.i)) l.table ≡ tabled (requests_in l.part.bytes.now) no_entries)
