use Rattle.std.proofs.Common.{◌≡◌, ◌*◌, ◌++◌, length, take, drop}
use Rattle.finder.specs.Members.{members}
use Rattle.office.specs.Judging.{records_of}
use Rattle.office.proofs.writing.write_group.Given as goal

-- the records of the first k sites stand in front, and the rest is as it was
abbrev pub invariant-loop-k : goal.invariant-loop-k
invariant-loop-k l = (length (records_of l.slots (take l.k (members l.group))) ≡ 80 * l.k)
    × (l.output ≡ records_of l.slots (take l.k (members l.group)) ++ drop (80 * l.k) l.initial.output)
