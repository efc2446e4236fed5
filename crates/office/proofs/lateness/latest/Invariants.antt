use Rattle.std.proofs.Common.{◌≡◌, ◌-◌, ◌≤◌, length}
use Rattle.office.specs.Slots.{latest_from, latest}
use Rattle.office.proofs.lateness.latest.Given as goal

-- the best so far stands before i, or is the first, and what is left from i on gives what all of them give
abbrev pub invariant-loop-i : goal.invariant-loop-i
invariant-loop-i l = (l.best ≤ l.i) × (latest_from l.slots l.best l.i (length l.slots - l.i) ≡ latest l.slots)
