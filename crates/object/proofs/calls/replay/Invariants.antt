-- The calls that are left, made on the object as it is, lead where all calls lead from the start.
use Rattle.std.proofs.Common.{◌≡◌, drop}
use Rattle.object.specs.Calls.{run}
use Rattle.object.proofs.calls.replay.Given as goal

abbrev pub invariant-loop-call : goal.invariant-loop-call
invariant-loop-call g l =
    run g.O.Object.rules (g.O.Object.holds l.object) (drop l.call-index l.calls)
    ≡ run g.O.Object.rules (g.O.Object.holds l.initial.object) l.calls
