use Rattle.std.proofs.Common.{◌≡◌, ◌*◌}
use Rattle.sha256.specs.Compression.{rounds}
use Rattle.sha256.proofs.compression.compress.Given as goal

abbrev pub invariant-loop-i : goal.invariant-loop-i
invariant-loop-i l = l.working ≡ rounds (8 * l.i) l.w l.initial.working
