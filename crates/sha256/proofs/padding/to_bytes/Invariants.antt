use Rattle.std.proofs.Common.{◌≡◌, ◌*◌, length, take}
use Rattle.std.specs.List.{flat_map}
use Rattle.sha256.specs.Digest.{four_bytes}
use Rattle.sha256.proofs.padding.to_bytes.Given as goal

abbrev pub invariant-loop-i : goal.invariant-loop-i
invariant-loop-i l = (length l.bytes ≡ 32) × (take (4 * l.i) l.bytes ≡ flat_map four_bytes (take l.i l.words))
