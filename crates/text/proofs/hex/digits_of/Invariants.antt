use Rattle.std.proofs.Common.{◌≡◌, ◌<◌, ◌*◌, length, take}
use Rattle.std.specs.List.{All}
use Rattle.text.specs.Hex.{hex_text}
use Rattle.text.proofs.hex.digits_of.Given as goal

-- the bytes so far are written
abbrev pub invariant-loop-i : goal.invariant-loop-i
invariant-loop-i l =
    (length l.digits ≡ 64)
    × (take (2 * l.i) l.digits ≡ hex_text (take l.i l.run))
    × All (λ c. c < 128) (take (2 * l.i) l.digits)
