use Rattle.std.proofs.Common.{◌≡◌}
use Rattle.std.specs.Slice.Iter.{chunks_rest, chunks_size}
use Rattle.text.specs.Hex.{hex_bytes}
use Rattle.text.proofs.HexText.{in_front}
use Rattle.text.proofs.hex.from_hex.Given as goal

-- what is read stands in front of what is left
abbrev pub invariant-loop-digits : goal.invariant-loop-digits
invariant-loop-digits l =
    goal.iterator-loop-digits.can_next l.digits-iterator
    × goal.iterator-loop-digits.is_finite l.digits-iterator
    × (chunks_size l.digits-iterator ≡ 2)
    × (hex_bytes l.text ≡ in_front l.bytes.items (hex_bytes (chunks_rest l.digits-iterator)))
