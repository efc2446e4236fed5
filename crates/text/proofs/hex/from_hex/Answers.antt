use Rattle.std.proofs.Common.{rules}
use Rattle.text.proofs.HexText.{one_read}
use Rattle.text.proofs.hex.from_hex.Goals as goal

pub loop-digits-preserved : goal.loop-digits-preserved
loop-digits-preserved c =
    let steps = c.in-Some.ensures.steps in
    let items = c.in_ok-push.ensures.items in (
      search rules,
      tt,
      search rules,
      rw items (one_read _ c.in-Some.digits.now _ c.loop-digits.bytes.items c.in-Some-byte.byte _ c.loop-digits.invariant.3 steps.1.0 c.in-Some-byte.ensures),
    )
