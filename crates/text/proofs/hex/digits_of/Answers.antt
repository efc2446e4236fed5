use Rattle.std.proofs.Common.{◌<◌, arith, rules, get_or, ◌∙◌}
use Rattle.std.proofs.lemmas.List.{length-set}
use Rattle.text.proofs.HexText.{byte_written, byte_ascii}
use Rattle.text.proofs.hex.digits_of.Goals as goal

pub loop-i-preserved : goal.loop-i-preserved
loop-i-preserved c =
    let run = c.args.run.now in
    let i = c.loop-i.i in
    let digits = c.loop-i.digits in
    let long = c.loop-i.invariant.0 in
    let byte : get_or run i 0 < 256 = search rules in (
      length-set _ _ _ ∙ length-set _ _ _ ∙ long,
      byte_written digits run i _ _ (omega arith) (omega (arith, long)) c.loop-i.invariant.1 c.digit.ensures c.digit-in-loop-i.ensures,
      byte_ascii digits i _ _ _ _ (omega (arith, long)) c.loop-i.invariant.2 c.digit.ensures (omega (arith, byte)) c.digit-in-loop-i.ensures (omega arith),
    )
