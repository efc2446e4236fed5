use Rattle.std.proofs.Common.{◌∙◌, arith}
use Rattle.sha256.proofs.Ending.{bytes_more, bytes_all}
use Rattle.sha256.proofs.padding.to_bytes.Goals as goal

pub loop-i-preserved : goal.loop-i-preserved
loop-i-preserved c =
    bytes_more
    c.loop-i.bytes
    c.copy_from_slice.new.self
    c.args.words.now
    c.loop-i.i
    c.loop-i-test.true
    c.told-words
    (c.copy_from_slice.ensures.after ∙ c.to_be_bytes.ensures)
    c.loop-i.invariant

pub returns : goal.returns
returns c =
    bytes_all c.loop-i.bytes c.args.words.now c.loop-i.i (omega arith) c.told-words c.loop-i.invariant
