use Rattle.std.proofs.Common.{◌<◌, length, sym, arith}
use Rattle.office.proofs.Latest.{looked_on, passed_on, all_looked_at}
use Rattle.office.proofs.lateness.latest.Goals as goal
use Rattle.office.proofs.lateness.latest.Goals.{then-is_later, else-is_later}

pub loop-i-preserved : goal.loop-i-preserved
loop-i-preserved c =
    let less : c.loop-i.i < length c.args.slots.now = omega arith in
    let slots = c.args.slots.now in
    elim c.if-is_later.branch [
      | then-is_later w ↦ (omega arith, simp w.best-is (looked_on slots c.loop-i.best c.loop-i.i (length slots) less (sym w.if-is_later.ensures) c.loop-i.invariant.1))
      | else-is_later w ↦ (omega arith, simp w.best-is (passed_on slots c.loop-i.best c.loop-i.i (length slots) less (sym w.if-is_later.ensures) c.loop-i.invariant.1))
    ]

pub returns : goal.returns
returns c = all_looked_at c.args.slots.now c.loop-i.best c.loop-i.i (length c.args.slots.now) (omega arith) c.loop-i.invariant.1
