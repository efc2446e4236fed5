use Rattle.sha256.proofs.Ending.{marked_is}
use Rattle.sha256.proofs.padding.marked.Goals as goal

pub returns : goal.returns
returns c = marked_is c.put.new.block c.args.tail.now c.requires c.put.ensures
