use Rattle.sha256.proofs.Keyed.{filled_up_is}
use Rattle.sha256.proofs.mac.fill_up.Goals as goal

pub returns : goal.returns
returns c = filled_up_is c.put.new.block c.args.bytes.now c.put.ensures
