use Rattle.protocol.proofs.Example.{example}
use Rattle.protocol.proofs.has_a_life.Goals as goal

pub returns : goal.returns
returns g c first = example g.O.Object.rules first
