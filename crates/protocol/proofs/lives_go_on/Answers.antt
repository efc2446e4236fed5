use Rattle.protocol.proofs.Lives.{lives}
use Rattle.protocol.proofs.lives_go_on.Goals as goal

pub returns : goal.returns
returns g c pool first = lives
