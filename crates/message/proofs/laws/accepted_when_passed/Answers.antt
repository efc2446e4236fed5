use Rattle.message.proofs.Outcome.{accepted_when_passed}
use Rattle.message.proofs.laws.accepted_when_passed.Goals as goal

pub returns : goal.returns
returns c = accepted_when_passed
