use Rattle.message.proofs.Outcome.{first_fault_named}
use Rattle.message.proofs.laws.first_fault_named.Goals as goal

pub returns : goal.returns
returns c = first_fault_named
