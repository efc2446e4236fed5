use Rattle.object.proofs.SlotsProofs.{total_never_changes}
use Rattle.object.proofs.laws.total_never_changes.Goals as goal

pub returns : goal.returns
returns c = total_never_changes
