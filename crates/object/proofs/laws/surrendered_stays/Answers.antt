use Rattle.object.proofs.TitlesProofs.{surrendered_stays, surrendered_for_good}
use Rattle.object.proofs.laws.surrendered_stays.Goals as goal

pub returns : goal.returns
returns c = record { performs = surrendered_stays; calls = surrendered_for_good }
