use Rattle.object.proofs.TitlesProofs.{only_its_holder, only_client_0}
use Rattle.object.proofs.laws.titles_move_by_right.Goals as goal

pub returns : goal.returns
returns c = record { held = only_its_holder; unissued = only_client_0 }
