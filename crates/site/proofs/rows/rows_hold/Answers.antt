use Rattle.site.proofs.RowsHold.{accepted_by_one, rows_hold}
use Rattle.site.proofs.rows.rows_hold.Goals as goal

pub returns : goal.returns
returns c = record { together = rows_hold; met = accepted_by_one }
