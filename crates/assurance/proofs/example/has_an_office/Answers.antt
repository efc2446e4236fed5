use Rattle.assurance.proofs.OfficeExample.{has_an_office}
use Rattle.assurance.proofs.example.has_an_office.Goals as goal

pub returns : goal.returns
returns c = has_an_office
