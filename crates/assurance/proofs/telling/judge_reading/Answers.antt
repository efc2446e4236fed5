use Rattle.assurance.proofs.Joining.{judge_reading_in_book}
use Rattle.assurance.proofs.telling.judge_reading.Goals as goal

pub returns-clause-in_book : goal.returns-clause-in_book
returns-clause-in_book g c =
    let office = c.args.office.now in
    judge_reading_in_book g.O.Object.rules office.figures.f office.figures.client (g.N.Notary.means office.notary) office.desk c.judge_reading.result c.judge_reading.ensures.exact office.sound
