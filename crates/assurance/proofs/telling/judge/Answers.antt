use Rattle.assurance.proofs.Joining.{judge_in_book}
use Rattle.assurance.proofs.telling.judge.Goals as goal

pub returns-clause-in_book : goal.returns-clause-in_book
returns-clause-in_book g c =
    let office = c.args.office.now in
    judge_in_book g.O.Object.rules office.figures.f office.figures.client (g.N.Notary.means office.notary) office.desk c.judge.result c.judge.ensures.exact office.sound
