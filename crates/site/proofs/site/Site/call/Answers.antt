use Rattle.site.proofs.Promised.{in_every_life}
use Rattle.site.proofs.site.Site.call.Goals as goal

pub returns-clause-lives : goal.returns-clause-lives
returns-clause-lives g c =
    let site = c.args.self.now in
    in_every_life g.O.Object.rules site.figures.f site.figures.number (g.N.Notary.means site.notary) site.replica.state
    (g.O.Object.holds site.replica.object) c.args.message.now c.args.output.now c.args.board.now
    c.answer.new.self.state (g.O.Object.holds c.answer.new.self.object) c.answer.new.output c.answer.new.board c.answer.result
    c.answer.ensures
