use Rattle.std.proofs.Common.{Err, ap, ◌∙◌}
use Rattle.std.proofs.lemmas.Result.{err_from_is_err_and}
use Rattle.site.proofs.Refusing.{refused_leaves}
use Rattle.site.proofs.replica.Replica.answer.Goals as goal

pub returns-in_err-reply : goal.returns-in_err-reply
returns-in_err-reply g c =
    let p = err_from_is_err_and c.from_residual.result c.from_residual.ensures.1 in
    let figures = c.args.figures.now in
    refused_leaves g.O.Object.rules figures.f figures.number (g.N.Notary.means c.args.notary.now) c.args.self.now.state
    (g.O.Object.holds c.args.self.now.object) c.args.message.now c.args.output.now c.args.board.now
    c.accept.new.self.state (g.O.Object.holds c.accept.new.self.object) c.accept.new.board
    c.in_err-reply.field-0.0 c.from_residual.result
    c.in_err-reply.ensures.does c.in_err-reply.ensures.board (p.1 ∙ ap Err p.2)
