use Rattle.std.proofs.Common.{ℕ, Result, sym, ap, ◌∙◌}
use Rattle.message.specs.declared.refusal.Refusal.{Refusal}
use Rattle.site.specs.Life.{put}
use Rattle.pool.proofs.Handing.{filled}
use Rattle.pool.proofs.pool.fill.Goals as goal

pub returns-in-Ok : goal.returns-in-Ok
returns-in-Ok c =
    let now = c.args.written.now in
    c.shrink_to_fit.ensures.items ∙ filled c.extend_from_slice.result c.in-Ok.n c.min-n.result c.args.output.now now.items c.extend_from_slice.new.self.items now.cap now.len
    c.requires.empty c.requires.none c.requires.room c.min-n.ensures c.extend_from_slice.ensures.items c.extend_from_slice.ensures.full
    ∙ ap (λ (r : Result ℕ Refusal). put r c.args.output.now) (sym c.in-Ok.is)
