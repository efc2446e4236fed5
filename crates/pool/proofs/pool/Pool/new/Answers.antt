use Rattle.std.proofs.Common.{◌≡◌, ◌+◌, ◌*◌, length, ap, ◌∙◌, arith}
use Rattle.pool.proofs.Beginning.{site_more, pool_begins}
use Rattle.pool.proofs.pool.Pool.new.Goals as goal

pub returns : goal.returns
returns g c =
    let whole : c.loop-number.number ≡ 3 * c.fitted-fit.result.f + 1 = omega arith in
    let long : length c.loop-number.sites.items ≡ c.loop-number.number = omega (arith, c.loop-number.sites.ok.0) in
    let done = pool_begins g.O.Object.rules g.N.Notary.means g.O.Object.holds c.args.notary c.args.object
    c.fitted-fit.result.f _ c.loop-number.number c.loop-number.sites.items c.new-2.result.items c.fitted-fit.ensures.f whole long c.loop-number.invariant.1 c.new-2.ensures.items in
    record { fresh = done.0; lives = done.1 }

pub loop-number-preserved : goal.loop-number-preserved
loop-number-preserved g c =
    let long : length c.loop-number.sites.items ≡ c.loop-number.number = omega (arith, c.loop-number.sites.ok.0) in
    let made = c.new.ensures in (
      c.in_ok-push.ensures.len ∙ ap (λ k. k + 1) c.loop-number.invariant.0,
      site_more g.O.Object.rules g.N.Notary.means g.O.Object.holds c.args.notary c.args.object
          c.fitted-fit.result.f c.fitted-fit.result.number c.loop-number.number c.loop-number.sites.items c.push.new.self.items c.new.result
          c.fitted-fit.result.fit c.loop-number-test.true long c.loop-number.invariant.1
          made.figures.0 made.figures.1 made.fresh made.kept.0 made.kept.1 c.in_ok-push.ensures.items,
    )
