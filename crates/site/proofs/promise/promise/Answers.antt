use Rattle.site.proofs.Promised.{promise_kept}
use Rattle.site.proofs.promise.promise.Goals as goal

pub returns : goal.returns
returns g c = promise_kept g.O.Object.rules
