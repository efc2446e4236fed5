use Rattle.std.proofs.Common.{◌≡◌, vec_items, vec_len}
use Rattle.pool.specs.Delivering.{FreshBelow}
use Rattle.pool.specs.Views.{views}
use Rattle.pool.proofs.pool.Pool.new.Given as goal

abbrev pub invariant-loop-number : goal.invariant-loop-number
invariant-loop-number g l =
    (vec_len l.sites ≡ l.number)
    × FreshBelow l.number l.fit (g.N.Notary.means l.notary) (g.O.Object.holds l.object)
    (views g.O.Object.rules g.N.Notary.means g.O.Object.holds (vec_items l.sites))
