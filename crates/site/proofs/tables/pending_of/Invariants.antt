use Rattle.std.proofs.Common.{◌≡◌, ℕ, ◌<◌, length, get_or, None}
use Rattle.site.specs.Settling.{pending}
use Rattle.site.proofs.tables.pending_of.Given as goal

abbrev pub invariant-loop-i : goal.invariant-loop-i
invariant-loop-i l = (length l.out ≡ 16) × ((k : ℕ) → k < l.i → get_or l.out k None ≡ pending (get_or l.requests k None) (get_or l.done k None))
