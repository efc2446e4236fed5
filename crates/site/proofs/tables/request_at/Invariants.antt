use Rattle.std.proofs.Common.{◌≡◌, ◌+◌, ◌≤◌, drop}
use Rattle.site.specs.Settling.{request_at}
use Rattle.site.proofs.tables.request_at.Given as goal

abbrev pub invariant-loop-request : goal.invariant-loop-request
invariant-loop-request l =
    (request_at (drop l.request-index l.requests) l.round l.at l.place ≡ request_at l.requests l.round l.first l.place) × (l.at ≤ l.first + l.request-index)
