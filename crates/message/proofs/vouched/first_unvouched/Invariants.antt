use Rattle.std.proofs.Common.{◌≡◌, ◌-◌, not}
use Rattle.message.proofs.vouched.first_unvouched.Given as goal
use Rattle.message.specs.Checks.{first_unvouched}
use Rattle.message.specs.Records.{records, record_at, lowest}

-- What is left from k on gives what the whole part gives.
abbrev pub invariant-loop-k : goal.invariant-loop-k
invariant-loop-k g l =
    lowest (λ k. not (g.N.Notary.means l.notary (record_at l.part.bytes.now k))) l.k (records l.part.bytes.now - l.k)
    ≡ first_unvouched (g.N.Notary.means l.notary) l.part.bytes.now
