use Rattle.std.proofs.Common.{◌≡◌, ◌-◌}
use Rattle.message.proofs.certificate.first_unlike.Given as goal
use Rattle.message.specs.Checks.{unlike, first_unlike}
use Rattle.message.specs.Records.{records, statement_at, lowest}

-- What is left from k on gives what the whole part gives.
abbrev pub invariant-loop-k : goal.invariant-loop-k
invariant-loop-k l =
    lowest (λ k. unlike l.agreement (statement_at l.part.bytes.now 0) (statement_at l.part.bytes.now k)) l.k (records l.part.bytes.now - l.k) ≡ first_unlike l.agreement l.part.bytes.now
