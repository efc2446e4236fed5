use Rattle.std.proofs.Common.{◌≡◌, ℕ, ◌-◌, ◌<◌, cond, length, get_or}
use Rattle.message.proofs.board.first_again.Given as goal
use Rattle.message.specs.Checks.{first_again, signed_among}
use Rattle.message.specs.Records.{records, statement_at, lowest}

-- What is left from k on gives what the whole part gives; the board has 1 for the signers of the first k records, and 0 else.
abbrev pub invariant-loop-k : goal.invariant-loop-k
invariant-loop-k l =
    (lowest (λ k. signed_among (statement_at l.part.bytes.now k).signer l.part.bytes.now k) l.k (records l.part.bytes.now - l.k)
    ≡ first_again l.part.bytes.now)
    × (length l.board ≡ 16)
    × ((s : ℕ) → s < 16 → get_or l.board s 0 ≡ cond (signed_among s l.part.bytes.now l.k) 1 0)
