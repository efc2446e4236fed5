-- The bytes behind the blocks taken in so far are still to come.
use Rattle.std.proofs.Common.{◌≡◌, ℕ, ◌*◌, List, ◌++◌, drop}
use Rattle.sha256.specs.Digest.{absorbed}
use Rattle.sha256.proofs.blocks.absorb.Given as goal

abbrev pub invariant-loop-block : goal.invariant-loop-block
invariant-loop-block l =
    (more : List ℕ) → absorbed l.words (drop (l.block-index * 64) l.bytes ++ more) ≡ absorbed l.initial.words (l.bytes ++ more)
