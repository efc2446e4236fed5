use Rattle.std.proofs.Common.{◌≡◌, ℕ, ◌-◌, ◌<◌, length, get_or, take}
use Rattle.sha256.specs.Compression.{extended, block_word, words_of}
use Rattle.sha256.proofs.compression.expand.Given as goal

abbrev pub invariant-loop-t : goal.invariant-loop-t
invariant-loop-t l = (length l.w ≡ 64) × ((k : ℕ) → k < l.t → get_or l.w k 0 ≡ block_word l.block k)

abbrev pub invariant-loop-t-2 : goal.invariant-loop-t-2
invariant-loop-t-2 l =
    (length l.w ≡ 64) × (take l.t l.w ≡ extended (l.t - 16) (words_of l.block))
