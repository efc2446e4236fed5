use Rattle.std.proofs.Common.{◌/◌, ◌<◌, length, get_or, [], ap, ◌∙◌, arith}
use Rattle.sha256.proofs.Absorbing.{absorbed_turn}
use Rattle.sha256.proofs.Chunks.{chunk_at}
use Rattle.sha256.proofs.blocks.absorb.Goals as goal

pub loop-block-preserved : goal.loop-block-preserved
loop-block-preserved c =
    let bytes = c.args.bytes.now in
    let i = c.loop-block.block-index in
    let within : i < length bytes / 64 = omega (arith, c.as_chunks.ensures.front_len) in
    absorbed_turn
    c.loop-block.words
    c.compress.new.words
    (get_or c.as_chunks.result.0.now i [])
    c.args.words.now
    bytes
    i
    within
    (ap (λ blocks. get_or blocks i []) c.as_chunks.ensures.front ∙ chunk_at 64 (length bytes / 64) bytes i within)
    c.compress.ensures
    c.loop-block.invariant
