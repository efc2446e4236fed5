use Rattle.std.proofs.Common.{◌≡◌, ◌<◌, length, get_or, ap, ◌∙◌, arith, rules}
use lib.Bits.{bit_xor}
use Rattle.std.proofs.lemmas.List.Edits.{map_over_more}
use Rattle.std.proofs.lemmas.List.{get_or_default}
use Rattle.sha256.specs.Compression.{compressed}
use Rattle.sha256.specs.Digest.{initial}
use Rattle.sha256.proofs.Keyed.{masked_all}
use Rattle.sha256.proofs.mac.started.Goals as goal

pub loop-byte-preserved : goal.loop-byte-preserved
loop-byte-preserved c =
    let items = c.loop-byte.byte-items in
    let i = c.loop-byte.byte-index in
    let within : i < length c.args.block.now = omega arith in
    let long : length items ≡ 64 = search rules in
    map_over_more
    (λ b. bit_xor b c.args.mask)
    c.args.block.now
    items
    i
    (get_or items i 0)
    within
    c.loop-byte.invariant
    (get_or_default items i 0 (get_or items i 0) (omega arith))

pub returns : goal.returns
returns c =
    c.compress.ensures
    ∙ ap
    (compressed initial)
    (masked_all
    c.loop-byte.byte-items
    c.args.block.now
    c.args.mask
    c.loop-byte.byte-index
    (omega arith)
    c.told-block
    c.loop-byte.invariant)
