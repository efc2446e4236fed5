use Rattle.std.proofs.Common.{◌+◌, ◌%◌, ◌^◌, ◌++◌, length, ap, ◌∙◌, arith}
use Rattle.sha256.specs.Digest.{absorbed, digest, padding, sha_256_from}
use Rattle.sha256.proofs.Ending.{padding_same}
use Rattle.sha256.proofs.padding.finish_from.Goals as goal

pub returns : goal.returns
unfolding sha_256_from
returns c =
    let total = c.args.before + length c.args.message.now in
    c.finish.ensures
    ∙ ap digest (c.absorb-tail.ensures.after (padding (total % 2 ^ 64)))
    ∙ ap
    (λ p. digest (absorbed c.args.words.now (c.args.message.now ++ p)))
    (padding_same (total % 2 ^ 64) total (omega arith))
