use Rattle.std.proofs.Common.{◌≡◌, ◌-◌, ◌%◌, ◌++◌, take, ap, ◌∙◌, arith}
use Rattle.sha256.specs.Digest.{absorbed, digest, padding}
use Rattle.sha256.specs.InParts.{digest_with}
use Rattle.sha256.proofs.TakingIn.{nothing_more}
use Rattle.sha256.proofs.hasher.Hasher.finish.Goals as goal

pub returns : goal.returns
unfolding digest_with
returns c =
    let h = c.args.self.now in
    let from_start : h.total % 64 - 0 ≡ h.total % 64 = omega arith in
    c.finish.ensures
    ∙ ap (λ n. digest (absorbed h.words (take n h.tail ++ padding h.total))) from_start
    ∙ nothing_more h.words (take (h.total % 64) h.tail) h.total
