use Rattle.std.proofs.Common.{◌≡◌, ◌+◌, ◌%◌, ◌^◌, ◌++◌, length, take, ap, ◌∙◌, arith}
use Rattle.sha256.specs.Digest.{absorbed}
use Rattle.sha256.specs.InParts.{digest_with}
use Rattle.sha256.proofs.TakingIn.{moved_on, KeptBack, block_taken, left_behind}
use Rattle.sha256.proofs.hasher.Hasher.update.Goals as goal

pub returns-then-part-held : goal.returns-then-part-held
unfolding digest_with
returns-then-part-held c =
    let h = c.args.self.now in
    let part = c.args.part.now in
    let tail = c.put.new.block in
    let long : length h.tail ≡ 64 = omega arith in
    moved_on
    h.words
    h.words
    (take (h.total % 64) h.tail)
    (take ((h.total + length part) % 2 ^ 64 % 64) tail)
    part
    h.total
    (KeptBack h.words h.tail tail part h.total long c.if-part-held.true c.put.ensures)

pub returns : goal.returns
unfolding digest_with
returns c =
    let h = c.args.self.now in
    let part = c.args.part.now in
    let head = c.split_at.result.0.now in
    let others = c.split_at.result.1.now in
    let rest = c.absorb-rest.result.now in
    let block = c.put-2.new.block in
    let tail = c.put-3.new.block in
    let words = c.absorb-rest.new.words in
    let long : length h.tail ≡ 64 = omega arith in
    moved_on
    h.words
    words
    (take (h.total % 64) h.tail)
    (take ((h.total + length part) % 2 ^ 64 % 64) tail)
    part
    h.total
    (λ z.
    ap
    (λ t. absorbed words (t ++ z))
    (left_behind
    block
    tail
    rest
    part
    others
    h.total
    c.split_at.ensures.back_len
    c.absorb-rest.ensures.rest
    c.put-3.ensures)
    ∙ c.absorb-rest.ensures.after z
    ∙ ap (λ ws. absorbed ws (others ++ z)) c.compress.ensures
    ∙ block_taken
    h.words
    h.tail
    block
    part
    head
    others
    h.total
    long
    c.split_at.ensures.front_len
    c.split_at.ensures.by_index.0
    c.put-2.ensures
    z)
