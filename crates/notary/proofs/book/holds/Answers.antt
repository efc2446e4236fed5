use Rattle.std.proofs.Common.{rules}
use Rattle.notary.proofs.Chunks.{some_chunk, every_chunk}
use Rattle.notary.proofs.Entries.{in_book_told}
use Rattle.notary.proofs.book.holds.Goals as goal

pub returns : goal.returns
returns c =
    let book = c.args.book.now in
    let r = c.any.ensures.runs in
    let chunks = c.chunks_exact.ensures.runs r.0 r.0.seen (search rules) in
    in_book_told
    c.any.result
    book
    c.args.bytes.now
    (λ yes.
    let any = rw yes at r.2 in
    let found = some_chunk r.0 _ _ book (search rules) (search rules) chunks _ (any (λ a r f' call. search rules)) in
    (found.0, found.1, search rules))
    (λ no k below same.
    let all = rw no at r.2 in
    let found = every_chunk r.0 _ _ book (search rules) (search rules) chunks _ all.0 (all.1 (λ a r f' call. search rules)) k below in
    search rules)
