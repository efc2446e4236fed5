use Rattle.std.proofs.Common.{◌≡◌, ◌/◌, ◌<◌, [], length, get_or, ap, ◌∙◌, arith}
use Rattle.sha256.specs.Compression.{words_of}
use Rattle.sha256.proofs.Schedule.{WordsMore, word_read, words_written, schedule_written, extended_more}
use Rattle.sha256.proofs.Chunks.{chunk_at}
use Rattle.sha256.proofs.compression.expand.Goals as goal

pub loop-t-preserved : goal.loop-t-preserved
loop-t-preserved c =
    let block = c.args.block.now in
    let t = c.loop-t.t in
    let within : t < length block / 4 = omega (arith, c.as_chunks.ensures.front_len) in
    let word = get_or c.as_chunks.result.0.now t [] in
    WordsMore
    c.loop-t.w
    block
    t
    c.from_be_bytes.result
    (omega arith)
    (word_read
    block
    word
    t
    c.from_be_bytes.result
    (ap (λ words. get_or words t []) c.as_chunks.ensures.front ∙ chunk_at 4 (length block / 4) block t within)
    c.from_be_bytes.ensures)
    c.loop-t.invariant

pub loop-t-2-init : goal.loop-t-2-init
loop-t-2-init c = (
  c.loop-t.invariant.0,
  words_written
      c.loop-t.w
      c.args.block.now
      c.loop-t.invariant.0
      (λ k h. c.loop-t.invariant.1 k (omega arith)),
)

pub loop-t-2-preserved : goal.loop-t-2-preserved
loop-t-2-preserved c =
    simp
    c.next_word.ensures
    (extended_more
    c.loop-t-2.w
    (words_of c.args.block.now)
    c.loop-t-2.t
    c.loop-t-2.auto.t
    c.loop-t-2-test.true
    c.loop-t-2.invariant)

pub returns : goal.returns
returns c =
    let e : c.loop-t-2.t ≡ 64 = omega arith in
    schedule_written
    c.loop-t-2.w
    c.args.block.now
    c.loop-t-2.invariant.0
    (rw e at c.loop-t-2.invariant.1)
