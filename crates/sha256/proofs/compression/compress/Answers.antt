use Rattle.std.proofs.Common.{◌≡◌, ◌+◌, ◌*◌, ◌∙◌, arith}
use Rattle.sha256.specs.Compression.{rounds}
use Rattle.sha256.proofs.Rounds.{rounds_none, rounds_more, rounds_all}
use Rattle.sha256.proofs.compression.compress.Goals as goal

pub loop-i-init : goal.loop-i-init
loop-i-init c = rounds_none c.expand-w.result c.from_words-working.result

pub loop-i-preserved : goal.loop-i-preserved
loop-i-preserved c =
    let ws = c.expand-w.result in
    let from = c.from_words-working.result in
    let t = 8 * c.loop-i.i in
    let next : 8 * (c.loop-i.i + 1) ≡ t + 7 + 1 = omega arith in
    let h1 : c.round.result ≡ rounds (t + 1) ws from
    = rounds_more ws from c.loop-i.working c.round.result (t) (t + 1) (omega arith) c.loop-i.invariant c.round.ensures
    in
    let h2 : c.round-in-loop-i.result ≡ rounds (t + 2) ws from
    = rounds_more ws from c.round.result c.round-in-loop-i.result (t + 1) (t + 2) (omega arith) h1 c.round-in-loop-i.ensures
    in
    let h3 : c.round-in-loop-i-2.result ≡ rounds (t + 3) ws from
    = rounds_more ws from c.round-in-loop-i.result c.round-in-loop-i-2.result (t + 2) (t + 3) (omega arith) h2 c.round-in-loop-i-2.ensures
    in
    let h4 : c.round-in-loop-i-3.result ≡ rounds (t + 4) ws from
    = rounds_more ws from c.round-in-loop-i-2.result c.round-in-loop-i-3.result (t + 3) (t + 4) (omega arith) h3 c.round-in-loop-i-3.ensures
    in
    let h5 : c.round-in-loop-i-4.result ≡ rounds (t + 5) ws from
    = rounds_more ws from c.round-in-loop-i-3.result c.round-in-loop-i-4.result (t + 4) (t + 5) (omega arith) h4 c.round-in-loop-i-4.ensures
    in
    let h6 : c.round-in-loop-i-5.result ≡ rounds (t + 6) ws from
    = rounds_more ws from c.round-in-loop-i-4.result c.round-in-loop-i-5.result (t + 5) (t + 6) (omega arith) h5 c.round-in-loop-i-5.ensures
    in
    let h7 : c.round-in-loop-i-6.result ≡ rounds (t + 7) ws from
    = rounds_more ws from c.round-in-loop-i-5.result c.round-in-loop-i-6.result (t + 6) (t + 7) (omega arith) h6 c.round-in-loop-i-6.ensures
    in
    rounds_more ws from c.round-in-loop-i-6.result c.round-working.result (t + 7) (8 * (c.loop-i.i + 1)) next h7 c.round-working.ensures

pub returns : goal.returns
returns c =
    c.add_to.ensures
    ∙ rounds_all
    c.args.words.now
    c.args.block.now
    c.expand-w.result
    c.from_words-working.result
    c.loop-i.working
    (8 * c.loop-i.i)
    (omega arith)
    c.expand-w.ensures
    c.from_words-working.ensures
    c.loop-i.invariant
