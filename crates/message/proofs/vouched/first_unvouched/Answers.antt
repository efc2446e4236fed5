use Rattle.std.proofs.Common.{◌≡◌, ℕ, ◌<◌, ◌≤◌, Bool, not, List, ap, ◌∙◌, arith}
use Rattle.message.proofs.Lowest.{at_start, passed_over, stopped_at, at_end}
use Rattle.message.specs.Records.{records, record_at}
use Rattle.message.proofs.vouched.first_unvouched.Goals as goal

abbrev test : (List ℕ → Bool) → List ℕ → ℕ → Bool
test accepts part k = not (accepts (record_at part k))

-- what the notary answered is the test at k
tested : (accepts : List ℕ → Bool) (part here : List ℕ) (k : ℕ) {b : Bool} → here ≡ record_at part k → b ≡ accepts here → test accepts part k ≡ not b
tested accepts part here k ehere eb = cc

pub loop-k-init : goal.loop-k-init
loop-k-init g c = at_start _ _

pub loop-k-preserved : goal.loop-k-preserved
loop-k-preserved g c =
    let part = c.args.part.now.bytes.now in
    let accepts = g.N.Notary.means c.args.notary.now in
    let less : c.loop-k.k < records part = omega arith in
    passed_over (test accepts part) c.loop-k.k (records part) less
    (tested accepts part _ c.loop-k.k c.record_at.ensures c.vouches.ensures ∙ ap not c.if-not-vouches.false)
    c.loop-k.invariant

pub returns-then-not-vouches : goal.returns-then-not-vouches
returns-then-not-vouches g c =
    let part = c.args.part.now.bytes.now in
    let accepts = g.N.Notary.means c.args.notary.now in
    let less : c.loop-k.k < records part = omega arith in
    record {
      value = stopped_at (test accepts part) c.loop-k.k (records part) less
          (tested accepts part _ c.loop-k.k c.record_at.ensures c.vouches.ensures ∙ ap not c.if-not-vouches.true)
          c.loop-k.invariant;
      within = less;
    }

pub returns : goal.returns
returns g c =
    let part = c.args.part.now.bytes.now in
    let more : records part ≤ c.loop-k.k = omega arith in
    record { value = at_end (test (g.N.Notary.means c.args.notary.now) part) c.loop-k.k (records part) more c.loop-k.invariant; within = tt }
