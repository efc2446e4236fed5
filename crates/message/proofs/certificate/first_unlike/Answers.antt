use Rattle.std.proofs.Common.{◌≡◌, ℕ, ◌<◌, ◌≤◌, Bool, List, ◌∙◌, arith}
use Rattle.std.proofs.lemmas.Bool.{cond-true, lt-ltb}
use Rattle.record.specs.declared.fields.Statement.{Statement}
use Rattle.message.proofs.Lowest.{at_start, passed_over, stopped_at, at_end}
use Rattle.message.specs.Checks.{unlike}
use Rattle.message.specs.Records.{records, statement_at, stated}
use Rattle.message.specs.declared.agreement.Agreement.{Agreement}
use Rattle.message.proofs.certificate.first_unlike.Goals as goal

abbrev test : Agreement → List ℕ → ℕ → Bool
test agreement part k = unlike agreement (statement_at part 0) (statement_at part k)

-- what the code has computed is the test at k
tested : (agreement : Agreement) (part : List ℕ) (k : ℕ) (first here : Statement) {b : Bool} → k < records part → first ≡ stated part 0 → here ≡ statement_at part k → b ≡ unlike agreement first here → test agreement part k ≡ b
tested agreement part k first here less efirst ehere eb =
    let e : stated part 0 ≡ statement_at part 0 = cond-true _ _ _ (lt-ltb 0 (records part) (omega arith)) in cc

pub loop-k-init : goal.loop-k-init
loop-k-init c = at_start _ _

pub loop-k-preserved : goal.loop-k-preserved
loop-k-preserved c =
    let part = c.args.part.now.bytes.now in
    let less : c.loop-k.k < records part = omega arith in
    passed_over (test c.args.agreement part) c.loop-k.k (records part) less
    (tested c.args.agreement part c.loop-k.k _ _ less c.statement-first.ensures c.statement_at.ensures c.broken.ensures ∙ c.if-broken.false)
    c.loop-k.invariant

pub returns-then-broken : goal.returns-then-broken
returns-then-broken c =
    let part = c.args.part.now.bytes.now in
    let less : c.loop-k.k < records part = omega arith in
    record {
      value = stopped_at (test c.args.agreement part) c.loop-k.k (records part) less
          (tested c.args.agreement part c.loop-k.k _ _ less c.statement-first.ensures c.statement_at.ensures c.broken.ensures ∙ c.if-broken.true)
          c.loop-k.invariant;
      within = less;
    }

pub returns : goal.returns
returns c =
    let part = c.args.part.now.bytes.now in
    let more : records part ≤ c.loop-k.k = omega arith in
    record { value = at_end (test c.args.agreement part) c.loop-k.k (records part) more c.loop-k.invariant; within = tt }
