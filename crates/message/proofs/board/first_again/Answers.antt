use Rattle.std.proofs.Common.{◌≡◌, ℕ, ◌<◌, ◌≤◌, Bool, List, length, replicate, sym, ap, ◌∙◌, arith}
use Rattle.std.proofs.lemmas.List.{length-set}
use Rattle.record.specs.declared.fields.Statement.{Statement}
use Rattle.message.proofs.Lowest.{at_start, passed_over, stopped_at, at_end}
use Rattle.message.proofs.Marking.{marked_none, marked_more, mark_zero, mark_set}
use Rattle.message.specs.Checks.{signed_among}
use Rattle.message.specs.Records.{records, statement_at}
use Rattle.message.proofs.board.first_again.Goals as goal

abbrev test : List ℕ → ℕ → Bool
test part k = signed_among (statement_at part k).signer part k

signer-is : (part : List ℕ) (k x : ℕ) (s : Statement) → s ≡ statement_at part k → x ≡ s.signer → x ≡ (statement_at part k).signer
signer-is part k x s es ex = cc

pub loop-k-init : goal.loop-k-init
loop-k-init c =
    let part = c.args.group.now.part.bytes.now in
    let clear : c.clear.new.board ≡ replicate 16 0 = c.clear.ensures ∙ ap (λ n. replicate n 0) c.told-board in
    (at_start (test part) (records part), ap length clear, marked_none part c.clear.new.board clear)

pub loop-k-preserved : goal.loop-k-preserved
loop-k-preserved c =
    let part = c.args.group.now.part.bytes.now in
    let less : c.loop-k.k < records part = omega arith in
    let x = c.from-signer.result in
    let is = signer-is part c.loop-k.k x _ c.statement_at.ensures c.from-signer.ensures in
    let small : x < 16 = omega (arith, c.args.group.now.signers c.loop-k.k less, is) in
    let unmarked = mark_zero _ _ (c.loop-k.invariant.2 x small) c.if-board-signer-ne0.false in (
      passed_over (test part) c.loop-k.k (records part) less (ap (λ s. signed_among s part c.loop-k.k) (sym is) ∙ unmarked) c.loop-k.invariant.0,
      length-set c.loop-k.board x 1 ∙ c.loop-k.invariant.1,
      marked_more part c.loop-k.board c.loop-k.k x c.loop-k.invariant.1 small is c.loop-k.invariant.2,
    )

pub returns-then-board-signer-ne0 : goal.returns-then-board-signer-ne0
returns-then-board-signer-ne0 c =
    let part = c.args.group.now.part.bytes.now in
    let less : c.loop-k.k < records part = omega arith in
    let x = c.from-signer.result in
    let is = signer-is part c.loop-k.k x _ c.statement_at.ensures c.from-signer.ensures in
    let small : x < 16 = omega (arith, c.args.group.now.signers c.loop-k.k less, is) in
    let marked = mark_set _ _ (c.loop-k.invariant.2 x small) c.if-board-signer-ne0.true in
    record {
      value = stopped_at (test part) c.loop-k.k (records part) less (ap (λ s. signed_among s part c.loop-k.k) (sym is) ∙ marked) c.loop-k.invariant.0;
      within = less;
    }

pub returns : goal.returns
returns c =
    let part = c.args.group.now.part.bytes.now in
    let more : records part ≤ c.loop-k.k = omega arith in
    record { value = at_end (test part) c.loop-k.k (records part) more c.loop-k.invariant.0; within = tt }
