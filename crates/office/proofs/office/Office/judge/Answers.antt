use Rattle.message.specs.Forms.{quorum}
use Rattle.record.specs.declared.kind.Kind.TheVariants.{Answer}
use Rattle.office.proofs.Deciding.{decided}
use Rattle.office.proofs.Exactly.{exact}
use Rattle.office.proofs.Worthy.{few_faulty, made_so, judged_worth}
use Rattle.office.specs.Calls.{judge_write}
use Rattle.office.specs.Laws.{Warranted, Exact, OneAnswer}
use Rattle.office.specs.declared.verdict.Judged.{Judged}
use Rattle.office.proofs.office.Office.judge.Goals as goal

pub returns : goal.returns
returns g c =
    let office = c.args.self.now in
    let f = office.figures.f in
    let client = office.figures.client in
    let desk = office.desk in
    let slots = desk.replies.at in
    let known = c.verdict.ensures in
    let found = (judge_write f client desk).sites in
    record {
      leaves = known.leaves;
      exact = made_so (λ (j : Judged). Warranted (quorum f) client desk.write slots j.verdict found) (λ (j : Judged). Exact Answer (quorum f) slots j.verdict)
          (λ j right. exact (quorum f) slots client desk.write j.verdict found right) c.verdict.result known.right;
      only = made_so (λ (j : Judged). Warranted (quorum f) client desk.write slots j.verdict found) (λ (j : Judged). OneAnswer Answer (quorum f) slots j.verdict)
          (λ j right. decided f client (g.N.Notary.means office.notary) desk office.sound j.verdict (exact (quorum f) slots client desk.write j.verdict found right)) c.verdict.result known.right;
      worth = judged_worth f client (g.N.Notary.means office.notary) desk c.args.output.now c.verdict.new.output c.args.board.now c.verdict.new.board c.verdict.result
          (few_faulty f client office.figures.fit) office.sound known.leaves known.right;
    }
