use Rattle.message.specs.Forms.{quorum}
use Rattle.record.specs.declared.kind.Kind.TheVariants.{ReadAnswer}
use Rattle.office.proofs.Deciding.{decided_reading}
use Rattle.office.proofs.Exactly.{exact_reading}
use Rattle.office.proofs.Worthy.{few_faulty, made_so, reading_worth}
use Rattle.office.specs.Laws.{ReadingWarranted, Exact, OneAnswer}
use Rattle.office.specs.Sending.{ReadingWorth}
use Rattle.office.specs.declared.verdict.Judged.{Judged}
use Rattle.office.proofs.office.Office.judge_reading.Goals as goal

pub returns : goal.returns
returns g c =
    let office = c.args.self.now in
    let f = office.figures.f in
    let client = office.figures.client in
    let accepts = g.N.Notary.means office.notary in
    let desk = office.desk in
    let slots = desk.readings.at in
    let known = c.reading_verdict.ensures in
    record {
      leaves = known.leaves;
      exact = made_so (λ (j : Judged). ReadingWarranted (quorum f) slots j.verdict) (λ (j : Judged). Exact ReadAnswer (quorum f) slots j.verdict)
          (λ j right. exact_reading (quorum f) slots j.verdict right) c.reading_verdict.result known.right;
      only = made_so (λ (j : Judged). ReadingWarranted (quorum f) slots j.verdict) (λ (j : Judged). OneAnswer ReadAnswer (quorum f) slots j.verdict)
          (λ j right. decided_reading f client accepts desk office.sound j.verdict (exact_reading (quorum f) slots j.verdict right)) c.reading_verdict.result known.right;
      worth = made_so (λ (j : Judged). ReadingWarranted (quorum f) slots j.verdict) (λ (j : Judged). ReadingWorth f client accepts desk j.verdict)
          (λ j right. reading_worth f client accepts desk (few_faulty f client office.figures.fit) office.sound j.verdict right) c.reading_verdict.result known.right;
    }
