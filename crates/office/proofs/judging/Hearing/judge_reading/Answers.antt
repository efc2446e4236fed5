use Rattle.std.proofs.Common.{sym, subst, rules}
use Rattle.finder.specs.Members.{members}
use Rattle.record.specs.declared.kind.Kind.TheVariants.{ReadAnswer}
use Rattle.record.specs.declared.fields.Statement.{Statement}
use Rattle.std.specs.List.{AllByRecursion as All}
use Rattle.office.proofs.Members.{gave_lead}
use Rattle.office.specs.Laws.{Gave}
use Rattle.office.proofs.judging.Hearing.judge_reading.Goals as goal

pub returns-in-Some : goal.returns-in-Some
returns-in-Some c =
    let slots = c.args.self.now.slots.now in
    let sites = members c.in-Some.group in
    let best = c.in-Some.ensures.best in
    record {
      value = search rules;
      right = (sites, best.0, subst (λ (s : Statement). All (Gave slots s.answer) sites) (sym c.lead.ensures) (gave_lead ReadAnswer c.args.self.now.q slots sites best.0));
    }
