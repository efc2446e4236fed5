use Rattle.std.proofs.Common.{sym, ap, ◌∙◌}
use Rattle.office.specs.declared.figures.Figures.{Figures}
use Rattle.office_vectors.proofs.Pairing.{begin_refused, begun_alone, still_paired}
use Rattle.office_vectors.proofs.seat.Seat.begin.Goals as goal

pub invariant_of-self : goal.invariant_of-self
invariant_of-self c =
    let office = c.args.self.now.office in
    let after = c.begin.new.self in
    let stays = begin_refused office.figures.client office.desk after.desk c.args.operation.now c.args.output.now c.args.board.now
    c.begin.new.output c.begin.new.board c.begin.result c.in_err-ticket.field-0.0 c.begin.ensures.leaves c.in_err-ticket.was in record {
      known = c.args.self.now.known ∙ sym (ap (λ (f : Figures). f.client) c.begin.ensures.same.1);
      paired = still_paired office.figures.client after.figures.client office.desk.write after.desk.write c.args.self.now.ticket
          (ap (λ (f : Figures). f.client) c.begin.ensures.same.1) stays c.args.self.now.paired;
    }

pub drop-before-requires : goal.drop-before-requires
drop-before-requires c =
    let office = c.args.self.now.office in
    absurd (
    begun_alone office.figures.client office.desk c.begin.new.self.desk c.args.operation.now c.args.output.now c.args.board.now
    c.begin.new.output c.begin.new.board c.begin.result c.in_ok-ticket.field-0 c.args.self.now.ticket c.in-Some._before
    c.begin.ensures.leaves c.in_ok-ticket.was c.args.self.now.paired (sym c.replace.ensures.value ∙ c.in-Some.is)
    )
