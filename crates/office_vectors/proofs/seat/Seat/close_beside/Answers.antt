use Rattle.std.proofs.Common.{sym, ap, ◌∙◌}
use Rattle.office.specs.declared.figures.Figures.{Figures}
use Rattle.office_vectors.proofs.Pairing.{held_beside}
use Rattle.office_vectors.proofs.seat.Seat.close_beside.Goals as goal

pub invariant_of-other : goal.invariant_of-other
invariant_of-other c =
    let mine = c.args.self.now.office in
    let theirs = c.args.other.now.office in record {
      known = c.args.other.now.known ∙ sym (ap (λ (f : Figures). f.client) c.close.ensures.same.1);
      paired = held_beside mine.figures.client theirs.figures.client c.close.new.self.figures.client mine.desk.write theirs.desk c.close.new.self.desk c.args.self.now.ticket c.take.result
          c.in-Some.ticket c.args.other.now.ticket _ c.args.self.now.paired c.take.ensures.value c.in-Some.is
          (sym c.is_like.ensures ∙ c.if-is_like.false) (ap (λ (f : Figures). f.client) c.close.ensures.same.1) c.close.ensures.desk
          c.args.other.now.paired;
    }
