use Rattle.std.proofs.Common.{refl, ap, ◌∙◌}
use Rattle.office.proofs.Keeping.{begun_sound, sound_as}
use Rattle.office.specs.Calls.{if_begun, number_begun}
use Rattle.office.proofs.office.Office.begin.Goals as goal

pub invariant_of-self : goal.invariant_of-self
invariant_of-self g c =
    let office = c.args.self.now in
    let desk = office.desk in
    let operation = c.args.operation.now in
    let f = office.figures.f in
    let client = office.figures.client in
    let accepts = g.N.Notary.means office.notary in
    record {
      sound =
          sound_as f client accepts (if_begun desk operation (number_begun desk desk.write)) c.open.new.self
          (c.open.ensures.desk ∙ ap (if_begun desk operation) c.open.ensures.number)
          (begun_sound f client accepts desk operation desk.write refl office.sound);
    }
