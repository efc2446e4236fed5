use Rattle.office.proofs.Keeping.{ended_sound, sound_as}
use Rattle.office.specs.Calls.{without_write}
use Rattle.office.proofs.office.Office.give_up.Goals as goal

pub invariant_of-self : goal.invariant_of-self
invariant_of-self g c =
    let office = c.args.self.now in
    let f = office.figures.f in
    let client = office.figures.client in
    let accepts = g.N.Notary.means office.notary in
    record {
      sound = sound_as f client accepts (without_write office.desk) c.end.new.self c.end.ensures (ended_sound f client accepts office.desk office.sound);
    }
