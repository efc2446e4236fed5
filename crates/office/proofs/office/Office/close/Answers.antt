use Rattle.std.proofs.Common.{refl, rules}
use Rattle.office.proofs.Confirming.{write_confirmed}
use Rattle.office.proofs.Keeping.{ended_sound, sound_as}
use Rattle.office.specs.Calls.{without_write}
use Rattle.office.proofs.office.Office.close.Goals as goal

pub returns-in-Ok : goal.returns-in-Ok
returns-in-Ok g c =
    let office = c.args.self.now in
    let f = office.figures.f in
    let client = office.figures.client in
    let accepts = g.N.Notary.means office.notary in
    record {
      desk = search rules;
      result = search rules;
      confirmed = write_confirmed f client accepts office.desk office.sound c.in-Ok.answer c.in-Ok.ensures.right;
      back = tt;
      same = (refl, refl);
    }

pub invariant_of-self : goal.invariant_of-self
invariant_of-self g c =
    let office = c.args.self.now in
    let f = office.figures.f in
    let client = office.figures.client in
    let accepts = g.N.Notary.means office.notary in
    record {
      sound = sound_as f client accepts (without_write office.desk) c.end.new.self c.end.ensures (ended_sound f client accepts office.desk office.sound);
    }
