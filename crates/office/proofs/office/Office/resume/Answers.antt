use Rattle.office.proofs.Keeping.{clear_sound, sound_as}
use Rattle.office.specs.Calls.{clear_desk}
use Rattle.office.proofs.office.Office.resume.Goals as goal

pub invariant_of-result : goal.invariant_of-result
invariant_of-result g c =
    let f = c.fitted.result.f in
    let client = c.fitted.result.client in
    let accepts = g.N.Notary.means c.args.notary in
    record {
      sound = sound_as f client accepts (clear_desk c.args.last) c.after.result c.after.ensures (clear_sound f client accepts c.args.last);
    }
