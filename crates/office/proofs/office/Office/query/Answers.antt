use Rattle.office.proofs.Keeping.{question_sound, sound_as}
use Rattle.office.specs.Calls.{with_question}
use Rattle.office.proofs.office.Office.query.Goals as goal

pub invariant_of-self : goal.invariant_of-self
invariant_of-self g c =
    let office = c.args.self.now in
    let operation = c.args.operation.now in
    let nonce = c.args.nonce in
    let f = office.figures.f in
    let client = office.figures.client in
    let accepts = g.N.Notary.means office.notary in
    record {
      sound = sound_as f client accepts (with_question office.desk operation nonce) c.ask.new.self c.ask.ensures
          (question_sound f client accepts office.desk operation nonce office.sound);
    }
