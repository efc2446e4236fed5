use Rattle.std.proofs.Common.{length, Err, sym, ap, ◌∙◌}
use Rattle.message.specs.Checks.{buffers_fit}
use Rattle.record.specs.declared.fields.Record.{Record}
use Rattle.std.proofs.lemmas.Result.{err_from_is_err_and}
use Rattle.office.proofs.Keeping.{taken_sound, short_sound, sound_as, typed_bytes}
use Rattle.office.proofs.Taken.{passed, refused, taken_in}
use Rattle.office.specs.Calls.{board_after, fits_first}
use Rattle.office.specs.Taking.{desk_or, done_or, filing, taken, vouched_reply, read_reply}
use Rattle.office.proofs.office.Office.take.Goals as goal

pub returns-in_err-accept-clause-leaves : goal.returns-in_err-accept-clause-leaves
returns-in_err-accept-clause-leaves g c =
    let office = c.args.self.now in
    let f = office.figures.f in
    let client = office.figures.client in
    let accepts = g.N.Notary.means office.notary in
    let desk = office.desk in
    let output = c.args.output.now in
    let board = c.args.board.now in
    let fits = buffers_fit (length output) (length board) in
    let filed = passed fits (vouched_reply client accepts desk (read_reply f c.args.message.now)) client desk c.in_ok-bytes.bytes.now c.in_ok-bytes.ensures.value in
    let reply = c.read.ensures in
    let known = c.in_err-accept.ensures in
    let p = err_from_is_err_and c.from_residual-in_err-accept.result c.from_residual-in_err-accept.ensures.1 in
    refused fits (taken f client accepts desk c.args.message.now) desk c.accept.new.self output (board_after (length output) board) c.vouched.new.board
    c.in_err-accept.field-0.0 c.from_residual-in_err-accept.result
    (known.desk ∙ ap (λ (r : Record). desk_or desk (filing client desk r)) reply ∙ ap (desk_or desk) (sym filed))
    (known.result ∙ ap (λ (r : Record). done_or (filing client desk r)) reply ∙ ap done_or (sym filed))
    c.in_ok-bytes.ensures.board (p.1 ∙ ap Err p.2)

pub returns-clause-leaves : goal.returns-clause-leaves
returns-clause-leaves g c =
    let office = c.args.self.now in
    let f = office.figures.f in
    let client = office.figures.client in
    let accepts = g.N.Notary.means office.notary in
    let desk = office.desk in
    let output = c.args.output.now in
    let board = c.args.board.now in
    let fits = buffers_fit (length output) (length board) in
    let filed = passed fits (vouched_reply client accepts desk (read_reply f c.args.message.now)) client desk c.in_ok-bytes.bytes.now c.in_ok-bytes.ensures.value in
    let reply = c.read.ensures in
    let known = c.in_ok-accept.ensures in
    taken_in fits (taken f client accepts desk c.args.message.now) desk c.accept.new.self output (board_after (length output) board) c.vouched.new.board
    (known.desk ∙ ap (λ (r : Record). desk_or desk (filing client desk r)) reply ∙ ap (desk_or desk) (sym filed))
    (known.result ∙ ap (λ (r : Record). done_or (filing client desk r)) reply ∙ ap done_or (sym filed))
    c.in_ok-bytes.ensures.board

pub invariant_of-self : goal.invariant_of-self
invariant_of-self g c =
    let office = c.args.self.now in
    let f = office.figures.f in
    let client = office.figures.client in
    let accepts = g.N.Notary.means office.notary in
    let desk = office.desk in
    let output = c.args.output.now in
    let board = c.args.board.now in
    let step = taken f client accepts desk c.args.message.now in
    let filed = passed (buffers_fit (length output) (length board)) (vouched_reply client accepts desk (read_reply f c.args.message.now)) client desk c.in_ok-bytes.bytes.now c.in_ok-bytes.ensures.value in
    let reply = c.read.ensures in
    record {
      sound =
          sound_as f client accepts (desk_or desk (fits_first (length output) (length board) step)) c.accept.new.self
          (c.accept.ensures.desk ∙ ap (λ (r : Record). desk_or desk (filing client desk r)) reply ∙ ap (desk_or desk) (sym filed))
          (short_sound f client accepts desk (length output) (length board) step office.sound (taken_sound f client accepts desk c.args.message.now (typed_bytes c.args.message.now c.type_inv.message) office.sound));
    }
