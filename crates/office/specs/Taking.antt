-- Taking a reply: what is checked, and where it is filed.
use Rattle.std.specs.Prelude.{ℕ, Bool, cond, ◌&&◌, ◌||◌, List, length, Some, None, Ok, Err, Option, Result, ◌==◌}
use Rattle.std.specs.Borrow.{Bor}
use Rattle.std.specs.Str.{bytes_eq}
use Rattle.message.specs.Checks.{whole}
use Rattle.message.specs.declared.faults.CertificateFault.{CertificateFault}
use Rattle.message.specs.declared.faults.CertificateFault.TheVariants.{Message, Mixed, Unvouched}
use Rattle.message.specs.declared.faults.MessageFault.{MessageFault}
use Rattle.message.specs.declared.faults.MessageFault.TheVariants as message
use Rattle.message.specs.declared.faults.SiteFault.{SiteFault}
use Rattle.message.specs.declared.faults.SiteFault.TheVariants.{Certificate, Nothing}
use Rattle.record.specs.Claims.{claim_of}
use Rattle.record.specs.Kinds.{kind_number}
use Rattle.record.specs.Layout.{statement_of, record_of}
use Rattle.record.specs.Ranges.{in_range}
use Rattle.record.specs.declared.fields.Record.{Record}
use Rattle.record.specs.declared.fields.Statement.{Statement}
use Rattle.record.specs.declared.kind.Kind.TheVariants as kind
use Rattle.office.specs.Judging.{claims_write}
use Rattle.office.specs.Slots.{filed_among}
use Rattle.office.specs.declared.asking.Question.{Question}
use Rattle.office.specs.declared.asking.Write.{Write}
use Rattle.office.specs.declared.desk.Desk.{Desk}
use Rattle.office.specs.declared.desk.Standing.{Standing}
use Rattle.office.specs.declared.desk.Standing.TheVariants.{Unasked, Unlike, Like}

-- A statement is of a kind.
abbrev pub is_grant : Statement → Bool
is_grant s = s.kind == kind_number kind.Grant

abbrev pub is_answer : Statement → Bool
is_answer s = s.kind == kind_number kind.Answer

abbrev pub is_read_answer : Statement → Bool
is_read_answer s = s.kind == kind_number kind.ReadAnswer

-- A reply is one GRANT, ANSWER or READ-ANSWER.
abbrev pub is_reply : Statement → Bool
is_reply s = is_grant s || (is_answer s || is_read_answer s)

-- Checks 2 to 4: LENGTH, KIND and FIELD. What passes is one record.
abbrev pub read_reply : ℕ → List ℕ → Result (List ℕ) MessageFault
read_reply f m =
    cond (whole m)
    (cond (length m == 80)
    (cond (is_reply (statement_of m)) (cond (in_range f (statement_of m)) (Ok m) (Err (message.Field 0))) (Err message.Kind))
    (Err message.Kind))
    (Err message.Length)

-- A fault of the message, one layer up.
abbrev pub in_certificate : {T : Type 0} → Result T MessageFault → Result T CertificateFault
in_certificate (Ok value) = Ok value
in_certificate (Err fault) = Err (Message fault)

-- The bytes behind a reference that may be returned.
abbrev pub lent : {E : Type 0} → Result (Bor (List ℕ)) E → Result (List ℕ) E
lent (Ok bytes) = Ok bytes.now
lent (Err fault) = Err fault

-- A statement names a client's question: its client, its nonce and its operation.
abbrev pub answers_asked : ℕ → Question → Statement → Bool
answers_asked client question s =
    (s.client == client) && s.nonce == question.nonce && bytes_eq s.operation question.operation

-- How a GRANT or an ANSWER stands to the open write: an ANSWER has to name it, a GRANT may be another's.
abbrev pub beside_write : ℕ → Option Write → Statement → Standing
beside_write client None s = Unasked
beside_write client (Some write) s = cond (is_grant s || claims_write client write (claim_of s)) Like Unlike

-- How a READ-ANSWER stands to the open question.
abbrev pub beside_question : ℕ → Option Question → Statement → Standing
beside_question client None s = Unasked
beside_question client (Some question) s = cond (answers_asked client question s) Like Unlike

abbrev pub standing : ℕ → Desk → Statement → Standing
standing client desk s = cond (is_read_answer s) (beside_question client desk.question s) (beside_write client desk.write s)

-- MIXED where a reply is unlike what is open; then UNVOUCHED where the notary does not accept it.
abbrev pub seal_checked : (List ℕ → Bool) → List ℕ → Result (List ℕ) CertificateFault
seal_checked accepts bytes = cond (accepts bytes) (Ok bytes) (Err (Unvouched 0))

abbrev pub vouched_as : (List ℕ → Bool) → List ℕ → Standing → Result (List ℕ) CertificateFault
vouched_as accepts bytes Unlike = Err (Mixed 0)
vouched_as accepts bytes Unasked = seal_checked accepts bytes
vouched_as accepts bytes Like = seal_checked accepts bytes

abbrev pub vouched_reply : ℕ → (List ℕ → Bool) → Desk → Result (List ℕ) MessageFault → Result (List ℕ) CertificateFault
vouched_reply client accepts desk (Err fault) = Err (Message fault)
vouched_reply client accepts desk (Ok bytes) = vouched_as accepts bytes (standing client desk (statement_of bytes))

-- The desk with a reply filed: a READ-ANSWER among those to the question, any other among those to the write.
abbrev pub with_reply : Desk → Record → Desk
with_reply desk reply = record {
  last = desk.last;
  write = desk.write;
  question = desk.question;
  replies = filed_among desk.replies reply;
  readings = desk.readings;
}

abbrev pub with_reading : Desk → Record → Desk
with_reading desk reply = record {
  last = desk.last;
  write = desk.write;
  question = desk.question;
  replies = desk.replies;
  readings = filed_among desk.readings reply;
}

abbrev pub filed_on : Desk → Record → Desk
filed_on desk reply = cond (is_read_answer reply.statement) (with_reading desk reply) (with_reply desk reply)

-- NONE where nothing is open that a vouched reply could reply to; else it is filed.
abbrev pub accepted_as : Desk → Record → Standing → Result Desk SiteFault
accepted_as desk reply Unasked = Err Nothing
accepted_as desk reply Unlike = Ok (filed_on desk reply)
accepted_as desk reply Like = Ok (filed_on desk reply)

abbrev pub filing : ℕ → Desk → Record → Result Desk SiteFault
filing client desk reply = accepted_as desk reply (standing client desk reply.statement)

abbrev pub took : ℕ → Desk → Result (List ℕ) CertificateFault → Result Desk SiteFault
took client desk (Err fault) = Err (Certificate fault)
took client desk (Ok bytes) = filing client desk (record_of bytes)

-- TAKE, once the buffers fit: the desk with the reply, or why it is refused.
abbrev pub taken : ℕ → ℕ → (List ℕ → Bool) → Desk → List ℕ → Result Desk SiteFault
taken f client accepts desk message = took client desk (vouched_reply client accepts desk (read_reply f message))

-- The desk after a step that may be refused, and what it then returns.
abbrev pub desk_or : Desk → Result Desk SiteFault → Desk
desk_or desk (Ok after) = after
desk_or desk (Err fault) = desk

abbrev pub done_or : Result Desk SiteFault → Result (Unit {0}) SiteFault
done_or (Ok after) = Ok tt
done_or (Err fault) = Err fault
