-- What each call of an office leaves: the desk, both buffers, and what it returns.
use Rattle.std.specs.Prelude.{◌≡◌, ℕ, ◌+◌, Bool, cond, List, [], ◌++◌, length, drop, replicate, Some, None, Ok, Err, Option, Result, ◌==◌}
use Rattle.message.specs.Checks.{buffers_fit}
use Rattle.message.specs.Forms.{quorum}
use Rattle.message.specs.Refusals.{refusal_of}
use Rattle.message.specs.declared.faults.CertificateFault.TheVariants.{Message}
use Rattle.message.specs.declared.faults.MessageFault.TheVariants.{Short}
use Rattle.message.specs.declared.faults.SiteFault.{SiteFault}
use Rattle.message.specs.declared.faults.SiteFault.TheVariants as fault
use Rattle.message.specs.declared.refusal.Refusal.{Refusal}
use Rattle.record.specs.Claims.{request, question}
use Rattle.record.specs.Layout.{record_bytes}
use Rattle.record.specs.declared.fields.Statement.{Statement}
use Rattle.office.specs.Judging.{Found, judged, judged_reading, found_bytes}
use Rattle.office.specs.Slots.{empty_slots}
use Rattle.office.specs.Taking.{taken}
use Rattle.office.specs.Tickets.{ticket_for, is_ticket_of}
use Rattle.office.specs.declared.asking.Write.{Write}
use Rattle.office.specs.declared.desk.Desk.{Desk}
use Rattle.office.specs.declared.ticket.Begun.{Begun}
use Rattle.office.specs.declared.ticket.Ticket.{Ticket}
use Rattle.office.specs.declared.ticket.Unspent.{Unspent}
use Rattle.office.specs.declared.verdict.Judged.{Judged}
use Rattle.office.specs.declared.verdict.Verdict.{Verdict}
use Rattle.office.specs.declared.verdict.Verdict.TheVariants.{Done, Certify, Back, Clash, Catch, Wait}

-- A desk with nothing on it, after a last number.
abbrev pub clear_desk : ℕ → Desk
clear_desk last = record { last = last; write = None; question = None; replies = empty_slots; readings = empty_slots }

-- The board is zero after every call, but for one whose buffers do not fit.
abbrev pub board_after : ℕ → List ℕ → List ℕ
board_after room board = cond (buffers_fit room (length board)) (replicate 16 0) board

-- SHORT comes before anything else.
abbrev pub fits_first : {T : Type 0} → ℕ → ℕ → Result T SiteFault → Result T SiteFault
fits_first room board next = cond (buffers_fit room board) next (Err (fault.Certificate (Message Short)))

-- What a call leaves.
pub record Called (T : Type 0) : Type 0 where
  pub desk : Desk
  pub output : List ℕ
  pub board : List ℕ
  pub result : Result T Refusal

-- A call left what it should.
pub record Leaves {T : Type 0} (called : Called T) (after : Desk) (out cleared : List ℕ) (returned : Result T Refusal) : Type 0 where
  pub desk : after ≡ called.desk
  pub output : out ≡ called.output
  pub board : cleared ≡ called.board
  pub result : returned ≡ called.result

-- A step that is not refused: the desk then, the bytes that it writes, and what it gives.
pub record Step (T : Type 0) : Type 0 where
  pub desk : Desk
  pub bytes : List ℕ
  pub given : T

-- A refusal changes neither desk nor output. Bytes that are written fill the output's front; the rest of it stays.
abbrev pub finished : {T : Type 0} → Desk → List ℕ → List ℕ → Result (Step T) SiteFault → Called T
finished desk output board (Err why) = record { desk = desk; output = output; board = board; result = Err (refusal_of why) }
finished desk output board (Ok step) = record {
  desk = step.desk;
  output = step.bytes ++ drop (length step.bytes) output;
  board = board;
  result = Ok step.given;
}

abbrev pub called : {T : Type 0} → Desk → List ℕ → List ℕ → Result (Step T) SiteFault → Called T
called desk output board step = finished desk output (board_after (length output) board) (fits_first (length output) (length board) step)

-- The bytes of a statement whose seal is still to be filled in.
abbrev pub unsealed : Statement → List ℕ
unsealed statement = record_bytes record { statement = statement; seal = replicate 32 0 }

-- The highest number of a write.
abbrev pub highest_number : ℕ
highest_number = 4294967295

-- The desk with a write begun.
abbrev pub with_write : Desk → List ℕ → ℕ → Desk
with_write desk operation number = record {
  last = number;
  write = Some (record { number = number; operation = operation });
  question = desk.question;
  replies = desk.replies;
  readings = desk.readings;
}

abbrev pub begun : ℕ → Desk → List ℕ → ℕ → Step Begun
begun client desk operation number = record {
  desk = with_write desk operation number;
  bytes = unsealed (request client number operation);
  given = record { ticket = ticket_for client number; count = 80 };
}

-- The number of the next write, where one may be begun: BUSY while a write is open, USED UP after the highest number.
abbrev pub number_begun : Desk → Option Write → Result ℕ SiteFault
number_begun desk (Some write) = Err (fault.Busy 0)
number_begun desk None = cond (desk.last == highest_number) (Err (fault.UsedUp 0)) (Ok (desk.last + 1))

-- BEGIN: the REQUEST numbered one above the last, and its ticket.
abbrev pub if_begun : Desk → List ℕ → Result ℕ SiteFault → Desk
if_begun desk operation (Ok number) = with_write desk operation number
if_begun desk operation (Err why) = desk

abbrev pub beginning : ℕ → Desk → List ℕ → Result ℕ SiteFault → Result (Step Begun) SiteFault
beginning client desk operation (Ok number) = Ok (begun client desk operation number)
beginning client desk operation (Err why) = Err why

abbrev pub begin_call : ℕ → Desk → List ℕ → List ℕ → List ℕ → Called Begun
begin_call client desk operation output board = called desk output board (beginning client desk operation (number_begun desk desk.write))

-- QUERY: the QUESTION takes the place of the one before, whose replies are forgotten.
abbrev pub with_question : Desk → List ℕ → ℕ → Desk
with_question desk operation nonce = record {
  last = desk.last;
  write = desk.write;
  question = Some (record { operation = operation; nonce = nonce });
  replies = desk.replies;
  readings = empty_slots;
}

abbrev pub asked : ℕ → Desk → List ℕ → ℕ → Step ℕ
asked client desk operation nonce = record {
  desk = with_question desk operation nonce;
  bytes = unsealed (question client operation nonce);
  given = 80;
}

abbrev pub query_call : ℕ → Desk → List ℕ → ℕ → List ℕ → List ℕ → Called ℕ
query_call client desk operation nonce output board = called desk output board (Ok (asked client desk operation nonce))

-- TAKE writes nothing.
abbrev pub silently : Result Desk SiteFault → Result (Step ℕ) SiteFault
silently (Err why) = Err why
silently (Ok after) = Ok (record { desk = after; bytes = []; given = 0 })

abbrev pub take_call : ℕ → ℕ → (List ℕ → Bool) → Desk → List ℕ → List ℕ → List ℕ → Called ℕ
take_call f client accepts desk message output board = called desk output board (silently (taken f client accepts desk message))

-- JUDGE over the write's slots changes nothing on the desk, and writes the records that go with its verdict.
abbrev pub judgement : Desk → List ℕ → Verdict → Step Judged
judgement desk bytes verdict = record { desk = desk; bytes = bytes; given = record { verdict = verdict; count = length bytes } }

abbrev pub judge_write : ℕ → ℕ → Desk → Found
judge_write f client desk = judged (quorum f) client desk.write desk.replies.at

abbrev pub judge_call : ℕ → ℕ → Desk → List ℕ → List ℕ → Called Judged
judge_call f client desk output board =
    called desk output board
    (Ok (judgement desk (found_bytes desk.replies.at (judge_write f client desk).sites) (judge_write f client desk).verdict))

-- The same over the question's slots, which writes nothing.
abbrev pub judge_question : ℕ → Desk → Verdict
judge_question f desk = judged_reading (quorum f) desk.readings.at

abbrev pub judge_reading_call : ℕ → Desk → List ℕ → List ℕ → Called Judged
judge_reading_call f desk output board = called desk output board (Ok (judgement desk [] (judge_question f desk)))

-- The desk with the write ended and its slots emptied.
abbrev pub without_write : Desk → Desk
without_write desk = record { last = desk.last; write = None; question = desk.question; replies = empty_slots; readings = desk.readings }

-- What a call with a ticket leaves: the desk, and what it gives, or the ticket back with the refusal.
pub record Ended (T : Type 0) : Type 0 where
  pub desk : Desk
  pub result : Result T Unspent

abbrev pub ended : {T : Type 0} → Desk → Ticket → Result T SiteFault → Ended T
ended desk ticket (Ok value) = record { desk = without_write desk; result = Ok value }
ended desk ticket (Err why) = record { desk = desk; result = Err record { ticket = ticket; refusal = refusal_of why } }

-- Where such a call refuses, the same ticket comes back, and the desk is as it was.
abbrev pub ComesBack : {T : Type 0} → Ticket → Desk → Desk → Result T Unspent → Type 0
ComesBack ticket desk after (Ok value) = Unit {0}
ComesBack ticket desk after (Err unspent) = (unspent.ticket ≡ ticket) × (after ≡ desk)

-- NONE for a ticket of another client or number, or with no write open.
abbrev pub holds_ticket : {T : Type 0} → ℕ → Desk → Ticket → Result T SiteFault → Result T SiteFault
holds_ticket client desk ticket next = cond (is_ticket_of client desk.write ticket) next (Err fault.Nothing)

-- The answer once the verdict is DONE; else WAIT.
abbrev pub answer_by : Verdict → Result ℕ SiteFault
answer_by (Done answer) = Ok answer
answer_by Certify = Err fault.Wait
answer_by Back = Err fault.Wait
answer_by Clash = Err fault.Wait
answer_by (Catch site) = Err fault.Wait
answer_by Wait = Err fault.Wait

abbrev pub closing : ℕ → ℕ → Desk → Ticket → Result ℕ SiteFault
closing f client desk ticket = holds_ticket client desk ticket (answer_by (judge_write f client desk).verdict)

abbrev pub close_call : ℕ → ℕ → Desk → Ticket → Ended ℕ
close_call f client desk ticket = ended desk ticket (closing f client desk ticket)

abbrev pub giving_up : ℕ → Desk → Ticket → Result (Unit {0}) SiteFault
giving_up client desk ticket = holds_ticket client desk ticket (Ok tt)

abbrev pub give_up_call : ℕ → Desk → Ticket → Ended (Unit {0})
give_up_call client desk ticket = ended desk ticket (giving_up client desk ticket)
