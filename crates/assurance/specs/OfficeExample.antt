-- A small life of real bytes, and an office that has filed what it heard of it, so that what is said of such offices is said of something. There are four
-- sites, of which site 3 is not sound. Sites 0, 1 and 2 grant client 1's request, do its write and answer its question. The client's office has replies of sites 0, 1 and 3.
use Rattle.std.specs.Prelude.{◌≡◌, ℕ, List, [], ◌∷◌, replicate, Some, Ok}
use Rattle.record.specs.Claims.{no_operation, answer, read_answer}
use Rattle.record.specs.declared.fields.Record.{Record}
use Rattle.record.specs.declared.fields.Statement.{Statement}
use Rattle.site.specs.Life.{Event}
use Rattle.site.specs.LifeExample.{count_one, wish, asks, certificate, question, to_all, in_a}
use Rattle.site.specs.OneBook.{Premises}
use Rattle.office.specs.Calls.{close_call, judge_question}
use Rattle.office.specs.Filed.{Sound}
use Rattle.office.specs.Slots.{no_reply, holding}
use Rattle.office.specs.Tickets.{ticket_for}
use Rattle.office.specs.declared.asking.Question.{Question}
use Rattle.office.specs.declared.asking.Write.{Write}
use Rattle.office.specs.declared.desk.Desk.{Desk}
use Rattle.office.specs.declared.slots.Slot.{Slot}
use Rattle.office.specs.declared.verdict.Verdict.TheVariants.{Done}
use Rattle.assurance.specs.InBook.{asked_by, FiledAsWritten, WriteStands, ReadingStands}

-- The request goes to sites 0, 1 and 2, then its certificate, then the question. The objects count their writes, and hold 5 at first.
abbrev pub life : List Event
life = to_all question (to_all (certificate wish) (to_all asks []))

-- A record of a statement. Its seal is of no account to a notary that accepts all records.
abbrev pub sealed : Statement → Record
sealed s = record { statement = s; seal = replicate 32 0 }

-- The slots with replies of sites 0, 1 and 3.
abbrev pub heard_of : (ℕ → Statement) → List Slot
heard_of says = holding (sealed (says 0)) ∷ holding (sealed (says 1)) ∷ no_reply ∷ holding (sealed (says 3)) ∷ replicate 12 no_reply

-- The write is answered by 5, the number of writes before it, and the question by 6, at round 0 and place 1.
abbrev pub answered : ℕ → Statement
answered site = answer site wish 5

abbrev pub looked_up : ℕ → Statement
looked_up site = read_answer site 1 no_operation 7 0 1 6

abbrev pub the_write : Write
the_write = record { number = 1; operation = count_one }

abbrev pub the_question : Question
the_question = record { operation = no_operation; nonce = 7 }

abbrev pub desk : Desk
desk = record { last = 1; write = Some the_write; question = Some the_question; replies = record { at = heard_of answered }; readings = record { at = heard_of looked_up } }

pub record HasAnOffice : Type 0 where
  -- the premises are met,
  pub premises : Premises in_a life
  pub sound : Sound 1 1 in_a.accepts desk
  pub replies : FiledAsWritten in_a life desk.replies.at
  pub readings : FiledAsWritten in_a life desk.readings.at
  -- the office is told both answers,
  pub closes : (close_call 1 1 desk (ticket_for 1 1)).result ≡ Ok 5
  pub reads : judge_question 1 desk ≡ Done 6
  -- and so they are those of the book
  pub write_stands : WriteStands in_a life 1 5 the_write
  pub reading_stands : ReadingStands in_a life 6 (asked_by 1 the_question)
