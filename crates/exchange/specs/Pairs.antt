-- An office and the ticket of its open write.
use Rattle.std.specs.Prelude.{◌≡◌, ℕ, Bool, true, List, Some, None, Ok, Err, Option, Result, MatchResult}
use Rattle.message.specs.Refusals.{refusal_of}
use Rattle.message.specs.declared.faults.SiteFault.TheVariants.{Nothing}
use Rattle.message.specs.declared.refusal.Refusal.{Refusal}
use Rattle.office.specs.Calls.{Called, Ended, close_call, without_write}
use Rattle.office.specs.declared.ticket.Begun.{Begun}
use Rattle.office.specs.declared.desk.Desk.{Desk}
use Rattle.office.specs.Tickets.{is_ticket_of}
use Rattle.office.specs.declared.asking.Write.{Write}
use Rattle.office.specs.declared.ticket.Ticket.{Ticket}

-- A ticket that is held is that of the client's open write.
abbrev pub holds : ℕ → Option Write → Option Ticket → Bool
holds client write None = true
holds client write (Some ticket) = is_ticket_of client write ticket

-- No ticket is out.
abbrev pub none_out : Option Ticket
none_out = None

-- BEGIN, by what the office's call leaves: its ticket is kept, and where it is refused the one before stays.
pub record Begins (called : Called Begun) (before : Option Ticket) (after : Desk) (kept : Option Ticket) (out cleared : List ℕ) (returned : Result ℕ Refusal) : Type 0 where
  pub desk : after ≡ called.desk
  pub output : out ≡ called.output
  pub board : cleared ≡ called.board
  pub result : MatchResult called.result (λ begun. (returned ≡ Ok begun.count) × (kept ≡ Some begun.ticket)) (λ refusal. (returned ≡ Err refusal) × (kept ≡ before))

-- What CLOSE and GIVE UP say where no ticket is out, or the ticket is not that of the open write: NONE.
abbrev pub no_ticket : Refusal
no_ticket = refusal_of Nothing

-- What a call with a ticket that is kept leaves, by what the office's call with it leaves: the ticket is spent, or is kept again.
pub record Spends {T : Type 0} (before : Desk) (ticket : Ticket) (ended : Ended T) (after : Desk) (kept : Option Ticket) (returned : Result T Refusal) : Type 0 where
  pub desk : after ≡ ended.desk
  pub result : MatchResult ended.result (λ value. (returned ≡ Ok value) × (kept ≡ None)) (λ unspent. (returned ≡ Err unspent.refusal) × (kept ≡ Some ticket))

-- With no ticket out nothing changes, and the answer is NONE.
pub record Idle {T : Type 0} (before after : Desk) (kept : Option Ticket) (returned : Result T Refusal) : Type 0 where
  pub desk : after ≡ before
  pub ticket : kept ≡ None
  pub result : returned ≡ Err no_ticket

-- CLOSE.
abbrev pub Closes : ℕ → ℕ → Desk → Option Ticket → Desk → Option Ticket → Result ℕ Refusal → Type 0
Closes f client desk None after kept returned = Idle desk after kept returned
Closes f client desk (Some ticket) after kept returned = Spends desk ticket (close_call f client desk ticket) after kept returned

-- GIVE UP: the ticket that is kept is that of the open write, so it is spent.
pub record GivenUp (before after : Desk) (kept : Option Ticket) (returned : Result (Unit {0}) Refusal) : Type 0 where
  pub desk : after ≡ without_write before
  pub ticket : kept ≡ None
  pub result : returned ≡ Ok tt

abbrev pub GivesUp : Desk → Option Ticket → Desk → Option Ticket → Result (Unit {0}) Refusal → Type 0
GivesUp desk None after kept returned = Idle desk after kept returned
GivesUp desk (Some ticket) after kept returned = GivenUp desk after kept returned
