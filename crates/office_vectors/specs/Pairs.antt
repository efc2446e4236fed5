-- An office and the ticket of its open write.
use Rattle.std.specs.Prelude.{ℕ, Bool, true, ◌&&◌, Some, None, Option, ◌==◌}
use Rattle.office.specs.Tickets.{is_ticket_of}
use Rattle.office.specs.declared.asking.Write.{Write}
use Rattle.office.specs.declared.ticket.Ticket.{Ticket}

-- A ticket that is held is that of the client's open write.
abbrev pub holds : ℕ → Option Write → Option Ticket → Bool
holds client write None = true
holds client write (Some ticket) = is_ticket_of client write ticket

-- The number of an open write; 0 for none.
abbrev pub number_of : Option Write → ℕ
number_of None = 0
number_of (Some write) = write.number

-- Two clients are one, and their open writes have one number.
abbrev pub same_write : ℕ → ℕ → Option Write → Option Write → Bool
same_write one other write theirs = one == other && number_of write == number_of theirs
