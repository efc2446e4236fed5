-- Tickets.
use Rattle.std.specs.Prelude.{◌≡◌, ℕ, Bool, true, false, ◌&&◌, Some, None, Option, ◌==◌}
use Rattle.office.specs.declared.asking.Write.{Write}
use Rattle.office.specs.declared.ticket.Ticket.{Ticket}

-- The ticket for a client's write.
abbrev pub ticket_for : ℕ → ℕ → Ticket
ticket_for client number = record { client = client; number = number }

-- A ticket is that of a client's open write.
abbrev pub is_ticket_of : ℕ → Option Write → Ticket → Bool
is_ticket_of client None ticket = false
is_ticket_of client (Some write) ticket = ticket.client == client && ticket.number == write.number

-- A ticket is good while it is that of the open write: then GIVE UP takes it.
abbrev pub GoodTicket : ℕ → Option Write → Ticket → Type 0
GoodTicket client write ticket = is_ticket_of client write ticket ≡ true
