-- What BEGIN leaves of an office's open write, and of the ticket for it.
use Rattle.std.proofs.Common.{◌≡◌, ℕ, Bool, true, false, cond, ◌&&◌, eqb, List, length, Some, None, Ok, Err, Option, Result, sym, refl, ap, ◌∙◌, arith}
use Rattle.std.proofs.lemmas.Bool.{and_parts, eqb-true}
use Rattle.message.specs.Checks.{buffers_fit}
use Rattle.message.specs.declared.faults.CertificateFault.TheVariants.{Message}
use Rattle.message.specs.declared.faults.MessageFault.TheVariants.{Short}
use Rattle.message.specs.declared.faults.SiteFault.{SiteFault}
use Rattle.message.specs.declared.faults.SiteFault.TheVariants as fault
use Rattle.message.specs.declared.refusal.Refusal.{Refusal}
use Rattle.office.specs.Calls.{board_after, finished, Leaves, beginning, number_begun, begin_call, ended, holds_ticket}
use Rattle.office.specs.Tickets.{is_ticket_of}
use Rattle.office.specs.declared.asking.Write.{Write}
use Rattle.office.specs.declared.desk.Desk.{Desk}
use Rattle.office.specs.declared.ticket.Begun.{Begun}
use Rattle.office.specs.declared.ticket.Ticket.{Ticket}
use Rattle.office_vectors.specs.Pairs.{holds, same_write}

-- What is held of one client's write is held of the same client's same write.
pub still_paired : (client other : ℕ) (write same : Option Write) (ticket : Option Ticket) → other ≡ client → same ≡ write → holds client write ticket ≡ true → holds other same ticket ≡ true
still_paired client other write same ticket e f held = ap (λ c. holds c same ticket) e ∙ ap (λ (w : Option Write). holds client w ticket) f ∙ held

-- What BEGIN says, by whether it was refused.
refused_begin : (client : ℕ) (desk : Desk) (operation output board : List ℕ) (fits : Bool) (number : Result ℕ SiteFault) (why : Refusal) →
    Err why ≡ (finished desk output board (cond fits (beginning client desk operation number) (Err (fault.Certificate (Message Short))))).result →
    (finished desk output board (cond fits (beginning client desk operation number) (Err (fault.Certificate (Message Short))))).desk.write ≡ desk.write
refused_begin client desk operation output board false number why is = refl
refused_begin client desk operation output board true (Err fault) why is = refl
refused_begin client desk operation output board true (Ok number) why is = let z : ◌≡◌ {A = ℕ} 0 1 = cc in absurd (omega arith)

begun_unless : (client : ℕ) (desk : Desk) (operation output board : List ℕ) (fits : Bool) (write : Option Write) (given : Begun) →
    Ok given ≡ (finished desk output board (cond fits (beginning client desk operation (number_begun desk write)) (Err (fault.Certificate (Message Short))))).result → write ≡ None
begun_unless client desk operation output board fits None given is = refl
begun_unless client desk operation output board false (Some write) given is = let z : ◌≡◌ {A = ℕ} 0 1 = cc in absurd (omega arith)
begun_unless client desk operation output board true (Some write) given is = let z : ◌≡◌ {A = ℕ} 0 1 = cc in absurd (omega arith)

pub begin_refused : (client : ℕ) (desk after : Desk) (operation output board out cleared : List ℕ) (r : Result Begun Refusal) (why : Refusal) →
    Leaves (begin_call client desk operation output board) after out cleared r → r ≡ Err why → after.write ≡ desk.write
begin_refused client desk after operation output board out cleared r why leaves is =
    ap (λ (d : Desk). d.write) leaves.desk
    ∙ refused_begin client desk operation output (board_after (length output) board) (buffers_fit (length output) (length board)) (number_begun desk desk.write) why (sym is ∙ leaves.result)

-- Where BEGIN gave a ticket, none was held.
pub begun_alone : (client : ℕ) (desk after : Desk) (operation output board out cleared : List ℕ) (r : Result Begun Refusal) (given : Begun) (held : Option Ticket) (ticket : Ticket) →
    Leaves (begin_call client desk operation output board) after out cleared r → r ≡ Ok given → holds client desk.write held ≡ true → held ≡ Some ticket → ⊥
begun_alone client desk after operation output board out cleared r given held ticket leaves is paired some =
    let none : desk.write ≡ None = begun_unless client desk operation output (board_after (length output) board) (buffers_fit (length output) (length board)) desk.write given (sym is ∙ leaves.result) in
    let wrong : false ≡ true = ap (λ (w : Option Write). holds client w (Some ticket)) (sym none) ∙ ap (holds client desk.write) (sym some) ∙ paired in
    let z : ◌≡◌ {A = ℕ} 0 1 = cc in
    omega arith

-- A ticket of one write is not that of a write with another client or number.
pub not_theirs : (own client : ℕ) (mine theirs : Option Write) (ticket : Ticket) → is_ticket_of own mine ticket ≡ true → same_write own client mine theirs ≡ false → is_ticket_of client theirs ticket ≡ false
not_theirs own client None theirs ticket held differ = let z : ◌≡◌ {A = ℕ} 0 1 = cc in absurd (omega arith)
not_theirs own client (Some mine) None ticket held differ = refl
not_theirs own client (Some mine) (Some theirs) ticket held differ =
    let parts = and_parts (eqb ticket.client own) (eqb ticket.number mine.number) held in
    let ours : ticket.client ≡ own = eqb-true ticket.client own parts.0 in
    let same : ticket.number ≡ mine.number = eqb-true ticket.number mine.number parts.1 in
    ap (λ n. eqb n client && eqb ticket.number theirs.number) ours ∙ ap (λ n. eqb own client && eqb n theirs.number) same ∙ differ

-- A call with a ticket that is not the open write's leaves the desk.
pub leaves_desk : {T : Type 0} (client : ℕ) (desk : Desk) (ticket : Ticket) (next : Result T SiteFault) → is_ticket_of client desk.write ticket ≡ false → (ended desk ticket (holds_ticket client desk ticket next)).desk ≡ desk
leaves_desk client desk ticket next no_ticket = ap (λ b. (ended desk ticket (cond b next (Err fault.Nothing))).desk) no_ticket

-- What another seat holds is held after a call with a ticket of ours, where client or number is another.
pub held_beside : {T : Type 0} (own client after_client : ℕ) (mine : Option Write) (desk after : Desk) (held taken : Option Ticket) (ticket : Ticket) (theirs : Option Ticket) (next : Result T SiteFault) →
    holds own mine held ≡ true → taken ≡ held → taken ≡ Some ticket → same_write own client mine desk.write ≡ false → after_client ≡ client →
    after ≡ (ended desk ticket (holds_ticket client desk ticket next)).desk → holds client desk.write theirs ≡ true → holds after_client after.write theirs ≡ true
held_beside own client after_client mine desk after held taken ticket theirs next paired took some differ same left kept =
    let shown : held ≡ Some ticket = sym took ∙ some in
    let ours : is_ticket_of own mine ticket ≡ true = ap (holds own mine) (sym shown) ∙ paired in
    let stays : after ≡ desk = left ∙ leaves_desk client desk ticket next (not_theirs own client mine desk.write ticket ours differ) in
    still_paired client after_client desk.write after.write theirs same (ap (λ (d : Desk). d.write) stays) kept
