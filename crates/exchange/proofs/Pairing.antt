-- What calls of an office leave of its open write, and of the ticket for it.
use Rattle.std.proofs.Common.{◌≡◌, ℕ, Bool, true, false, cond, List, length, Some, None, Ok, Err, Option, Result, sym, refl, ap, ◌∙◌, subst, arith, MatchResult}
use Rattle.std.proofs.lemmas.Bool.{cond_both}
use Rattle.message.specs.Checks.{buffers_fit}
use Rattle.message.specs.declared.faults.CertificateFault.{CertificateFault}
use Rattle.message.specs.declared.faults.CertificateFault.TheVariants.{Message}
use Rattle.message.specs.declared.faults.MessageFault.TheVariants.{Short}
use Rattle.message.specs.declared.faults.SiteFault.{SiteFault}
use Rattle.message.specs.declared.faults.SiteFault.TheVariants as fault
use Rattle.record.specs.Layout.{record_of}
use Rattle.record.specs.declared.fields.Record.{Record}
use Rattle.office.specs.Calls.{board_after, finished, silently, take_call, ended, Leaves, Called, Step, asked, query_call, beginning, number_begun, begin_call}
use Rattle.office.specs.declared.ticket.Begun.{Begun}
use Rattle.office.specs.Taking.{is_read_answer, standing, with_reading, with_reply, filed_on, accepted_as, took, taken, read_reply, vouched_reply}
use Rattle.office.specs.Tickets.{is_ticket_of}
use Rattle.office.specs.declared.asking.Write.{Write}
use Rattle.office.specs.declared.desk.Desk.{Desk}
use Rattle.office.specs.declared.desk.Standing.{Standing}
use Rattle.office.specs.declared.desk.Standing.TheVariants.{Unasked, Unlike, Like}
use Rattle.office.specs.declared.ticket.Ticket.{Ticket}
use Rattle.office.specs.declared.ticket.Unspent.{Unspent}
use Rattle.message.specs.declared.refusal.Refusal.{Refusal}
use Rattle.exchange.specs.Pairs.{holds}

-- The open write is the same after.
abbrev SameWrite : Desk → Result Desk SiteFault → Type 0
SameWrite desk (Ok after) = after.write ≡ desk.write
SameWrite desk (Err why) = Unit {0}

filed_keeps : (desk : Desk) (reply : Record) → (filed_on desk reply).write ≡ desk.write
filed_keeps desk reply = cond_both (is_read_answer reply.statement) (with_reading desk reply) (with_reply desk reply) (λ d. d.write ≡ desk.write) (λ _. refl) (λ _. refl)

as_keeps : (desk : Desk) (reply : Record) (s : Standing) → SameWrite desk (accepted_as desk reply s)
as_keeps desk reply Unasked = tt
as_keeps desk reply Unlike = filed_keeps desk reply
as_keeps desk reply Like = filed_keeps desk reply

took_keeps : (client : ℕ) (desk : Desk) (r : Result (List ℕ) CertificateFault) → SameWrite desk (took client desk r)
took_keeps client desk (Err why) = tt
took_keeps client desk (Ok bytes) = as_keeps desk (record_of bytes) (standing client desk (record_of bytes).statement)

finished_keeps : (desk : Desk) (output board : List ℕ) (fits : Bool) (r : Result Desk SiteFault) → SameWrite desk r →
    (finished desk output board (cond fits (silently r) (Err (fault.Certificate (Message Short))))).desk.write ≡ desk.write
finished_keeps desk output board true (Ok after) same = same
finished_keeps desk output board true (Err why) same = refl
finished_keeps desk output board false r same = refl

-- TAKE leaves the open write.
pub take_keeps : (f client : ℕ) (accepts : List ℕ → Bool) (desk : Desk) (message output board : List ℕ) → (take_call f client accepts desk message output board).desk.write ≡ desk.write
take_keeps f client accepts desk message output board =
    finished_keeps desk output (board_after (length output) board) (buffers_fit (length output) (length board)) (taken f client accepts desk message)
    (took_keeps client desk (vouched_reply client accepts desk (read_reply f message)))

-- A ticket that comes back is the one that was shown, and the desk is as it was.
pub comes_back : {T : Type 0} (desk after : Desk) (ticket : Ticket) (back : Unspent) (r : Result T SiteFault) → after ≡ (ended desk ticket r).desk → Err back ≡ (ended desk ticket r).result → (after ≡ desk) × (back.ticket ≡ ticket)
comes_back desk after ticket back (Ok value) left is = let z : ◌≡◌ {A = ℕ} 0 1 = cc in absurd (omega arith)
comes_back desk after ticket back (Err why) left is = (left, cc)

pub take_leaves : (f client : ℕ) (accepts : List ℕ → Bool) (desk after : Desk) (message output board out cleared : List ℕ) (r : Result ℕ Refusal) →
    Leaves (take_call f client accepts desk message output board) after out cleared r → after.write ≡ desk.write
take_leaves f client accepts desk after message output board out cleared r leaves = ap (λ (d : Desk). d.write) leaves.desk ∙ take_keeps f client accepts desk message output board

-- What is held of one client's write is held of the same client's same write.
pub still_paired : (client other : ℕ) (write same : Option Write) (ticket : Option Ticket) → other ≡ client → same ≡ write → holds client write ticket ≡ true → holds other same ticket ≡ true
still_paired client other write same ticket e f held = ap (λ c. holds c same ticket) e ∙ ap (λ (w : Option Write). holds client w ticket) f ∙ held

-- A ticket that came back is held again.
pub held_again : {T : Type 0} (client other : ℕ) (desk after : Desk) (held result : Option Ticket) (ticket : Ticket) (back : Unspent) (r : Result T SiteFault) → other ≡ client →
    result ≡ held → result ≡ Some ticket → holds client desk.write held ≡ true → after ≡ (ended desk ticket r).desk → Err back ≡ (ended desk ticket r).result →
    is_ticket_of other after.write back.ticket ≡ true
held_again client other desk after held result ticket back r same taken some paired left is =
    let b = comes_back desk after ticket back r left is in
    let stays : after.write ≡ desk.write = ap (λ (d : Desk). d.write) b.0 in
    let shown : held ≡ Some ticket = sym taken ∙ some in
    ap (λ (t : Ticket). is_ticket_of other after.write t) b.1 ∙ still_paired client other desk.write after.write (Some ticket) same stays (ap (holds client desk.write) (sym shown) ∙ paired)

-- A step that leaves the open write, or is refused, leaves it after the whole call.
step_keeps : {T : Type 0} (desk : Desk) (output board : List ℕ) (fits : Bool) (step : Step T) → step.desk.write ≡ desk.write →
    (finished desk output board (cond fits (Ok step) (Err (fault.Certificate (Message Short))))).desk.write ≡ desk.write
step_keeps desk output board true step same = same
step_keeps desk output board false step same = refl

pub query_leaves : (client nonce : ℕ) (desk after : Desk) (operation output board out cleared : List ℕ) (r : Result ℕ Refusal) →
    Leaves (query_call client desk operation nonce output board) after out cleared r → after.write ≡ desk.write
query_leaves client nonce desk after operation output board out cleared r leaves =
    ap (λ (d : Desk). d.write) leaves.desk ∙ step_keeps desk output (board_after (length output) board) (buffers_fit (length output) (length board)) (asked client desk operation nonce) refl

-- What BEGIN says, by whether it was refused.
refused_begin : (client : ℕ) (desk : Desk) (operation output board : List ℕ) (fits : Bool) (number : Result ℕ SiteFault) (why : Refusal) →
    Err why ≡ (finished desk output board (cond fits (beginning client desk operation number) (Err (fault.Certificate (Message Short))))).result →
    (finished desk output board (cond fits (beginning client desk operation number) (Err (fault.Certificate (Message Short))))).desk.write ≡ desk.write
refused_begin client desk operation output board false number why is = refl
refused_begin client desk operation output board true (Err fault) why is = refl
refused_begin client desk operation output board true (Ok number) why is = let z : ◌≡◌ {A = ℕ} 0 1 = cc in absurd (omega arith)

begun_unless : (client : ℕ) (desk : Desk) (operation output board : List ℕ) (fits : Bool) (write : Option Write) (given : Begun) →
    Ok given ≡ (finished desk output board (cond fits (beginning client desk operation (number_begun desk write)) (Err (fault.Certificate (Message Short))))).result → write ≡ None
begun_unless client desk operation output board fits None given is = refl
begun_unless client desk operation output board false (Some write) given is = let z : ◌≡◌ {A = ℕ} 0 1 = cc in absurd (omega arith)
begun_unless client desk operation output board true (Some write) given is = let z : ◌≡◌ {A = ℕ} 0 1 = cc in absurd (omega arith)

pub begin_refused : (client : ℕ) (desk after : Desk) (operation output board out cleared : List ℕ) (r : Result Begun Refusal) (why : Refusal) →
    Leaves (begin_call client desk operation output board) after out cleared r → r ≡ Err why → after.write ≡ desk.write
begin_refused client desk after operation output board out cleared r why leaves is =
    ap (λ (d : Desk). d.write) leaves.desk
    ∙ refused_begin client desk operation output (board_after (length output) board) (buffers_fit (length output) (length board)) (number_begun desk desk.write) why (sym is ∙ leaves.result)

-- Where BEGIN gave a ticket, none was held.
pub begun_alone : (client : ℕ) (desk after : Desk) (operation output board out cleared : List ℕ) (r : Result Begun Refusal) (given : Begun) (held : Option Ticket) (ticket : Ticket) →
    Leaves (begin_call client desk operation output board) after out cleared r → r ≡ Ok given → holds client desk.write held ≡ true → held ≡ Some ticket → ⊥
begun_alone client desk after operation output board out cleared r given held ticket leaves is paired some =
    let none : desk.write ≡ None = begun_unless client desk operation output (board_after (length output) board) (buffers_fit (length output) (length board)) desk.write given (sym is ∙ leaves.result) in
    let wrong : false ≡ true = ap (λ (w : Option Write). holds client w (Some ticket)) (sym none) ∙ ap (holds client desk.write) (sym some) ∙ paired in
    let z : ◌≡◌ {A = ℕ} 0 1 = cc in
    omega arith

-- BEGIN that is refused hands the refusal on, and the ticket before stays.
pub begins_refused : (called : Called Begun) (r : Result Begun Refusal) (why : Refusal) (returned : Result ℕ Refusal) (before : Option Ticket) → r ≡ called.result → r ≡ Err why → returned ≡ Err why →
    MatchResult called.result (λ begun. (returned ≡ Ok begun.count) × (before ≡ Some begun.ticket)) (λ refusal. (returned ≡ Err refusal) × (before ≡ before))
begins_refused called r why returned before is refused gives =
    subst (λ (x : Result Begun Refusal). MatchResult x (λ begun. (returned ≡ Ok begun.count) × (before ≡ Some begun.ticket)) (λ refusal. (returned ≡ Err refusal) × (before ≡ before)))
    (sym refused ∙ is) (gives, refl)
