-- An office that gives an answer has a quorum of alike replies filed that give it.
use Rattle.std.proofs.Common.{◌≡◌, ℕ, Bool, true, false, cond, List, Some, None, Ok, Err, Option, Result, refl, subst, arith}
use Rattle.std.specs.List.{AllByRecursion as All}
use Rattle.finder.proofs.Quorums.{finder_best}
use Rattle.message.specs.Forms.{quorum}
use Rattle.message.specs.declared.faults.SiteFault.{SiteFault}
use Rattle.message.specs.declared.faults.SiteFault.TheVariants.{Nothing}
use Rattle.record.proofs.Facts.{alike_equivalence}
use Rattle.record.specs.Claims.{claim_of, alike}
use Rattle.record.specs.declared.kind.Kind.{Kind}
use Rattle.record.specs.declared.kind.Kind.TheVariants.{Answer, ReadAnswer}
use Rattle.office.specs.Alike.{held_reflexive, held_symmetric, held_transitive}
use Rattle.office.proofs.Members.{gave_lead}
use Rattle.office.specs.Calls.{judge_write, answer_by, closing, ended, close_call}
use Rattle.office.specs.Judging.{alike_sites, claim_sites, place_sites, heard_sites, lead, is_ours, by_heard, by_place, by_claim, by_answer, by_read_answer, judged, judged_reading}
use Rattle.office.specs.Laws.{AlikeQuorum, Gave, Answered}
use Rattle.office.specs.Likenesses.{of_kind, alike_slots}
use Rattle.office.specs.Tickets.{is_ticket_of}
use Rattle.office.specs.declared.asking.Write.{Write}
use Rattle.office.specs.declared.desk.Desk.{Desk}
use Rattle.office.specs.declared.slots.Slot.{Slot}
use Rattle.office.specs.declared.ticket.Ticket.{Ticket}
use Rattle.office.specs.declared.verdict.Verdict.{Verdict}
use Rattle.office.specs.declared.verdict.Verdict.TheVariants.{Done, Certify, Back, Clash, Catch, Wait}

-- The sites that the finder gives are a quorum of alike replies.
best_alike : (kind : Kind) (q : ℕ) (slots : List Slot) (sites : List ℕ) → Some sites ≡ alike_sites kind q slots → AlikeQuorum kind q slots sites
best_alike kind q slots sites e =
    (finder_best (of_kind kind) alike_slots (λ x. held_reflexive alike alike_equivalence.reflexive x.filed)
    (λ x y. held_symmetric alike alike_equivalence.symmetric x.filed y.filed)
    (λ x y z. held_transitive alike alike_equivalence.transitive x.filed y.filed z.filed) slots q (Some sites) e).0

-- Where no ANSWERs are alike, no verdict is DONE.
module _ (q client : ℕ) (write : Option Write) (slots : List Slot) (answer : ℕ) where
  not_heard : (found : Option (List ℕ)) → by_heard slots found ≡ Done answer → ⊥
  not_heard (Some sites) e = let z : ◌≡◌ {A = ℕ} 0 1 = cc in omega arith
  not_heard None e = let z : ◌≡◌ {A = ℕ} 0 1 = cc in omega arith

  not_placed : (found : Option (List ℕ)) → (by_place q slots found).verdict ≡ Done answer → ⊥
  not_placed (Some sites) e = let z : ◌≡◌ {A = ℕ} 0 1 = cc in omega arith
  not_placed None e = not_heard (heard_sites q slots) e

  not_ours : (b : Bool) → cond b Certify Back ≡ Done answer → ⊥
  not_ours true e = let z : ◌≡◌ {A = ℕ} 0 1 = cc in omega arith
  not_ours false e = let z : ◌≡◌ {A = ℕ} 0 1 = cc in omega arith

  not_claimed : (found : Option (List ℕ)) → (by_claim q client write slots found).verdict ≡ Done answer → ⊥
  not_claimed (Some sites) e = not_ours (is_ours client write (claim_of (lead slots sites))) e
  not_claimed None e = not_placed (place_sites q slots) e

  from_found : (found : Option (List ℕ)) → found ≡ alike_sites Answer q slots → (by_answer q client write slots found).verdict ≡ Done answer → Answered Answer q slots answer
  from_found None is e = absurd (not_claimed (claim_sites q slots) e)
  from_found (Some sites) is e =
      let quorate = best_alike Answer q slots sites is in
      let same : (lead slots sites).answer ≡ answer = cc in
      (sites, quorate, subst (λ (a : ℕ). All (Gave slots a) sites) same (gave_lead Answer q slots sites quorate))

  done_answered : (judged q client write slots).verdict ≡ Done answer → Answered Answer q slots answer
  done_answered e = from_found (alike_sites Answer q slots) refl e

-- The same of a question.
module _ (q : ℕ) (slots : List Slot) (answer : ℕ) where
  reading_found : (found : Option (List ℕ)) → found ≡ alike_sites ReadAnswer q slots → by_read_answer q slots found ≡ Done answer → Answered ReadAnswer q slots answer
  reading_found None is e = absurd (not_heard q 0 None slots answer (heard_sites q slots) e)
  reading_found (Some sites) is e =
      let quorate = best_alike ReadAnswer q slots sites is in
      let same : (lead slots sites).answer ≡ answer = cc in
      (sites, quorate, subst (λ (a : ℕ). All (Gave slots a) sites) same (gave_lead ReadAnswer q slots sites quorate))

  pub reading_answered : judged_reading q slots ≡ Done answer → Answered ReadAnswer q slots answer
  reading_answered e = reading_found (alike_sites ReadAnswer q slots) refl e

-- CLOSE gives an answer only where the verdict is DONE with it.
by_done : (verdict : Verdict) (answer : ℕ) → answer_by verdict ≡ Ok answer → verdict ≡ Done answer
by_done (Done a) answer e = cc
by_done Certify answer e = let z : ◌≡◌ {A = ℕ} 0 1 = cc in absurd (omega arith)
by_done Back answer e = let z : ◌≡◌ {A = ℕ} 0 1 = cc in absurd (omega arith)
by_done Clash answer e = let z : ◌≡◌ {A = ℕ} 0 1 = cc in absurd (omega arith)
by_done (Catch site) answer e = let z : ◌≡◌ {A = ℕ} 0 1 = cc in absurd (omega arith)
by_done Wait answer e = let z : ◌≡◌ {A = ℕ} 0 1 = cc in absurd (omega arith)

by_ticket : (held : Bool) (next : Result ℕ SiteFault) (answer : ℕ) → cond held next (Err Nothing) ≡ Ok answer → next ≡ Ok answer
by_ticket true next answer e = e
by_ticket false next answer e = let z : ◌≡◌ {A = ℕ} 0 1 = cc in absurd (omega arith)

by_end : (desk : Desk) (ticket : Ticket) (step : Result ℕ SiteFault) (answer : ℕ) → (ended desk ticket step).result ≡ Ok answer → step ≡ Ok answer
by_end desk ticket (Ok a) answer e = cc
by_end desk ticket (Err why) answer e = let z : ◌≡◌ {A = ℕ} 0 1 = cc in absurd (omega arith)

pub close_answered : (f client : ℕ) (desk : Desk) (ticket : Ticket) (answer : ℕ) → (close_call f client desk ticket).result ≡ Ok answer → Answered Answer (quorum f) desk.replies.at answer
close_answered f client desk ticket answer e =
    let step = by_end desk ticket (closing f client desk ticket) answer e in
    let next = by_ticket (is_ticket_of client desk.write ticket) (answer_by (judge_write f client desk).verdict) answer step in
    done_answered (quorum f) client desk.write desk.replies.at answer (by_done (judge_write f client desk).verdict answer next)
