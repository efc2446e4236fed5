-- The example's life meets the premises, and its office is told both answers.
use Rattle.std.proofs.Common.{◌≡◌, ℕ, zero, suc, true, false, List, [], ◌∷◌, get_or, replicate, Some, Ok, sym, refl, ap, subst, inl, inr, arith}
use Rattle.std.proofs.lemmas.Bool.{both_ways}
use Rattle.finder.specs.Groups.{best_group}
use Rattle.record.specs.Claims.{grant}
use Rattle.record.specs.Layout.{record_bytes}
use Rattle.record.specs.Numbers.{number_at, bytes_of_number}
use Rattle.record.specs.Ranges.{in_range}
use Rattle.record.specs.declared.fields.Record.{Record}
use Rattle.record.specs.declared.fields.Statement.{Statement}
use Rattle.message.specs.Checks.{signed_among}
use Rattle.message.specs.Forms.{quorum, all_kind}
use Rattle.message.specs.Records.{lowest}
use Rattle.message.specs.Said.{round}
use Rattle.message.specs.Saying.{requests_from}
use Rattle.message.specs.declared.request.Request.{Request}
use Rattle.protocol.specs.Book.{Begins, whole, more}
use Rattle.protocol.specs.Quorum.{Sound as Sound-site}
use Rattle.site.proofs.LifeExample.{all_bytes, and, all_told, asked, granted_0, granted_1, granted_2, unsound, happens_asked, is_round}
use Rattle.site.specs.Life.{Event, checked, WroteStatement}
use Rattle.site.specs.LifeExample.{counter, wish, asks, certificate, question, at_site, to_all, in_a}
use Rattle.site.specs.OneBook.{Happens, WrittenBefore, Premises}
use Rattle.office.specs.Calls.{close_call, judge_question}
use Rattle.office.specs.Filed.{Good, Sound, is_write_reply}
use Rattle.office.specs.Slots.{no_reply, slot_at}
use Rattle.office.specs.Taking.{is_read_answer}
use Rattle.office.specs.Tickets.{ticket_for}
use Rattle.office.specs.declared.verdict.Verdict.TheVariants.{Done}
use Rattle.assurance.proofs.Deciding.{reading_answered}
use Rattle.assurance.proofs.Joining.{close_in_book, reading_stands}
use Rattle.assurance.specs.OfficeExample.{life, sealed, heard_of, answered, looked_up, desk, HasAnOffice}
use Rattle.assurance.specs.InBook.{FiledAsWritten}

-- The life happens -------------------------------------------------------------------------------------------------

abbrev wrote : List Event
wrote = to_all (certificate wish) asked

-- The certificate holds GRANTs that were written.
certified : (past : List Event) (s : ℕ) → WroteStatement in_a 0 (grant 0 wish) past → WroteStatement in_a 1 (grant 1 wish) past → WroteStatement in_a 2 (grant 2 wish) past →
    WrittenBefore in_a past (at_site s (certificate wish))
unfolding number_at bytes_of_number lowest all_kind signed_among requests_from
certified past s a b c zero w l ok o k = a
certified past s a b c (suc zero) w l ok o k = b
certified past s a b c (suc (suc zero)) w l ok o k = c
certified past s a b c (suc (suc (suc i))) w l ok o k = absurd (omega arith)

happens_wrote : Happens in_a wrote
unfolding number_at bytes_of_number lowest all_kind signed_among requests_from all_bytes
happens_wrote =
    let m = certificate wish in
    and (at_site 1 m ∷ at_site 0 m ∷ asked) 2 m (omega arith) refl refl (certified (at_site 1 m ∷ at_site 0 m ∷ asked) 2 (inr (inr granted_0)) (inr (inr granted_1)) (inr (inr granted_2)))
    (and (at_site 0 m ∷ asked) 1 m (omega arith) refl refl (certified (at_site 0 m ∷ asked) 1 (inr granted_0) (inr granted_1) (inr granted_2))
    (and asked 0 m (omega arith) refl refl (certified asked 0 granted_0 granted_1 granted_2) happens_asked))

happens : Happens in_a life
unfolding number_at bytes_of_number lowest all_kind signed_among requests_from all_bytes
happens = all_told wrote question refl refl refl happens_wrote

-- There is no ROUND in it --------------------------------------------------------------------------------------------

abbrev NoRound : List Event → Type 0
NoRound past = (x : Event) (here : List Event) (n t : ℕ) (rs : List Request) → Begins (x ∷ here) past → checked in_a x ≡ Ok (round n t rs) → ⊥

other : (x : Event) (past : List Event) → is_round (checked in_a x) ≡ false → NoRound past → NoRound (x ∷ past)
unfolding is_round
other x past not h y here n t rs whole e = both_ways (is_round (checked in_a x)) not (ap is_round e)
other x past not h y here n t rs (more b) e = h y here n t rs b e

others : (past : List Event) (m : List ℕ) → is_round (checked in_a (at_site 0 m)) ≡ false → NoRound past → NoRound (to_all m past)
others past m not h = other (at_site 2 m) (at_site 1 m ∷ at_site 0 m ∷ past) not (other (at_site 1 m) (at_site 0 m ∷ past) not (other (at_site 0 m) past not h))

no_rounds : NoRound life
unfolding number_at bytes_of_number lowest all_kind signed_among requests_from is_round
no_rounds = others wrote question refl (others asked (certificate wish) refl (others [] asks refl (λ x here n t rs b e. elim b [ ])))

premises : Premises in_a life
premises = record { few = omega arith; happens = happens; agree = λ x y here there n t u rs ss b c e f. absurd (no_rounds x here n t rs b e) }

-- What the office has filed --------------------------------------------------------------------------------------------

empty : (n i : ℕ) (reply : Record) → (get_or (replicate n no_reply) i no_reply).filed ≡ Some reply → ⊥
empty zero i reply e = let z : ◌≡◌ {A = ℕ} 0 1 = cc in omega arith
empty (suc n) zero reply e = let z : ◌≡◌ {A = ℕ} 0 1 = cc in omega arith
empty (suc n) (suc i) reply e = empty n i reply e

-- Slot by slot.
each_slot : (P : ℕ → Record → Type 0) (says : ℕ → Statement) → P 0 (sealed (says 0)) → P 1 (sealed (says 1)) → P 3 (sealed (says 3)) →
    (i : ℕ) (reply : Record) → (slot_at (heard_of says) i).filed ≡ Some reply → P i reply
each_slot P says a b d zero reply e = let same : sealed (says 0) ≡ reply = cc in subst (P 0) same a
each_slot P says a b d (suc zero) reply e = let same : sealed (says 1) ≡ reply = cc in subst (P 1) same b
each_slot P says a b d (suc (suc zero)) reply e = let z : ◌≡◌ {A = ℕ} 0 1 = cc in absurd (omega arith)
each_slot P says a b d (suc (suc (suc zero))) reply e = let same : sealed (says 3) ≡ reply = cc in subst (P 3) same d
each_slot P says a b d (suc (suc (suc (suc i)))) reply e = absurd (empty 12 i reply e)

good_answer : (i : ℕ) → in_range 1 (answered i) ≡ true → Good 1 1 in_a.accepts desk i (sealed (answered i))
good_answer i ranged = record {
  signer = refl;
  ranged = ranged;
  like = refl;
  fits = record { number = omega arith; round = omega arith; place = omega arith; operation = refl; answer = omega arith; nonce = omega arith };
  sealed = refl;
  vouched = refl;
}

good_reading : (i : ℕ) → in_range 1 (looked_up i) ≡ true → Good 1 1 in_a.accepts desk i (sealed (looked_up i))
good_reading i ranged = record {
  signer = refl;
  ranged = ranged;
  like = refl;
  fits = record { number = omega arith; round = omega arith; place = omega arith; operation = refl; answer = omega arith; nonce = omega arith };
  sealed = refl;
  vouched = refl;
}

sound : Sound 1 1 in_a.accepts desk
sound = record {
  replies = each_slot (λ i reply. (is_write_reply reply.statement ≡ true) × Good 1 1 in_a.accepts desk i reply) answered (refl, good_answer 0 refl) (refl, good_answer 1 refl) (refl, good_answer 3 refl);
  readings = each_slot (λ i reply. (is_read_answer reply.statement ≡ true) × Good 1 1 in_a.accepts desk i reply) looked_up (refl, good_reading 0 refl) (refl, good_reading 1 refl) (refl, good_reading 3 refl);
}

-- What a record states was written, if its signer is sound.
abbrev Written : Record → Type 0
Written reply = in_a.accepts (record_bytes reply) ≡ true → Sound-site in_a.pool reply.statement.signer → WroteStatement in_a reply.statement.signer reply.statement life

answered_0 : WroteStatement in_a 0 (answered 0) life
unfolding number_at bytes_of_number lowest all_kind signed_among requests_from
answered_0 = inr (inr (inr (inr (inr (inl (refl, refl, (0, omega arith, refl)))))))

answered_1 : WroteStatement in_a 1 (answered 1) life
unfolding number_at bytes_of_number lowest all_kind signed_among requests_from
answered_1 = inr (inr (inr (inr (inl (refl, refl, (0, omega arith, refl))))))

looked_0 : WroteStatement in_a 0 (looked_up 0) life
unfolding number_at bytes_of_number lowest all_kind signed_among requests_from
looked_0 = inr (inr (inl (refl, refl, (0, omega arith, refl))))

looked_1 : WroteStatement in_a 1 (looked_up 1) life
unfolding number_at bytes_of_number lowest all_kind signed_among requests_from
looked_1 = inr (inl (refl, refl, (0, omega arith, refl)))

replies : FiledAsWritten in_a life desk.replies.at
replies = each_slot (λ i reply. Written reply) answered (λ ok k. answered_0) (λ ok k. answered_1) (λ ok k. unsound k)

readings : FiledAsWritten in_a life desk.readings.at
readings = each_slot (λ i reply. Written reply) looked_up (λ ok k. looked_0) (λ ok k. looked_1) (λ ok k. unsound k)

-- What it is told ------------------------------------------------------------------------------------------------------

closes : (close_call 1 1 desk (ticket_for 1 1)).result ≡ Ok 5
unfolding best_group
closes = refl

reads : judge_question 1 desk ≡ Done 6
unfolding best_group
reads = refl

pub has_an_office : HasAnOffice
has_an_office = record {
  premises = premises;
  sound = sound;
  replies = replies;
  readings = readings;
  closes = closes;
  reads = reads;
  write_stands = close_in_book counter 1 1 in_a.accepts desk (ticket_for 1 1) (Ok 5) (sym closes) sound in_a.pool.sound in_a.first in_a.before life premises replies;
  reading_stands = reading_stands counter 1 1 in_a.accepts desk sound in_a.pool.sound in_a.first in_a.before life 6 (reading_answered (quorum 1) desk.readings.at 6 reads) premises readings;
}
