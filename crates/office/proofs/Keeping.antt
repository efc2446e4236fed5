-- Every call keeps a desk sound.
use Rattle.std.proofs.Common.{◌≡◌, ℕ, zero, suc, ◌+◌, ◌^◌, ◌<◌, Bool, true, false, cond, ◌||◌, eqb, ◌⊎◌, List, length, get_or, drop, set, Some, None, Ok, Err, Option, Result, sym, refl, ap, ◌∙◌, subst, inl, inr, pow-suc, arith, w8}
use mir.Val as val
use Rattle.std.proofs.ByRecursion.{All-from_get_or}
use Rattle.std.proofs.lemmas.List.{get_or-set_same, get_or-set_other, get_or_past, get_or-replicate, set_past, length-take, length-drop}
use Rattle.std.proofs.lemmas.Bool.{cases_eq, cases_lt, cond_both, eqb-true, or_cases, or_left, or_right, both_ways}
use Rattle.record.proofs.Digits.{byte_at}
use Rattle.record.proofs.RoundTrip.{read_then_written}
use Rattle.record.specs.Layout.{record_of, statement_of}
use Rattle.record.specs.Numbers.{bytes_at, number_at}
use Rattle.record.specs.Ranges.{in_range}
use Rattle.record.specs.RoundTrip.{Bytes, Fits}
use Rattle.record.specs.declared.fields.Record.{Record}
use Rattle.record.specs.declared.fields.Statement.{Statement}
use Rattle.message.specs.Checks.{whole, buffers_fit}
use Rattle.message.specs.declared.faults.CertificateFault.{CertificateFault}
use Rattle.message.specs.declared.faults.CertificateFault.TheVariants.{Message, Unvouched}
use Rattle.message.specs.declared.faults.MessageFault.TheVariants.{Short}
use Rattle.message.specs.declared.faults.MessageFault.{MessageFault}
use Rattle.message.specs.declared.faults.MessageFault.TheVariants as message
use Rattle.message.specs.declared.faults.SiteFault.{SiteFault}
use Rattle.message.specs.declared.faults.SiteFault.TheVariants as fault
use Rattle.office.specs.Calls.{clear_desk, with_write, with_question, without_write, if_begun, number_begun, highest_number, fits_first}
use Rattle.office.specs.Filed.{Good, Filed, Sound, is_write_reply}
use Rattle.office.specs.Slots.{slot_at, no_reply, holding, later_slot, filed_in, empty_slots}
use Rattle.office.specs.Taking.{is_grant, is_answer, is_read_answer, is_reply, standing, beside_write, beside_question, filed_on, with_reply, with_reading, taken, vouched_reply, vouched_as, took, accepted_as, desk_or}
use Rattle.office.specs.declared.asking.Question.{Question}
use Rattle.office.specs.declared.asking.Write.{Write}
use Rattle.office.specs.declared.desk.Desk.{Desk}
use Rattle.office.specs.declared.desk.Standing.{Standing}
use Rattle.office.specs.declared.desk.Standing.TheVariants.{Unasked, Unlike, Like}
use Rattle.office.specs.declared.slots.Slot.{Slot}

-- Bytes ---------------------------------------------------------------------------------------------------------

pub typed_bytes : (m : List ℕ) → ((i : ℕ) → val.Fits w8 (get_or m i 0)) → Bytes m
typed_bytes m typed = All-from_get_or (λ b. b < 256) m 0 (λ i _. (typed i).fits)

number_small : (at size : ℕ) (m : List ℕ) → Bytes m → number_at at size m < 256 ^ size
unfolding number_at
number_small at zero m all = omega arith
number_small at (suc size) m all =
    let before = number_small at size m all in
    let b = byte_at m (at + size) all in
    let e = pow-suc 256 size in
    omega arith

operation_long : (m : List ℕ) → length m ≡ 80 → length (bytes_at 16 16 m) ≡ 16
operation_long m long =
    let a = length-take 16 (drop 16 m) in
    let b = length-drop 16 m in
    omega arith

seal_long : (m : List ℕ) → length m ≡ 80 → length (bytes_at 48 32 m) ≡ 32
seal_long m long =
    let a = length-take 32 (drop 48 m) in
    let b = length-drop 48 m in
    omega arith

read_fits : (m : List ℕ) → length m ≡ 80 → Bytes m → Fits (statement_of m)
read_fits m long all = record {
  number = number_small 4 4 m all;
  round = number_small 8 4 m all;
  place = number_small 12 4 m all;
  operation = operation_long m long;
  answer = number_small 32 8 m all;
  nonce = number_small 40 8 m all;
}

-- Empty slots and filed replies -------------------------------------------------------------------------------------

nothing_filed : (i : ℕ) → (slot_at empty_slots.at i).filed ≡ None
nothing_filed i =
    elim (cases_lt i 16) [
      | inl less ↦ ap (λ (s : Slot). s.filed) (get_or-replicate 16 i no_reply no_reply less)
      | inr past ↦ ap (λ (s : Slot). s.filed) (get_or_past empty_slots.at i no_reply past)
    ]

none_some : (o : Option Record) (r : Record) → o ≡ None → o ≡ Some r → ⊥
none_some o r a b = let z : ◌≡◌ {A = ℕ} 0 1 = cc in omega arith

-- What stands in a slot after filing is the new reply in its signer's slot, or what stood there.
filed_or_before
    : (slots : List Slot) (reply : Record) (i : ℕ) (x : Record)
    → (slot_at (filed_in slots reply) i).filed ≡ Some x
    → ((x ≡ reply) × (i ≡ reply.statement.signer)) ⊎ ((slot_at slots i).filed ≡ Some x)
filed_or_before slots reply i x =
    let site = reply.statement.signer in
    let P : List Slot → Type 0 = λ after. (slot_at after i).filed ≡ Some x → ((x ≡ reply) × (i ≡ site)) ⊎ ((slot_at slots i).filed ≡ Some x) in
    cond_both (later_slot (holding reply) (slot_at slots site)) (set slots site (holding reply)) slots P
    (λ _ e. elim (cases_eq i site) [
      | inl same ↦ elim (cases_lt site (length slots)) [
        | inl less ↦ (
            let there : slot_at (set slots site (holding reply)) i ≡ holding reply = ap (λ (k : ℕ). slot_at (set slots site (holding reply)) k) same ∙ get_or-set_same slots site (holding reply) no_reply less in
            let some : Some reply ≡ Some x = sym (ap (λ (s : Slot). s.filed) there) ∙ e in
            let equal : x ≡ reply = cc in
            inl (equal, same))
        | inr past ↦ inr (ap (λ (l : List Slot). (slot_at l i).filed) (sym (set_past slots site (holding reply) past)) ∙ e)
      ]
      | inr other ↦ inr (ap (λ (s : Slot). s.filed) (sym (get_or-set_other slots site i (holding reply) no_reply other)) ∙ e)
    ])
    (λ _ e. inr e)

module _ (f client : ℕ) (accepts : List ℕ → Bool) where
  -- A good reply stays good while what it replies to stays open.
  still_good
      : (desk after : Desk) (i : ℕ) (reply : Record)
      → standing client desk reply.statement ≡ standing client after reply.statement
      → Good f client accepts desk i reply
      → Good f client accepts after i reply
  still_good desk after i reply same good = record {
    signer = good.signer;
    ranged = good.ranged;
    like = sym same ∙ good.like;
    fits = good.fits;
    sealed = good.sealed;
    vouched = good.vouched;
  }

  -- A reply to a write stands to the write.
  not_reading : (s : Statement) → is_write_reply s ≡ true → is_read_answer s ≡ false
  not_reading s e =
      elim (or_cases (is_grant s) (is_answer s) e) [
        | inl grant ↦ ap (λ (k : ℕ). eqb k 5) (eqb-true s.kind 2 grant)
        | inr answer ↦ ap (λ (k : ℕ). eqb k 5) (eqb-true s.kind 4 answer)
      ]

  pub beside_the_write : (desk : Desk) (s : Statement) → is_write_reply s ≡ true → standing client desk s ≡ beside_write client desk.write s
  beside_the_write desk s e = ap (λ (b : Bool). cond b (beside_question client desk.question s) (beside_write client desk.write s)) (not_reading s e)

  pub beside_the_question : (desk : Desk) (s : Statement) → is_read_answer s ≡ true → standing client desk s ≡ beside_question client desk.question s
  beside_the_question desk s e = ap (λ (b : Bool). cond b (beside_question client desk.question s) (beside_write client desk.write s)) e

  -- Slots with nothing in them.
  empty_filed : (desk : Desk) (wanted : Statement → Bool) → Filed f client accepts desk wanted empty_slots.at
  empty_filed desk wanted i reply e = absurd (none_some (slot_at empty_slots.at i).filed reply (nothing_filed i) e)

  -- The replies to a write, where the write stays open; those to a question, where the question does.
  write_kept : (desk after : Desk) (slots : List Slot) → desk.write ≡ after.write → Filed f client accepts desk is_write_reply slots → Filed f client accepts after is_write_reply slots
  write_kept desk after slots same filed i reply e =
      let s = reply.statement in
      let known = filed i reply e in (
        known.0,
        still_good desk after i reply (beside_the_write desk s known.0 ∙ ap (λ (w : Option Write). beside_write client w s) same ∙ sym (beside_the_write after s known.0)) known.1,
      )

  question_kept : (desk after : Desk) (slots : List Slot) → desk.question ≡ after.question → Filed f client accepts desk is_read_answer slots → Filed f client accepts after is_read_answer slots
  question_kept desk after slots same filed i reply e =
      let s = reply.statement in
      let known = filed i reply e in (
        known.0,
        still_good desk after i reply (beside_the_question desk s known.0 ∙ ap (λ (q : Option Question). beside_question client q s) same ∙ sym (beside_the_question after s known.0)) known.1,
      )

  pub clear_sound : (last : ℕ) → Sound f client accepts (clear_desk last)
  clear_sound last = record { replies = empty_filed (clear_desk last) is_write_reply; readings = empty_filed (clear_desk last) is_read_answer }

  -- With no write open nothing is filed for one.
  unasked : (desk : Desk) → desk.write ≡ None → Sound f client accepts desk → (i : ℕ) (reply : Record) → (slot_at desk.replies.at i).filed ≡ Some reply → ⊥
  unasked desk none sound i reply e =
      let known = sound.replies i reply e in
      let s = reply.statement in
      let clash : Like ≡ Unasked = sym known.1.like ∙ beside_the_write desk s known.0 ∙ ap (λ (w : Option Write). beside_write client w s) none in
      let z : ◌≡◌ {A = ℕ} 0 1 = cc in omega arith

  pub write_sound : (desk : Desk) (operation : List ℕ) (number : ℕ) → desk.write ≡ None → Sound f client accepts desk → Sound f client accepts (with_write desk operation number)
  write_sound desk operation number none sound = record {
    replies = λ i reply e. absurd (unasked desk none sound i reply e);
    readings = question_kept desk (with_write desk operation number) desk.readings.at refl sound.readings;
  }

  pub question_sound : (desk : Desk) (operation : List ℕ) (nonce : ℕ) → Sound f client accepts desk → Sound f client accepts (with_question desk operation nonce)
  question_sound desk operation nonce sound = record {
    replies = write_kept desk (with_question desk operation nonce) desk.replies.at refl sound.replies;
    readings = empty_filed (with_question desk operation nonce) is_read_answer;
  }

  pub ended_sound : (desk : Desk) → Sound f client accepts desk → Sound f client accepts (without_write desk)
  ended_sound desk sound = record {
    replies = empty_filed (without_write desk) is_write_reply;
    readings = question_kept desk (without_write desk) desk.readings.at refl sound.readings;
  }

  -- A good reply, filed.
  one_filed
      : (desk : Desk) (wanted : Statement → Bool) (slots : List Slot) (reply : Record)
      → wanted reply.statement ≡ true
      → Good f client accepts desk reply.statement.signer reply
      → Filed f client accepts desk wanted slots
      → Filed f client accepts desk wanted (filed_in slots reply)
  one_filed desk wanted slots reply fit good filed i x e =
      elim (filed_or_before slots reply i x e) [
        | inl (same, here) ↦ subst (λ (r : Record). (wanted r.statement ≡ true) × Good f client accepts desk i r) (sym same)
            (fit, subst (λ (k : ℕ). Good f client accepts desk k reply) (sym here) good)
        | inr before ↦ filed i x before
      ]

  reply_to_write : (s : Statement) → is_reply s ≡ true → is_read_answer s ≡ false → is_write_reply s ≡ true
  reply_to_write s e read =
      elim (or_cases (is_grant s) (is_answer s || is_read_answer s) e) [
        | inl grant ↦ or_left (is_grant s) (is_answer s) grant
        | inr other ↦ elim (or_cases (is_answer s) (is_read_answer s) other) [
          | inl answer ↦ or_right (is_grant s) (is_answer s) answer
          | inr reads ↦ absurd (both_ways (is_read_answer s) read reads)
        ]
      ]

  pub filed_sound
      : (desk : Desk) (reply : Record)
      → is_reply reply.statement ≡ true
      → Good f client accepts desk reply.statement.signer reply
      → Sound f client accepts desk
      → Sound f client accepts (filed_on desk reply)
  filed_sound desk reply fit good sound =
      let s = reply.statement in
      cond_both (is_read_answer s) (with_reading desk reply) (with_reply desk reply) (Sound f client accepts)
      (λ reads. record {
        replies = write_kept desk (with_reading desk reply) desk.replies.at refl sound.replies;
        readings = question_kept desk (with_reading desk reply) (filed_in desk.readings.at reply) refl (one_filed desk is_read_answer desk.readings.at reply reads good sound.readings);
      })
      (λ writes. record {
        replies = write_kept desk (with_reply desk reply) (filed_in desk.replies.at reply) refl (one_filed desk is_write_reply desk.replies.at reply (reply_to_write s fit writes) good sound.replies);
        readings = question_kept desk (with_reply desk reply) desk.readings.at refl sound.readings;
      })

  -- A reply that is read from a message of bytes is good where it passes.
  read_good
      : (desk : Desk) (m : List ℕ)
      → length m ≡ 80
      → Bytes m
      → in_range f (statement_of m) ≡ true
      → standing client desk (statement_of m) ≡ Like
      → accepts m ≡ true
      → Good f client accepts desk (statement_of m).signer (record_of m)
  read_good desk m long bytes ranged like yes' = record {
    signer = refl;
    ranged = ranged;
    like = like;
    fits = read_fits m long bytes;
    sealed = seal_long m long;
    vouched = ap accepts (read_then_written m long bytes) ∙ yes';
  }

  -- By how the reply stands to what is open.
  stood
      : (desk : Desk) (m : List ℕ) (how : Standing)
      → length m ≡ 80
      → Bytes m
      → is_reply (statement_of m) ≡ true
      → in_range f (statement_of m) ≡ true
      → standing client desk (statement_of m) ≡ how
      → Sound f client accepts desk
      → Sound f client accepts (desk_or desk (took client desk (vouched_as accepts m how)))
  stood desk m Unlike long bytes fit ranged e sound = sound
  stood desk m Unasked long bytes fit ranged e sound =
      cond_both (accepts m) (Ok m) (Err (Unvouched 0)) (λ (x : Result (List ℕ) CertificateFault). Sound f client accepts (desk_or desk (took client desk x)))
      (λ _. subst (λ (h : Standing). Sound f client accepts (desk_or desk (accepted_as desk (record_of m) h))) (sym e) sound)
      (λ _. sound)
  stood desk m Like long bytes fit ranged e sound =
      cond_both (accepts m) (Ok m) (Err (Unvouched 0)) (λ (x : Result (List ℕ) CertificateFault). Sound f client accepts (desk_or desk (took client desk x)))
      (λ good. subst (λ (h : Standing). Sound f client accepts (desk_or desk (accepted_as desk (record_of m) h))) (sym e)
      (filed_sound desk (record_of m) fit (read_good desk m long bytes ranged e good) sound))
      (λ _. sound)

  -- TAKE.
  pub taken_sound : (desk : Desk) (m : List ℕ) → Bytes m → Sound f client accepts desk → Sound f client accepts (desk_or desk (taken f client accepts desk m))
  taken_sound desk m bytes sound =
      let P : Result (List ℕ) MessageFault → Type 0 = λ x. Sound f client accepts (desk_or desk (took client desk (vouched_reply client accepts desk x))) in
      cond_both (whole m) _ (Err message.Length) P
      (λ _. cond_both (eqb (length m) 80) _ (Err message.Kind) P
      (λ long. cond_both (is_reply (statement_of m)) _ (Err message.Kind) P
      (λ fit. cond_both (in_range f (statement_of m)) (Ok m) (Err (message.Field 0)) P
      (λ ranged. stood desk m (standing client desk (statement_of m)) (eqb-true (length m) 80 long) bytes fit ranged refl sound)
      (λ _. sound))
      (λ _. sound))
      (λ _. sound))
      (λ _. sound)

  -- BEGIN.
  pub begun_sound : (desk : Desk) (operation : List ℕ) (write : Option Write) → desk.write ≡ write → Sound f client accepts desk → Sound f client accepts (if_begun desk operation (number_begun desk write))
  begun_sound desk operation (Some write) e sound = sound
  begun_sound desk operation None e sound =
      cond_both (eqb desk.last highest_number) (Err (fault.UsedUp 0)) (Ok (desk.last + 1)) (λ (r : Result ℕ SiteFault). Sound f client accepts (if_begun desk operation r))
      (λ _. sound)
      (λ _. write_sound desk operation (desk.last + 1) e sound)

  -- The desk is the one that is known to be sound.
  pub sound_as : (desk after : Desk) → after ≡ desk → Sound f client accepts desk → Sound f client accepts after
  sound_as desk after e sound = subst (Sound f client accepts) (sym e) sound

  -- SHORT changes nothing.
  pub short_sound
      : (desk : Desk) (room board : ℕ) (step : Result Desk SiteFault)
      → Sound f client accepts desk
      → Sound f client accepts (desk_or desk step)
      → Sound f client accepts (desk_or desk (fits_first room board step))
  short_sound desk room board step sound stepped =
      cond_both (buffers_fit room board) step (Err (fault.Certificate (Message Short))) (λ (r : Result Desk SiteFault). Sound f client accepts (desk_or desk r)) (λ _. stepped) (λ _. sound)
