-- A WRITE-2 is a move: the stored ANSWER, or a certified write at the next place.
use Rattle.std.proofs.Common.{◌≡◌, ℕ, suc, ◌*◌, ◌%◌, ◌^◌, eqb, List, [], ◌∷◌, length, take, Some, None, Ok, Err, Option, Result, sym, refl, ap, ◌∙◌, subst, arith}
use mathlib.Core.Option.{none}
use Rattle.std.proofs.lemmas.Bool.{cond_both, ltb-false, eqb-true, eqb-false}
use Rattle.object.specs.Rules.{Rules}
use Rattle.message.specs.Forms.{quorum}
use Rattle.message.specs.declared.faults.SiteFault.{SiteFault}
use Rattle.record.specs.Claims.{answer}
use Rattle.record.specs.declared.fields.Claim.{Claim as Claimed}
use Rattle.record.specs.declared.fields.Statement.{Statement}
use Rattle.protocol.specs.Book.{Begins, Certified, due, play}
use Rattle.protocol.specs.Moves.{Site, standing, pulling, settling, opened, answers_again, writes_open, pulls, pulls_last, settles, settles_last, writes_in}
use Rattle.protocol.specs.Quorum.{Pool}
use Rattle.protocol.specs.Words as words
use Rattle.protocol.specs.Words.{Claim, Word, Deed, Transcript}
use Rattle.site.specs.Answers.{stored, placed}
use Rattle.site.specs.Ledgers.{kept_bytes, noted, Kept, calls, answer_to, performed}
use Rattle.site.specs.Life.{as_answered, then_did}
use Rattle.site.specs.OneBook.{in_records}
use Rattle.site.specs.Rules.{nobody_asked, moved, done, if_placed, if_fresh, written, write_2_in, settlement_of}
use Rattle.site.specs.Settling.{last_place}
use Rattle.site.specs.Tables.{entry}
use Rattle.site.specs.declared.reply.Then.{Then}
use Rattle.site.specs.declared.reply.Then.TheVariants.{Stay, Settle, Opens}
use Rattle.site.specs.declared.state.Ledger.{Ledger}
use Rattle.site.specs.declared.state.Stage.TheVariants.{Pulling, Settling}
use Rattle.site.specs.declared.state.State.{State}
use Rattle.site.proofs.Asking.{again, answer_fits, stored_some, told_long}
use Rattle.site.proofs.Going.{due_in_bytes, Goes, goes_by, stays, Fine, by_one}
use Rattle.site.proofs.Likeness.{told, all_told, Sized, Repeatable, Ledgered, BackedUp, settled_list, by_settlement, no_out, Like, like_open, like_frozen, like_pulling, like_settling}
use Rattle.site.proofs.Settlements.{sized_pending}
use Rattle.site.proofs.Settlements as settlements
use Rattle.site.proofs.Writes.{same_answer, noted_ledger, noted_backup, still_ledgered, still_backed}

-- A claim that is placed is of the round that is due and of the next place.
pub placed_at : (round place : ℕ) (c : Claimed) → placed round place c ≡ Ok tt → (c.round ≡ round) × (c.place ≡ suc place)
placed_at round place c e = grind (arith, ltb-false, eqb-true)

module _ (pool : Pool) (R : Rules) (first : R.Value) (s : ℕ) (T : Transcript) (output : List ℕ) where
  -- The deed of a new write after a list of writes.
  abbrev new_deed : List Claimed → Claimed → Deed
  new_deed cs c = words.answered (told c) (due (in_records R) (play R first (all_told cs)) (told c))

  module _ {st : State} {k : Kept R} {a : Site} (cs : List Claimed) (h : Ledgered pool R first s T cs st.ledger k) (same : writes_in a ≡ all_told cs)
      (like : Like pool R first s T st k a) (c : Claimed) (bytes : List ℕ) (z : Sized c) (round : ℕ) (next : Then)
      (finish : c.round ≡ round → c.place ≡ suc (length cs) → Goes pool R first s T a (new_deed cs c ∷ []) (moved st (noted st.ledger c bytes (answer_to R k c) (calls R c)) next) (performed R k c)) where
    done_fine : c.round ≡ round → c.place ≡ suc (length cs) → Fine pool R first s as_answered T a output (done R s st k c bytes next).state (done R s st k c bytes next).kept (done R s st k c bytes next).reply
    done_fine r p =
        let as-due : answer_to R k c % 2 ^ 64 ≡ due (in_records R) (play R first (all_told cs)) (told c) =
        ap (λ n. n % 2 ^ 64) (same_answer R k c ∙ ap (λ v. due R v (told c)) h.value) ∙ due_in_bytes R (play R first (all_told cs)) c in
        by_one pool R first s as_answered output (answer s c (answer_to R k c)) (words.answer (told c) (answer_to R k c % 2 ^ 64)) (answer_fits s c (answer_to R k c) z) refl refl
        (subst (λ n. Goes pool R first s T a (words.answered (told c) n ∷ []) (done R s st k c bytes next).state (done R s st k c bytes next).kept) (sym as-due) (finish r p))

    placed_fine : (x : Result (Unit {0}) SiteFault) → placed round st.ledger.place c ≡ x →
        Fine pool R first s as_answered T a output (if_placed R s st k c bytes next x).state (if_placed R s st k c bytes next x).kept (if_placed R s st k c bytes next x).reply
    placed_fine (Err fault) e = tt
    placed_fine (Ok t) e = let p = placed_at round st.ledger.place c e in done_fine p.0 (p.1 ∙ ap suc h.place)

    fresh_fine : (x : Result (Option Statement) SiteFault) → stored s (entry st.ledger.done c.client) c.number c.operation 0 ≡ x →
        Fine pool R first s as_answered T a output (if_fresh R s st k c bytes round next x).state (if_fresh R s st k c bytes round next x).kept (if_fresh R s st k c bytes round next x).reply
    fresh_fine (Err fault) e = tt
    fresh_fine (Ok (Some x)) e =
        again pool R first s T output as_answered cs st.ledger h (λ d w there. stays pool R first s (answers_again (subst (Begins (d ∷ w)) (sym same) there)) like) x c.client
        (stored_some s c.number 0 c.operation x (entry st.ledger.done c.client) e)
    fresh_fine (Ok None) e = placed_fine (placed round st.ledger.place c) refl

    written_fine : Fine pool R first s as_answered T a output (written R s st k c bytes round next).state (written R s st k c bytes round next).kept (written R s st k c bytes round next).reply
    written_fine = fresh_fine (stored s (entry st.ledger.done c.client) c.number c.operation 0) refl

  -- The ledger and the backup after the write, with its deed in the transcript.
  module _ (cs : List Claimed) (l : Ledger) (k : Kept R) (c : Claimed) (bytes : List ℕ) (h : Ledgered pool R first s T cs l k) (z : Sized c)
      (r : Repeatable s T (take (80 * quorum pool.f) (kept_bytes bytes))) (p : c.place ≡ suc (length cs)) where
    then_ledgered : Ledgered pool R first s (then_did s (new_deed cs c ∷ []) T) (c ∷ cs) (noted l c bytes (answer_to R k c) (calls R c)) (performed R k c)
    then_ledgered = still_ledgered pool R first s s (new_deed cs c ∷ []) T (noted_ledger pool R first s T cs l k c bytes h z p r)

    then_backed : BackedUp pool R first s (then_did s (new_deed cs c ∷ []) T) (c ∷ cs) (noted l c bytes (answer_to R k c) (calls R c)).backup (performed R k c).before
    then_backed = still_backed pool R first s s (new_deed cs c ∷ []) T (c ∷ cs) (noted l c bytes (answer_to R k c) (calls R c)).backup (performed R k c).before
        (noted_backup pool R first s T cs l k c bytes (answer_to R k c) h)

  pub write_2_fine : {st : State} {k : Kept R} {a : Site} (c : Claimed) (bytes : List ℕ) → Like pool R first s T st k a → Sized c → Certified pool T (told c) →
      Repeatable s T (take (80 * quorum pool.f) (kept_bytes bytes)) →
      Fine pool R first s as_answered T a output (write_2_in R s st k c bytes st.stage).state (write_2_in R s st k c bytes st.stage).kept (write_2_in R s st k c bytes st.stage).reply
  write_2_fine c bytes (like_open {v = v} {b = b} {cs = cs} {g = g} {l = l} {k = k} h back o x small) z q r =
      written_fine cs h refl (like_open h back o x small) c bytes z v Stay
      (λ er ep. goes_by pool R first s (standing opened v b (told c ∷ all_told cs) none g) (writes_open q er (let n = told_long cs in omega arith))
      (like_open (then_ledgered cs l k c bytes h z r ep) (then_backed cs l k c bytes h z r ep) no_out x small))
  write_2_fine c bytes (like_frozen h back o x small) z q r = tt
  write_2_fine c bytes (like_pulling {u = u} {v = v} {t = t} {cs = cs} {rs = rs} {l = l} {k = k} h low sized small) z q r =
      cond_both (eqb c.place t) Settle Stay (λ next. Fine pool R first s as_answered T (pulling u v t (all_told cs)) output
      (written R s (record { stage = Pulling u t rs; round = v; settlement = None; asked = nobody_asked; ledger = l }) k c bytes u next).state (written R s (record { stage = Pulling u t rs; round = v; settlement = None; asked = nobody_asked; ledger = l }) k c bytes u next).kept (written R s (record { stage = Pulling u t rs; round = v; settlement = None; asked = nobody_asked; ledger = l }) k c bytes u next).reply)
      (λ e. written_fine cs h refl like c bytes z u Settle
      (λ er ep. goes_by pool R first s (settling v t (told c ∷ all_told cs) (settled_list (settlement_of (noted l c bytes (answer_to R k c) (calls R c)) t rs) v))
      (pulls_last q er (let n = told_long cs in omega arith) (eqb-true _ _ e) (settlements.settles (settlement_of (noted l c bytes (answer_to R k c) (calls R c)) t rs) v))
      (like_settling {S = (settlement_of (noted l c bytes (answer_to R k c) (calls R c)) t rs)} (then_ledgered cs l k c bytes h z r ep) (let i = eqb-true c.place t e in omega arith) (sized_pending rs (noted l c bytes (answer_to R k c) (calls R c)).done sized) small)))
      (λ e. written_fine cs h refl like c bytes z u Stay
      (λ er ep. goes_by pool R first s (pulling u v t (told c ∷ all_told cs))
      (pulls q er (let n = told_long cs in omega arith) (let i = eqb-false c.place t e in omega arith))
      (like_pulling (then_ledgered cs l k c bytes h z r ep) (let i = eqb-false c.place t e in omega arith) sized small)))
    where
      like : Like pool R first s T (record { stage = Pulling u t rs; round = v; settlement = None; asked = nobody_asked; ledger = l }) k (pulling u v t (all_told cs))
      like = like_pulling h low sized small
  write_2_fine c bytes (like_settling {v = v} {cs = cs} {S = S} {l = l} {k = k} h low sized small) z q r =
      let long = settlements.settled_long S v in
      cond_both (eqb c.place (last_place S)) Opens Stay (λ next. Fine pool R first s as_answered T (settling v S.target (all_told cs) (settled_list S v)) output
      (written R s (record { stage = Settling (last_place S); round = v; settlement = Some S; asked = nobody_asked; ledger = l }) k c bytes v next).state (written R s (record { stage = Settling (last_place S); round = v; settlement = Some S; asked = nobody_asked; ledger = l }) k c bytes v next).kept (written R s (record { stage = Settling (last_place S); round = v; settlement = Some S; asked = nobody_asked; ledger = l }) k c bytes v next).reply)
      (λ e. written_fine cs h refl like c bytes z v Opens
      (λ er ep. goes_by pool R first s (standing opened v S.target (told c ∷ all_told cs) none (settled_list S v))
      (settles_last q er (let n = told_long cs in omega arith) (let i = eqb-true c.place (last_place S) e in omega arith))
      (like_open (then_ledgered cs l k c bytes h z r ep) (then_backed cs l k c bytes h z r ep) no_out (by_settlement S sized) small)))
      (λ e. written_fine cs h refl like c bytes z v Stay
      (λ er ep. goes_by pool R first s (settling v S.target (told c ∷ all_told cs) (settled_list S v))
      (settles q er (let n = told_long cs in omega arith) (let i = eqb-false c.place (last_place S) e in omega arith))
      (like_settling {S = S} (then_ledgered cs l k c bytes h z r ep) (let i = eqb-false c.place (last_place S) e in omega arith) sized small)))
    where
      like : Like pool R first s T (record { stage = Settling (last_place S); round = v; settlement = Some S; asked = nobody_asked; ledger = l }) k (settling v S.target (all_told cs) (settled_list S v))
      like = like_settling {S = S} h low sized small
