-- The ledger and the object beside a list of writes: what a write adds, and what taking it back leaves.
use Rattle.std.proofs.Common.{◌≡◌, ℕ, suc, ◌*◌, ◌<◌, ◌≤◌, Bool, true, false, cond, eqb, List, [], ◌∷◌, length, get_or, take, set, Some, None, Option, unwrap_or, sym, refl, ap, ◌∙◌, subst, ⊎_elim, arith}
use Rattle.std.proofs.lemmas.List.{length-set, length-replicate, get_or-set_same, get_or-set_other, get_or-replicate, set-set, set-get_or, get_or_past}
use Rattle.std.proofs.lemmas.Bool.{cases_eq, cases_lt}
use Rattle.object.specs.Rules.{Rules, fit}
use Rattle.record.specs.Limits.{mark}
use Rattle.record.specs.declared.fields.Claim.{Claim as Claimed}
use Rattle.message.specs.Forms.{quorum}
use Rattle.protocol.specs.Book.{Begins, whole, more, due, next, play}
use Rattle.protocol.specs.Quorum.{Pool}
use Rattle.protocol.specs.Words.{Deed, Transcript}
use Rattle.site.specs.Ledgers.{kept_bytes, noted, current_client, taken_back, calls_back, Kept, calls, answer_to, performed, restored}
use Rattle.site.specs.Life.{then_did}
use Rattle.site.specs.Tables.{entry, no_entries}
use Rattle.site.specs.declared.state.Backup.{Backup}
use Rattle.site.specs.declared.state.Current.{Current}
use Rattle.site.specs.declared.state.Done.{Done}
use Rattle.site.specs.declared.state.Ledger.{Ledger}
use Rattle.site.proofs.Likeness.{told, all_told, Sized, SizedClaims, Repeatable, Latest, no_write, last_write, done_of, Ledgered, Replaced, BackedUp}
use Rattle.site.proofs.Telling.{still_wrote}

-- What one write is answered and leaves -------------------------------------------------------------------------

module _ (R : Rules) (k : Kept R) (c : Claimed) where
  pub same_answer : answer_to R k c ≡ due R k.value (told c)
  same_answer = by (eqb c.client mark) (fit R.highest c.operation)
    where
      by : (m n : Bool) → cond (cond m false n) (R.answer k.value c.client c.operation) (cond m 0 9999999) ≡ cond m 0 (cond n (R.answer k.value c.client c.operation) 9999999)
      by true true = refl
      by true false = refl
      by false true = refl
      by false false = refl

  pub same_value : (performed R k c).value ≡ next R k.value (told c)
  same_value = by (eqb c.client mark) (fit R.highest c.operation)
    where
      by : (m n : Bool) → (cond (cond m false n) (record { value = R.next k.value c.client c.operation; before = Some k.value }) k).value ≡ cond m k.value (cond n (R.next k.value c.client c.operation) k.value)
      by true true = refl
      by true false = refl
      by false true = refl
      by false false = refl

  pub same_before : calls R c ≡ true → (performed R k c).before ≡ Some k.value
  same_before e = ap (λ b. (cond b (record { value = R.next k.value c.client c.operation; before = Some k.value }) k).before) e

-- A write that did not call the object left its value.
pub value_stays : (R : Rules) (v : R.Value) (c : Claimed) → calls R c ≡ false → next R v (told c) ≡ v
value_stays R v c = by (eqb c.client mark) (fit R.highest c.operation)
  where
    by : (m n : Bool) → cond m false n ≡ false → cond m v (cond n (R.next v c.client c.operation) v) ≡ v
    by true n e = refl
    by false true e = grind arith
    by false false e = refl

-- The last-done table -------------------------------------------------------------------------------------------

module _ (R : Rules) (first : R.Value) where
  done_long : (cs : List Claimed) → length (done_of R first cs) ≡ 16
  done_long [] = length-replicate {A = Option Done} 16 None
  done_long (c ∷ cs) = length-set (done_of R first cs) c.client (Some (record { claim = c; answer = due R (play R first (all_told cs)) (told c) })) ∙ done_long cs

  abbrev newest : Claimed → List Claimed → Option Done
  newest c cs = Some (record { claim = c; answer = due R (play R first (all_told cs)) (told c) })

  -- An entry is of one of the writes, with the answer that was due to it.
  pub record DoneOnce (cs : List Claimed) (d : Done) : Type 0 where
    pub older : List Claimed
    pub there : Begins (told d.claim ∷ all_told older) (all_told cs)
    pub is_due : d.answer ≡ due R (play R first (all_told older)) (told d.claim)
    pub sized : Sized d.claim

  none_at : (k : ℕ) → entry {A = Done} no_entries k ≡ None
  none_at k =
      let long = length-replicate {A = Option Done} 16 None in
      ⊎_elim (λ l. get_or-replicate {A = Option Done} 16 k None None l) (λ l. get_or_past {X = Option Done} no_entries k None (omega arith)) (cases_lt k 16)

  later : {c : Claimed} {cs : List Claimed} {d : Done} → DoneOnce cs d → DoneOnce (c ∷ cs) d
  later h = record { older = h.older; there = more h.there; is_due = h.is_due; sized = h.sized }

  pub done_found : (cs : List Claimed) (k : ℕ) (d : Done) → SizedClaims cs → entry (done_of R first cs) k ≡ Some d → DoneOnce cs d
  done_found [] k d z e = let n = none_at k in grind arith
  done_found (c ∷ cs) k d z e = ⊎_elim (λ same. ⊎_elim (λ l. here same l) (λ l. past same l) (cases_lt k 16)) (other (λ h. done_found cs k d z.1 h)) (cases_eq k c.client)
    where
      here : k ≡ c.client → k < 16 → DoneOnce (c ∷ cs) d
      here same l =
          let long = done_long cs in
          let is : get_or (set (done_of R first cs) c.client (newest c cs)) c.client None ≡ newest c cs = get_or-set_same (done_of R first cs) c.client (newest c cs) None (omega arith) in
          let at : get_or (set (done_of R first cs) c.client (newest c cs)) k None ≡ newest c cs = ap (λ j. get_or (set (done_of R first cs) c.client (newest c cs)) j None) same ∙ is in
          let found : record { claim = c; answer = due R (play R first (all_told cs)) (told c) } ≡ d = cc in
          subst (DoneOnce (c ∷ cs)) found (record { older = cs; there = whole; is_due = refl; sized = z.0 })

      past : k ≡ c.client → 16 ≤ k → DoneOnce (c ∷ cs) d
      past same l =
          let long = done_long (c ∷ cs) in
          let none-there : get_or (done_of R first (c ∷ cs)) k None ≡ None = get_or_past (done_of R first (c ∷ cs)) k None (omega arith) in
          grind arith

      other : (entry (done_of R first cs) k ≡ Some d → DoneOnce cs d) → (k ≡ c.client → ⊥) → DoneOnce (c ∷ cs) d
      other found n = later (found (sym (get_or-set_other (done_of R first cs) c.client k (newest c cs) None n) ∙ e))

-- What stays as the transcript grows ----------------------------------------------------------------------------

module _ (pool : Pool) (s x : ℕ) (ds : List Deed) {T : Transcript} where
  pub still_latest : {cs : List Claimed} {o : Option Current} → Latest pool s T cs o → Latest pool s (then_did x ds T) cs o
  still_latest no_write = no_write
  still_latest (last_write h) = last_write (λ i w l e o. still_wrote x ds (h i w l e o))

module _ (pool : Pool) (R : Rules) (first : R.Value) (s x : ℕ) (ds : List Deed) (T : Transcript) where
  pub still_ledgered : {cs : List Claimed} {l : Ledger} {k : Kept R} → Ledgered pool R first s T cs l k → Ledgered pool R first s (then_did x ds T) cs l k
  still_ledgered h = record { place = h.place; short = h.short; current = still_latest pool s x ds h.current; done = h.done; value = h.value; sized = h.sized }

  pub still_backed : (cs : List Claimed) (b : Option Backup) (v : Option R.Value) → BackedUp pool R first s T cs b v → BackedUp pool R first s (then_did x ds T) cs b v
  still_backed [] b v h = h
  still_backed (c ∷ cs) b v h = record { old = h.old; kept = h.kept; current = still_latest pool s x ds h.current; before_it = h.before_it }

-- One write more, and one taken back ----------------------------------------------------------------------------

module _ (pool : Pool) (R : Rules) (first : R.Value) (s : ℕ) (T : Transcript) where
  pub noted_ledger : (cs : List Claimed) (l : Ledger) (k : Kept R) (c : Claimed) (bytes : List ℕ) → Ledgered pool R first s T cs l k → Sized c → c.place ≡ suc (length cs) →
      Repeatable s T (take (80 * quorum pool.f) (kept_bytes bytes)) →
      Ledgered pool R first s T (c ∷ cs) (noted l c bytes (answer_to R k c) (calls R c)) (performed R k c)
  noted_ledger cs l k c bytes h z p r =
      let same : answer_to R k c ≡ due R (play R first (all_told cs)) (told c) = same_answer R k c ∙ ap (λ v. due R v (told c)) h.value in
      record {
        place = p;
        short = omega (arith, z.place, p);
        current = last_write r;
        done = ap (λ t. set t c.client (Some (record { claim = c; answer = answer_to R k c }))) h.done
            ∙ ap (λ a. set (done_of R first cs) c.client (Some (record { claim = c; answer = a }))) same;
        value = same_value R k c ∙ ap (λ v. next R v (told c)) h.value;
        sized = (z, h.sized);
      }

  pub noted_backup : (cs : List Claimed) (l : Ledger) (k : Kept R) (c : Claimed) (bytes : List ℕ) (a : ℕ) → Ledgered pool R first s T cs l k →
      BackedUp pool R first s T (c ∷ cs) (noted l c bytes a (calls R c)).backup (performed R k c).before
  noted_backup cs l k c bytes a h = record {
    old = l.current;
    kept = ap (λ t. Some (record { current = l.current; entry = entry t c.client; called = calls R c })) h.done;
    current = h.current;
    before_it = λ e. same_before R k c e ∙ ap Some h.value;
  }

  -- Taking the last write back restores what it replaced.
  pub struck_ledger : (c : Claimed) (cs : List Claimed) (l : Ledger) (k : Kept R) → Ledgered pool R first s T (c ∷ cs) l k → Replaced pool R first s T c cs l.backup k.before →
      Ledgered pool R first s T cs (taken_back l l.backup) (restored R k (calls_back l.backup))
  struck_ledger c cs l k h b =
      subst (λ o. Ledgered pool R first s T cs (taken_back l o) (restored R k (calls_back o))) (sym b.kept) (record {
        place = omega (arith, h.place);
        short = omega (arith, h.short);
        current = b.current;
        done = ap (λ j. set l.done j (entry (done_of R first cs) c.client)) (whose l.current h.current)
            ∙ ap (λ t. set t c.client (entry (done_of R first cs) c.client)) h.done
            ∙ set-set (done_of R first cs) c.client (newest R first c cs) (entry (done_of R first cs) c.client)
            ∙ set-get_or (done_of R first cs) c.client None;
        value = valued (calls R c) refl;
        sized = h.sized.1;
      })
    where
      whose : (o : Option Current) → Latest pool s T (c ∷ cs) o → current_client o ≡ c.client
      whose o (last_write r) = refl

      valued : (called : Bool) → calls R c ≡ called → (restored R k called).value ≡ play R first (all_told cs)
      valued true e = ap (λ x. unwrap_or x k.value) (b.before_it e)
      valued false e = h.value ∙ value_stays R (play R first (all_told cs)) c e
