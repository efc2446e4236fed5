-- READ, the two SHOWs, and the repeated START are moves that leave the state as it is.
use Rattle.std.proofs.Common.{◌≡◌, ℕ, zero, suc, ◌%◌, ◌^◌, ◌<◌, ◌≤◌, eqb, ◌⊎◌, List, [], ◌∷◌, ◌++◌, length, take, drop, Some, None, Ok, Option, sym, refl, ap, ◌∙◌, subst, inl, inr, ⊎_elim, arith}
use mathlib.Core.Option.{Option as Maybe, none, some}
use Rattle.std.proofs.lemmas.List.{take_at}
use Rattle.std.proofs.lemmas.Bool.{cond_both, eqb-true}
use Rattle.object.specs.Rules.{Rules}
use Rattle.message.specs.Records.{records, statement_at}
use Rattle.record.specs.Claims.{grant, start}
use Rattle.record.specs.Limits.{highest_round}
use Rattle.record.specs.declared.fields.Claim.{Claim as Claimed}
use Rattle.record.specs.declared.fields.Statement.{Statement}
use Rattle.protocol.specs.Book.{Begins, play}
use Rattle.protocol.specs.Moves as moves
use Rattle.protocol.specs.Moves.{Site, standing, pulling, settling, frozen, writes_in, last_round, Says, shows, repeats_start, reads, repeats, History, own, Shown}
use Rattle.protocol.specs.Quorum.{Pool}
use Rattle.protocol.specs.Words as words
use Rattle.protocol.specs.Words.{Claim, Question, Word, Deed, Transcript}
use Rattle.site.specs.Call.{certificate_bytes}
use Rattle.site.specs.Ledgers.{Kept}
use Rattle.site.specs.Life.{word_of, question_in, own_words, one_more, then_did}
use Rattle.site.specs.OneBook.{in_records}
use Rattle.site.specs.Rules.{current_round, current_place, grant_shown, cert_shown, looked}
use Rattle.site.specs.Settling.{settled_at, or_out}
use Rattle.site.specs.declared.reply.Reply.TheVariants.{Says as Saying}
use Rattle.site.specs.declared.state.Current.{Current}
use Rattle.site.specs.declared.state.Settlement.{Settlement}
use Rattle.site.specs.declared.state.State.{State}
use Rattle.site.proofs.Asking.{grant_fits, start_fits, told_long}
use Rattle.site.proofs.Going.{still_like, Goes, stays, Fine, by_one}
use Rattle.site.proofs.Likeness.{told, all_told, Sized, SizedClaims, Settled, unsettled, by_settlement, Out, no_out, an_out, Repeatable, Latest, no_write, last_write, Ledgered, Like, like_open, like_frozen, like_pulling, like_settling}
use Rattle.site.proofs.Settlements.{settled_found}
use Rattle.site.proofs.Telling.{still_wrote}

-- The grant that a site shows -----------------------------------------------------------------------------------

pub record Granted (g : List Claim) (o : Maybe Claim) (c : Claimed) : Type 0 where
  pub sized : Sized c
  pub how : (o ≡ some (told c)) ⊎ ((rest : List Claim) × Begins (told c ∷ rest) g)

module _ (v place : ℕ) (c : Claimed) (lv : v ≤ highest_round) (lp : place < 2 ^ 32) where
  from_settlement : (S : Option Settlement) (g : List Claim) (o : Maybe Claim) → Settled v S g → settled_at S v place ≡ Some c → Granted g o c
  from_settlement S g o unsettled e = grind arith
  from_settlement S g o (by_settlement T z) e = let k = settled_found T v place c z lv lp e in record { sized = k.sized; how = inr (k.rest, k.there) }

  from_out : (g : List Claim) {out : Option Claimed} {o : Maybe Claim} → Out out o → or_out None out place ≡ Some c → Granted g o c
  from_out g no_out = λ e. grind arith
  from_out g (an_out d z) =
      cond_both (eqb d.place place) (Some d) None (λ x. x ≡ Some c → Granted g (some (told d)) c)
      (λ b e. let same : d ≡ c = cc in subst (Granted g (some (told d))) same (record { sized = z; how = inl refl })) (λ b e. grind arith)

  pub granted_shown : {S : Option Settlement} {g : List Claim} {out : Option Claimed} {o : Maybe Claim} → Settled v S g → Out out o → or_out (settled_at S v place) out place ≡ Some c → Granted g o c
  granted_shown {S} {g} {out} {o} x y e = from (settled_at S v place) refl e
    where
      from : (f : Option Claimed) → settled_at S v place ≡ f → or_out f out place ≡ Some c → Granted g o c
      from None i e = from_out g y e
      from (Some d) i e = let same : settled_at S v place ≡ Some c = i ∙ e in from_settlement S g o x same

module _ (pool : Pool) (R : Rules) (first : R.Value) (s : ℕ) (T : Transcript) (output : List ℕ) where
  -- What a state keeps of its writes.
  pub record Keeps (st : State) (k : Kept R) (a : Site) : Type 0 where
    pub cs : List Claimed
    pub ledgered : Ledgered pool R first s T cs st.ledger k
    pub same : writes_in a ≡ all_told cs

  pub keeps : {st : State} {k : Kept R} {a : Site} → Like pool R first s T st k a → Keeps st k a
  keeps (like_open {cs = cs} h b o g v) = record { cs = cs; ledgered = h; same = refl }
  keeps (like_frozen {cs = cs} h b o g v) = record { cs = cs; ledgered = h; same = refl }
  keeps (like_pulling {cs = cs} h e z v) = record { cs = cs; ledgered = h; same = refl }
  keeps (like_settling {cs = cs} h e z v) = record { cs = cs; ledgered = h; same = refl }

  -- SHOW-GRANT ----------------------------------------------------------------------------------------------------

  grant_fine : {st : State} {k : Kept R} {a : Site} (x : Option Claimed) → Like pool R first s T st k a → ((c : Claimed) → x ≡ Some c → Sized c × Shown a (told c)) →
      Fine pool R first s words.said T a output (grant_shown s st x).state k (grant_shown s st x).reply
  grant_fine None like h = tt
  grant_fine (Some c) like h = by_one pool R first s words.said output (grant s c) (words.grant (told c)) (grant_fits s c (h c refl).0) refl refl (stays pool R first s (shows (h c refl).1) like)

  pub show_grant_fine : {st : State} {k : Kept R} {a : Site} (place : ℕ) → place < 2 ^ 32 → Like pool R first s T st k a →
      Fine pool R first s words.said T a output (grant_shown s st (or_out (settled_at st.settlement st.round place) st.asked.out place)).state k
      (grant_shown s st (or_out (settled_at st.settlement st.round place) st.asked.out place)).reply
  show_grant_fine place lp (like_open {v = v} {out = out} {S = S} h b o g lv) =
      grant_fine (or_out (settled_at S v place) out place) (like_open h b o g lv) (λ c e. let r = granted_shown v place c lv lp g o e in (r.sized, r.how))
  show_grant_fine place lp (like_frozen {v = v} {out = out} {S = S} h b o g lv) =
      grant_fine (or_out (settled_at S v place) out place) (like_frozen h b o g lv) (λ c e. let r = granted_shown v place c lv lp g o e in (r.sized, r.how))
  show_grant_fine place lp (like_pulling h e z lv) = tt
  show_grant_fine place lp (like_settling {v = v} {S = S} h e z lv) =
      grant_fine (or_out (settled_at (Some S) v place) None place) (like_settling {S = S} h e z lv)
      (λ c i. let r = granted_shown v place c lv lp (by_settlement S z) no_out i in (r.sized, ⊎_elim (λ (n : none ≡ some (told c)). grind arith) (λ q. q) r.how))

  -- READ ----------------------------------------------------------------------------------------------------------

  last_read : {cs : List Claimed} {o : Option Current} → Latest pool s T cs o → SizedClaims cs →
      (current_round o ≡ last_round (all_told cs)) × (current_place o ≡ moves.last_place (all_told cs)) × (current_round o < 2 ^ 32) × (current_place o < 2 ^ 32)
  last_read no_write z = (refl, refl, omega arith, omega arith)
  last_read (last_write r) z = (refl, refl, z.0.round, z.0.place)

  pub read_fine : {st : State} {k : Kept R} {a : Site} (q : Statement) → q.nonce < 2 ^ 64 → length q.operation ≡ 16 → Like pool R first s T st k a →
      Fine pool R first s words.said T a output st k (Ok (Saying (looked R s st k q)))
  read_fine {st} {k} {a} q ln lo like =
      let h = keeps like in
      let l = h.ledgered in
      let n = last_read l.current l.sized in
      let r = current_round st.ledger.current in
      let p = current_place st.ledger.current in
      let x : Question = question_in q in
      let v : play R first (all_told h.cs) ≡ play R first (writes_in a) = ap (play R first) (sym h.same) in
      let er : r ≡ last_round (writes_in a) = n.0 ∙ ap last_round (sym h.same) in
      let ep : p ≡ moves.last_place (writes_in a) = n.1 ∙ ap moves.last_place (sym h.same) in
      let ea : R.look k.value q.operation % 2 ^ 64 ≡ R.look (play R first (writes_in a)) q.operation % 2 ^ 64 = ap (λ y. R.look y q.operation % 2 ^ 64) (l.value ∙ v) in
      let same : words.reading x r p (R.look k.value q.operation % 2 ^ 64) ≡ words.reading x (last_round (writes_in a)) (moves.last_place (writes_in a)) (R.look (play R first (writes_in a)) q.operation % 2 ^ 64) = cc in
      by_one pool R first s words.said output (looked R s st k q) (words.reading x r p (R.look k.value q.operation % 2 ^ 64))
      (record { number = omega arith; round = n.2; place = n.3; operation = lo; nonce = ln }) refl refl
      (subst (λ w. Goes pool R first s T a (words.said w ∷ []) st k) (sym same) (stays pool R first s reads like))

  -- The repeated START --------------------------------------------------------------------------------------------

  pub frozen_fine : {st : State} {k : Kept R} {v b : ℕ} (cs : List Claimed) {o : Maybe Claim} {g : List Claim} → Like pool R first s T st k (standing frozen v b (all_told cs) o g) →
      v < 2 ^ 32 → length cs < 2 ^ 32 → (p : ℕ) → p ≡ length cs →
      Fine pool R first s words.said T (standing frozen v b (all_told cs) o g) output st k (Ok (Saying (start s v p)))
  frozen_fine {st} {k} {v} {b} cs {o} {g} like lv lc p e =
      let n = told_long cs in
      let same : p ≡ length (all_told cs) = omega arith in
      by_one pool R first s words.said output (start s v p) (words.start v p) (start_fits s v p lv (omega arith)) refl refl
      (subst (λ q. Goes pool R first s T (standing frozen v b (all_told cs) o g) (words.said (words.start v q) ∷ []) st k) (sym same) (stays pool R first s repeats_start like))

  -- SHOW-CERT -----------------------------------------------------------------------------------------------------

  module _ {a : Site} (bytes : List ℕ) (own_before : Repeatable s T bytes) where
    one_again : (n : ℕ) → n < records bytes → (statement_at bytes n).signer ≡ s → (o : Maybe Word) → word_of (statement_at bytes n) ≡ o → (ds : List Deed) →
        History pool (in_records R) first s (then_did s ds T) a → History pool (in_records R) first s (then_did s (one_more words.said o ds) T) a
    one_again n l e none i ds h = h
    one_again n l e (some w) i ds h = own h (moves.says (repeats (still_wrote s ds (own_before n w l e i))))

    all_again : (n : ℕ) → n ≤ records bytes → History pool (in_records R) first s T a → History pool (in_records R) first s (then_did s (own_words words.said s bytes n) T) a
    all_again zero l h = h
    all_again (suc n) l h =
        cond_both (eqb (statement_at bytes n).signer s) (one_more words.said (word_of (statement_at bytes n)) (own_words words.said s bytes n)) (own_words words.said s bytes n)
        (λ ds. History pool (in_records R) first s (then_did s ds T) a)
        (λ b. one_again n (omega arith) (eqb-true _ _ b) (word_of (statement_at bytes n)) refl (own_words words.said s bytes n) (all_again n (omega arith) h))
        (λ b. all_again n (omega arith) h)

  repeatable : {cs : List Claimed} {o : Option Current} → Latest pool s T cs o → Repeatable s T (certificate_bytes pool.f o)
  repeatable no_write i w l e o = absurd (no_records l)
    where
      no_records : i < 0 → ⊥
      no_records l = omega arith
  repeatable (last_write r) i w l e o = r i w l e o

  pub show_cert_fine : {st : State} {k : Kept R} {a : Site} → Like pool R first s T st k a → Fine pool R first s words.said T a output (cert_shown st st.ledger.current).state k (cert_shown st st.ledger.current).reply
  show_cert_fine {st} {k} {a} like = from st.ledger.current refl
    where
      from : (c : Option Current) → st.ledger.current ≡ c → Fine pool R first s words.said T a output (cert_shown st c).state k (cert_shown st c).reply
      from None e = tt
      from (Some c) e =
          let b = certificate_bytes pool.f st.ledger.current in
          let cut : take (length b) (b ++ drop (length b) output) ≡ b = take_at b (drop (length b) output) (length b) refl in
          subst (λ x. Goes pool R first s T a (own_words words.said s x (records x)) st k) (sym cut)
          (record { new = a; history = all_again b (repeatable (keeps like).ledgered.current) (records b) (omega arith); like = still_like pool R first s s (own_words words.said s b (records b)) like })
