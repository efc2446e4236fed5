-- The tests of the forms, and what the records of a message are.
use Rattle.std.proofs.Common.{◌≡◌, ℕ, ◌+◌, ◌-◌, ◌<◌, ◌≤◌, Bool, true, false, cond, ◌&&◌, eqb, leb, ◌⊎◌, List, Some, None, Option, sym, refl, ap, ◌∙◌, subst, inl, inr, ⊎_elim, arith}
use Rattle.std.proofs.lemmas.Bool.{eqb-true, eq-eqb, ne_eqb, leb-true, le-leb, and_parts, and_from, and_left, and_right, cond-true, cond-false, cases_Bool}
use Rattle.record.specs.Kinds.{kind_number}
use Rattle.record.specs.declared.kind.Kind.{Kind}
use Rattle.record.specs.declared.kind.Kind.TheVariants.{Request, Grant, Question, Start, ShowGrant, ShowCert}
use Rattle.message.proofs.OneKind.{all_unroll, kinds_from, from_kinds}
use Rattle.message.specs.Forms.{quorum, is_kind, all_kind, lone, ends_in_requests, write_2_form, resolve_form, bare_round_form, full_round_form, lone_form_of, quorum_form_of, pool_form_of, or_form, form_of}
use Rattle.message.specs.Laws.{Kinds, HasForm, FormsTold}
use Rattle.message.specs.Records.{records, statement_at}
use Rattle.message.specs.declared.form.Form.{Form}
use Rattle.message.specs.declared.form.Form.TheVariants as shown
use Rattle.message.specs.declared.form.Form.TheVariants.{Write1, Read, Write2, Resolve, Round}

-- A record of one kind is of no other.
other_kind : (kind kind' : Kind) (m : List ℕ) (i : ℕ) → (statement_at m i).kind ≡ kind_number kind → (kind_number kind ≡ kind_number kind' → ⊥) → is_kind kind' m i ≡ false
other_kind kind kind' m i e ne = ne_eqb _ _ (λ e'. ne (sym e ∙ e'))

not_all : (kind kind' : Kind) (m : List ℕ) (i n : ℕ) → 0 < n → (statement_at m i).kind ≡ kind_number kind → (kind_number kind ≡ kind_number kind' → ⊥) → all_kind kind' m i n ≡ false
not_all kind kind' m i n some e ne = all_unroll kind' m i n some ∙ and_left _ _ (other_kind kind kind' m i e ne)

not_lone : (kind kind' : Kind) (m : List ℕ) → (statement_at m 0).kind ≡ kind_number kind → (kind_number kind ≡ kind_number kind' → ⊥) → lone kind' m ≡ false
not_lone kind kind' m e ne = and_right _ _ (other_kind kind kind' m 0 e ne)

lone_kinds : (kind : Kind) (m : List ℕ) → lone kind m ≡ true → (records m ≡ 1) × Kinds kind m 0 1
lone_kinds kind m e =
    let p = and_parts (eqb (records m) 1) (is_kind kind m 0) e in
    (eqb-true _ _ p.0, λ k from less. let z : k ≡ 0 = omega arith in ap (λ j. (statement_at m j).kind) z ∙ eqb-true _ _ p.1)

kinds_lone : (kind : Kind) (m : List ℕ) → (records m ≡ 1) × Kinds kind m 0 1 → lone kind m ≡ true
kinds_lone kind m h = and_from _ _ (eq-eqb _ _ h.0) (eq-eqb _ _ (h.1 0 (omega arith) (omega arith)))

-- A chain of tests gives a form where a test holds, or where the rest of the chain does.
chain : (b : Bool) (x form : Form) (rest : Option Form) → cond b (Some x) rest ≡ Some form → ((b ≡ true) × (x ≡ form)) ⊎ (rest ≡ Some form)
chain true x form rest e = inl (refl, cc)
chain false x form rest e = inr e

absurd_none : {X : Type 0} (form : Form) → ◌≡◌ {A = Option Form} None (Some form) → X
absurd_none form e = let z : ◌≡◌ {A = ℕ} 0 1 = cc in absurd (omega arith)

module _ (f : ℕ) (m : List ℕ) where
  at_form : (x form : Form) → x ≡ form → HasForm f m x → HasForm f m form
  at_form x form e h = subst (HasForm f m) e h

  lone_told : (form : Form) → lone_form_of m ≡ Some form → HasForm f m form
  lone_told form e =
      ⊎_elim (λ h. at_form Write1 form h.1 (lone_kinds Request m h.0))
      (λ e₁. ⊎_elim (λ h. at_form Read form h.1 (lone_kinds Question m h.0))
      (λ e₂. ⊎_elim (λ h. at_form shown.ShowGrant form h.1 (lone_kinds ShowGrant m h.0))
      (λ e₃. ⊎_elim (λ h. at_form shown.ShowCert form h.1 (lone_kinds ShowCert m h.0)) (absurd_none form)
      (chain (lone ShowCert m) shown.ShowCert form None e₃))
      (chain (lone ShowGrant m) shown.ShowGrant form _ e₂))
      (chain (lone Question m) Read form _ e₁))
      (chain (lone Request m) Write1 form _ e)

  module _ (few : f ≤ 5) where
    write_2_told : write_2_form (quorum f) m ≡ true → HasForm f m Write2
    write_2_told e =
        let p = and_parts (eqb (records m) (quorum f)) (all_kind Grant m 0 (quorum f)) e in
        let k = kinds_from Grant m 0 (quorum f) p.1 in
        (few, eqb-true _ _ p.0, λ i from less. k i from (omega arith))

    resolve_told : resolve_form (quorum f) m ≡ true → HasForm f m Resolve
    resolve_told e =
        let p = and_parts (eqb (records m) (quorum f + 1) && all_kind Grant m 0 (quorum f)) (is_kind Request m (quorum f)) e in
        let r = and_parts (eqb (records m) (quorum f + 1)) (all_kind Grant m 0 (quorum f)) p.0 in
        let k = kinds_from Grant m 0 (quorum f) r.1 in (
          few,
          eqb-true _ _ r.0,
          λ i from less. k i from (omega arith),
          λ i from less. let z : i ≡ quorum f = omega arith in ap (λ j. (statement_at m j).kind) z ∙ eqb-true _ _ p.1,
        )

    bare_told : bare_round_form (quorum f) m ≡ true → HasForm f m (Round 0 (records m - quorum f))
    bare_told e =
        let p = and_parts (leb (quorum f) (records m) && ends_in_requests m (quorum f)) (all_kind Start m 0 (quorum f)) e in
        let r = and_parts (leb (quorum f) (records m)) (ends_in_requests m (quorum f)) p.0 in
        let t = and_parts (leb (records m - quorum f) 16) (all_kind Request m (quorum f) (records m - quorum f)) r.1 in
        let long : quorum f ≤ records m = leb-true _ _ r.0 in
        let s = kinds_from Start m 0 (quorum f) p.1 in
        let k = kinds_from Request m (quorum f) (records m - quorum f) t.1 in (
          few,
          inl refl,
          leb-true _ _ t.0,
          omega arith,
          λ i from less. s i from (omega arith),
          λ i from less. absurd (omega arith),
          λ i from less. k i (omega arith) (omega arith),
        )

    full_told : full_round_form (quorum f) m ≡ true → HasForm f m (Round (quorum f) (records m - (quorum f + quorum f)))
    full_told e =
        let q = quorum f in
        let o = and_parts (leb (q + q) (records m) && ends_in_requests m (q + q) && all_kind Start m 0 q) (all_kind Grant m q q) e in
        let p = and_parts (leb (q + q) (records m) && ends_in_requests m (q + q)) (all_kind Start m 0 q) o.0 in
        let r = and_parts (leb (q + q) (records m)) (ends_in_requests m (q + q)) p.0 in
        let t = and_parts (leb (records m - (q + q)) 16) (all_kind Request m (q + q) (records m - (q + q))) r.1 in
        let long : q + q ≤ records m = leb-true _ _ r.0 in
        let s = kinds_from Start m 0 q p.1 in
        let g = kinds_from Grant m q q o.1 in
        let k = kinds_from Request m (q + q) (records m - (q + q)) t.1 in (
          few,
          inr refl,
          leb-true _ _ t.0,
          omega arith,
          λ i from less. s i from (omega arith),
          g,
          λ i from less. k i (omega arith) (omega arith),
        )

    quorum_told : (form : Form) → quorum_form_of (quorum f) m ≡ Some form → HasForm f m form
    quorum_told form e =
        ⊎_elim (λ h. at_form Write2 form h.1 (write_2_told h.0))
        (λ e₁. ⊎_elim (λ h. at_form Resolve form h.1 (resolve_told h.0))
        (λ e₂. ⊎_elim (λ h. at_form (Round 0 (records m - quorum f)) form h.1 (bare_told h.0))
        (λ e₃. ⊎_elim (λ h. at_form (Round (quorum f) (records m - (quorum f + quorum f))) form h.1 (full_told h.0)) (absurd_none form)
        (chain (full_round_form (quorum f) m) (Round (quorum f) (records m - (quorum f + quorum f))) form None e₃))
        (chain (bare_round_form (quorum f) m) (Round 0 (records m - quorum f)) form _ e₂))
        (chain (resolve_form (quorum f) m) Resolve form _ e₁))
        (chain (write_2_form (quorum f) m) Write2 form _ e)

  pool_told : (form : Form) → pool_form_of f m ≡ Some form → HasForm f m form
  pool_told form e =
      ⊎_elim
      (λ few. quorum_told (leb-true _ _ few) form (sym (cond-true (leb f 5) (quorum_form_of (quorum f) m) None few) ∙ e))
      (λ many. absurd_none form (sym (cond-false (leb f 5) (quorum_form_of (quorum f) m) None many) ∙ e))
      (cases_Bool (leb f 5))

  either_told : (o : Option Form) (form : Form) → lone_form_of m ≡ o → or_form o (pool_form_of f m) ≡ Some form → HasForm f m form
  either_told (Some x) form eo e = lone_told form (eo ∙ e)
  either_told None form eo e = pool_told form e

  pub told : (form : Form) → form_of f m ≡ Some form → HasForm f m form
  told form e = either_told (lone_form_of m) form refl e

  -- The other way: the tests of the forms before it fail, and its own holds.
  module _ (kind : Kind) (here : (statement_at m 0).kind ≡ kind_number kind) where
    no_lone : (kind_number kind ≡ kind_number Request → ⊥) → (kind_number kind ≡ kind_number Question → ⊥) → (kind_number kind ≡ kind_number ShowGrant → ⊥) → (kind_number kind ≡ kind_number ShowCert → ⊥)
        → lone_form_of m ≡ None
    no_lone a b c d =
        cond-false _ _ _ (not_lone kind Request m here a)
        ∙ cond-false _ _ _ (not_lone kind Question m here b)
        ∙ cond-false _ _ _ (not_lone kind ShowGrant m here c)
        ∙ cond-false _ _ _ (not_lone kind ShowCert m here d)

  by_lone : (form : Form) → lone_form_of m ≡ Some form → form_of f m ≡ Some form
  by_lone form e = ap (λ o. or_form o (pool_form_of f m)) e

  by_pool : (form : Form) → lone_form_of m ≡ None → f ≤ 5 → quorum_form_of (quorum f) m ≡ Some form → form_of f m ≡ Some form
  by_pool form none few e = ap (λ o. or_form o (pool_form_of f m)) none ∙ cond-true (leb f 5) (quorum_form_of (quorum f) m) None (le-leb _ _ few) ∙ e

  lone_first : (kind : Kind) → (records m ≡ 1) × Kinds kind m 0 1 → (statement_at m 0).kind ≡ kind_number kind
  lone_first kind h = h.1 0 (omega arith) (omega arith)

  back_write_1 : HasForm f m Write1 → form_of f m ≡ Some Write1
  back_write_1 h = by_lone Write1 (cond-true _ _ _ (kinds_lone Request m h))

  back_read : HasForm f m Read → form_of f m ≡ Some Read
  back_read h =
      let here : (statement_at m 0).kind ≡ 3 = lone_first Question h in
      by_lone Read (cond-false _ _ _ (not_lone Question Request m here (λ e. omega arith)) ∙ cond-true _ _ _ (kinds_lone Question m h))

  back_show_grant : HasForm f m shown.ShowGrant → form_of f m ≡ Some shown.ShowGrant
  back_show_grant h =
      let here : (statement_at m 0).kind ≡ 7 = lone_first ShowGrant h in
      by_lone shown.ShowGrant
      (cond-false _ _ _ (not_lone ShowGrant Request m here (λ e. omega arith))
      ∙ cond-false _ _ _ (not_lone ShowGrant Question m here (λ e. omega arith))
      ∙ cond-true _ _ _ (kinds_lone ShowGrant m h))

  back_show_cert : HasForm f m shown.ShowCert → form_of f m ≡ Some shown.ShowCert
  back_show_cert h =
      let here : (statement_at m 0).kind ≡ 8 = lone_first ShowCert h in
      by_lone shown.ShowCert
      (cond-false _ _ _ (not_lone ShowCert Request m here (λ e. omega arith))
      ∙ cond-false _ _ _ (not_lone ShowCert Question m here (λ e. omega arith))
      ∙ cond-false _ _ _ (not_lone ShowCert ShowGrant m here (λ e. omega arith))
      ∙ cond-true _ _ _ (kinds_lone ShowCert m h))

  back_write_2 : HasForm f m Write2 → form_of f m ≡ Some Write2
  back_write_2 h =
      let here : (statement_at m 0).kind ≡ 2 = h.2 0 (omega arith) (omega arith) in
      by_pool Write2 (no_lone Grant here (λ e. omega arith) (λ e. omega arith) (λ e. omega arith) (λ e. omega arith)) h.0
      (cond-true _ _ _ (and_from _ _ (eq-eqb _ _ h.1) (from_kinds Grant m 0 (quorum f) (λ k from less. h.2 k from (omega arith)))))

  back_resolve : HasForm f m Resolve → form_of f m ≡ Some Resolve
  back_resolve h =
      let here : (statement_at m 0).kind ≡ 2 = h.2 0 (omega arith) (omega arith) in
      let long : records m ≡ quorum f + 1 = h.1 in
      let longer : records m ≡ quorum f → ⊥ = λ e. omega arith in
      let not-write-2 : write_2_form (quorum f) m ≡ false = and_left (eqb (records m) (quorum f)) (all_kind Grant m 0 (quorum f)) (ne_eqb _ _ longer) in
      let grants : all_kind Grant m 0 (quorum f) ≡ true = from_kinds Grant m 0 (quorum f) (λ k from less. h.2 k from (omega arith)) in
      let request : is_kind Request m (quorum f) ≡ true = eq-eqb _ _ (h.3 (quorum f) (omega arith) (omega arith)) in
      let is-resolve : resolve_form (quorum f) m ≡ true = and_from _ _ (and_from _ _ (eq-eqb _ _ long) grants) request in
      by_pool Resolve (no_lone Grant here (λ e. omega arith) (λ e. omega arith) (λ e. omega arith) (λ e. omega arith)) h.0
      (cond-false (write_2_form (quorum f) m) (Some Write2) _ not-write-2 ∙ cond-true (resolve_form (quorum f) m) (Some Resolve) _ is-resolve)

  module _ (few : f ≤ 5) (starts : Kinds Start m 0 (quorum f)) where
    start_first : (statement_at m 0).kind ≡ 6
    start_first = starts 0 (omega arith) (omega arith)

    all_starts : all_kind Start m 0 (quorum f) ≡ true
    all_starts = from_kinds Start m 0 (quorum f) (λ k from less. starts k from (omega arith))

    not_grants : all_kind Grant m 0 (quorum f) ≡ false
    not_grants = not_all Start Grant m 0 (quorum f) (omega arith) start_first (λ e. omega arith)

    by_round : (form : Form) → cond (bare_round_form (quorum f) m) (Some (Round 0 (records m - quorum f))) (cond (full_round_form (quorum f) m) (Some (Round (quorum f) (records m - (quorum f + quorum f)))) None) ≡ Some form → form_of f m ≡ Some form
    by_round form e =
        let not-write-2 : write_2_form (quorum f) m ≡ false = and_right (eqb (records m) (quorum f)) (all_kind Grant m 0 (quorum f)) not_grants in
        let no-quorum : (eqb (records m) (quorum f + 1) && all_kind Grant m 0 (quorum f)) ≡ false = and_right (eqb (records m) (quorum f + 1)) (all_kind Grant m 0 (quorum f)) not_grants in
        let not-resolve : resolve_form (quorum f) m ≡ false = and_left (eqb (records m) (quorum f + 1) && all_kind Grant m 0 (quorum f)) (is_kind Request m (quorum f)) no-quorum in
        by_pool form (no_lone Start start_first (λ e. omega arith) (λ e. omega arith) (λ e. omega arith) (λ e. omega arith)) few
        (cond-false (write_2_form (quorum f) m) (Some Write2) _ not-write-2 ∙ cond-false (resolve_form (quorum f) m) (Some Resolve) _ not-resolve ∙ e)

    back_bare : (requests : ℕ) → requests ≤ 16 → records m ≡ quorum f + 0 + requests → Kinds Request m (quorum f + 0) (quorum f + 0 + requests) → form_of f m ≡ Some (Round 0 requests)
    back_bare requests most long kinds =
        let e : records m - quorum f ≡ requests = omega arith in
        let q = quorum f in
        let asked : all_kind Request m q (records m - q) ≡ true = from_kinds Request m q (records m - q) (λ k from less. kinds k (omega arith) (omega arith)) in
        let ends : ends_in_requests m q ≡ true = and_from (leb (records m - q) 16) (all_kind Request m q (records m - q)) (le-leb (records m - q) 16 (omega arith)) asked in
        let bare : bare_round_form q m ≡ true =
        and_from (leb q (records m) && ends_in_requests m q) (all_kind Start m 0 q) (and_from (leb q (records m)) (ends_in_requests m q) (le-leb q (records m) (omega arith)) ends) all_starts in
        by_round (Round 0 requests) (cond-true (bare_round_form q m) (Some (Round 0 (records m - q))) _ bare ∙ ap (λ n. Some (Round 0 n)) e)

    back_full : (requests : ℕ) → requests ≤ 16 → records m ≡ quorum f + quorum f + requests → Kinds Grant m (quorum f) (quorum f + quorum f) → Kinds Request m (quorum f + quorum f) (quorum f + quorum f + requests) → form_of f m ≡ Some (Round (quorum f) requests)
    back_full requests most long grants kinds =
        let q = quorum f in
        let e : records m - (q + q) ≡ requests = omega arith in
        let grant : (statement_at m q).kind ≡ 2 = grants q (omega arith) (omega arith) in
        let not-asked : all_kind Request m q (records m - q) ≡ false = not_all Grant Request m q (records m - q) (omega arith) grant (λ e. omega arith) in
        let not-ends : ends_in_requests m q ≡ false = and_right (leb (records m - q) 16) (all_kind Request m q (records m - q)) not-asked in
        let not-bare : bare_round_form q m ≡ false =
        and_left (leb q (records m) && ends_in_requests m q) (all_kind Start m 0 q) (and_right (leb q (records m)) (ends_in_requests m q) not-ends) in
        let asked : all_kind Request m (q + q) (records m - (q + q)) ≡ true = from_kinds Request m (q + q) (records m - (q + q)) (λ k from less. kinds k (omega arith) (omega arith)) in
        let ends : ends_in_requests m (q + q) ≡ true = and_from (leb (records m - (q + q)) 16) (all_kind Request m (q + q) (records m - (q + q))) (le-leb (records m - (q + q)) 16 (omega arith)) asked in
        let opens : (leb (q + q) (records m) && ends_in_requests m (q + q)) ≡ true = and_from (leb (q + q) (records m)) (ends_in_requests m (q + q)) (le-leb (q + q) (records m) (omega arith)) ends in
        let full : full_round_form q m ≡ true =
        and_from (leb (q + q) (records m) && ends_in_requests m (q + q) && all_kind Start m 0 q) (all_kind Grant m q q)
        (and_from (leb (q + q) (records m) && ends_in_requests m (q + q)) (all_kind Start m 0 q) opens all_starts)
        (from_kinds Grant m q q grants) in
        by_round (Round q requests)
        (cond-false (bare_round_form q m) (Some (Round 0 (records m - q))) _ not-bare
        ∙ cond-true (full_round_form q m) (Some (Round q (records m - (q + q)))) None full
        ∙ ap (λ n. Some (Round q n)) e)

  back_round : (grants requests : ℕ) → HasForm f m (Round grants requests) → form_of f m ≡ Some (Round grants requests)
  back_round grants requests h =
      ⊎_elim
      (λ none.
      let long : records m ≡ quorum f + 0 + requests = h.3 ∙ ap (λ n. quorum f + n + requests) none in
      back_bare h.0 h.4 requests h.2 long (subst (λ n. Kinds Request m (quorum f + n) (quorum f + n + requests)) none h.6) ∙ ap (λ n. Some (Round n requests)) (sym none))
      (λ all.
      let long : records m ≡ quorum f + quorum f + requests = h.3 ∙ ap (λ n. quorum f + n + requests) all in
      back_full h.0 h.4 requests h.2 long
      (subst (λ n. Kinds Grant m (quorum f) (quorum f + n)) all h.5)
      (subst (λ n. Kinds Request m (quorum f + n) (quorum f + n + requests)) all h.6)
      ∙ ap (λ n. Some (Round n requests)) (sym all))
      h.1

  pub told_back : (form : Form) → HasForm f m form → form_of f m ≡ Some form
  told_back Write1 h = back_write_1 h
  told_back Read h = back_read h
  told_back Write2 h = back_write_2 h
  told_back Resolve h = back_resolve h
  told_back (Round grants requests) h = back_round grants requests h
  told_back shown.ShowGrant h = back_show_grant h
  told_back shown.ShowCert h = back_show_cert h

  -- A message has one form at most.
  pub one_form : (a b : Form) → HasForm f m a → HasForm f m b → a ≡ b
  one_form a b ha hb =
      let e : ◌≡◌ {A = Option Form} (Some a) (Some b) = sym (told_back a ha) ∙ told_back b hb in cc

pub forms_told : FormsTold
forms_told f m form = (told f m form, told_back f m form)
