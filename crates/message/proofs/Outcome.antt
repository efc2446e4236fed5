-- All ten checks together: a message passes, or its first fault is named.
use Rattle.std.proofs.Common.{◌≡◌, ℕ, ◌+◌, ◌*◌, ◌%◌, ◌<◌, ◌≤◌, Bool, true, false, cond, not, ◌&&◌, eqb, leb, List, length, Some, None, Ok, Err, Option, Result, sym, refl, ap, ◌∙◌, subst, ⊎_elim, arith}
use Rattle.std.proofs.lemmas.Bool.{cases_lt, cases_Bool, cases_order, cond-true, cond-false, and_parts, and_from, leb-true, le-leb, eqb-true, eq-eqb, both_ways, not-true}
use Rattle.record.specs.Ranges.{in_range}
use Rattle.message.proofs.ByForm.{mixed_verdict, same_verdict, twice_verdict, vouched_verdict, low_verdict, order_verdict, ShownGood, ShownBad}
use Rattle.message.proofs.FormsTold.{told, told_back, one_form}
use Rattle.message.proofs.Found.{Lowest, some_lowest, found_or_never}
use Rattle.message.proofs.Read.{ranges}
use Rattle.message.proofs.Signers.{site_grant, site_start}
use Rattle.message.proofs.Verdicts.{Verdict, passed, refused}
use Rattle.message.specs.Checks.{buffers_fit, whole, first_outside, in_fields, known_form, read_form, after, clashing, certified, checks}
use Rattle.message.specs.Forms.{quorum, form_of}
use Rattle.message.specs.Laws.{signer_at, Fit, Whole, HasForm, Group, Agrees, IsOneClaim, Again, Sealed, Above, Unordered, Passed, AcceptedWhenPassed, AtRecord, Present, Before, FirstFaultNamed}
use Rattle.message.specs.Records.{records, record_at, statement_at}
use Rattle.message.specs.Refusals.{refusal_of_certificate}
use Rattle.message.specs.Said.{Said}
use Rattle.message.specs.Saying.{said_of}
use Rattle.message.specs.declared.faults.CertificateFault.{CertificateFault}
use Rattle.message.specs.declared.faults.CertificateFault.TheVariants.{Message, Mixed, Same, Twice, Unvouched, Low, Order}
use Rattle.message.specs.declared.faults.MessageFault.TheVariants.{Short, Length, Kind, Field}
use Rattle.message.specs.declared.form.Form.{Form}
use Rattle.message.specs.declared.form.Form.TheVariants.{Write1, Read, Write2, Resolve, Round, ShowGrant, ShowCert}

abbrev number : CertificateFault → ℕ
number fault = (refusal_of_certificate fault).number

abbrev index : CertificateFault → ℕ
index fault = (refusal_of_certificate fault).index

-- The fault of a check at an index.
abbrev fault_at : ℕ → ℕ → CertificateFault
fault_at n i =
    cond (eqb n 1) (Message Short)
    (cond (eqb n 2) (Message Length)
    (cond (eqb n 3) (Message Kind)
    (cond (eqb n 4) (Message (Field i))
    (cond (eqb n 5) (Mixed i)
    (cond (eqb n 6) Same (cond (eqb n 7) (Twice i) (cond (eqb n 8) (Unvouched i) (cond (eqb n 9) (Low i) (Order i)))))))))

fault_back : (fault : CertificateFault) → fault_at (number fault) (index fault) ≡ fault
fault_back (Message Short) = refl
fault_back (Message Length) = refl
fault_back (Message Kind) = refl
fault_back (Message (Field i)) = refl
fault_back (Mixed i) = refl
fault_back Same = refl
fault_back (Twice i) = refl
fault_back (Unvouched i) = refl
fault_back (Low i) = refl
fault_back (Order i) = refl

from_one : (fault : CertificateFault) → 1 ≤ number fault
from_one (Message Short) = omega arith
from_one (Message Length) = omega arith
from_one (Message Kind) = omega arith
from_one (Message (Field i)) = omega arith
from_one (Mixed i) = omega arith
from_one Same = omega arith
from_one (Twice i) = omega arith
from_one (Unvouched i) = omega arith
from_one (Low i) = omega arith
from_one (Order i) = omega arith

-- The groups of a form lie in the message.
group_within : (f : ℕ) (m : List ℕ) (form : Form) (first n : ℕ) → HasForm f m form → Group f form first n → first + n ≤ records m
group_within f m Write1 first n h g = absurd g
group_within f m Read first n h g = absurd g
group_within f m Write2 first n h g = let long : records m ≡ quorum f = h.1 in let a : first ≡ 0 = g.0 in let b : n ≡ quorum f = g.1 in omega arith
group_within f m Resolve first n h g = let long : records m ≡ quorum f + 1 = h.1 in let a : first ≡ 0 = g.0 in let b : n ≡ quorum f = g.1 in omega arith
group_within f m (Round grants requests) first n h g =
    let long : records m ≡ quorum f + grants + requests = h.3 in
    ⊎_elim (λ p. let a : first ≡ 0 = p.0 in let b : n ≡ quorum f = p.1 in omega arith) (λ p. let a : first ≡ quorum f = p.0 in let b : n ≡ grants = p.1 in omega arith) g
group_within f m ShowGrant first n h g = absurd g
group_within f m ShowCert first n h g = absurd g

-- Different signers, from no signer again.
different : (f : ℕ) (m : List ℕ) (form : Form) → HasForm f m form → ((i : ℕ) → i < records m → Again f m form i → ⊥)
    → (first n : ℕ) → Group f form first n → (i j : ℕ) → first ≤ i → i < first + n → first ≤ j → j < first + n → signer_at m i ≡ signer_at m j → i ≡ j
different f m form h never first n g i j fi li fj lj e =
    let within : first + n ≤ records m = group_within f m form first n h g in
    ⊎_elim (λ same. same)
    (λ apart. ⊎_elim
    (λ before. absurd (never j (omega arith) (first, n, g, lj, (i, fi, before, e))))
    (λ past. absurd (never i (omega arith) (first, n, g, li, (j, fj, past, sym e))))
    apart)
    (cases_order i j)

-- Signers of a group are sites.
sites : (f : ℕ) (m : List ℕ) (form : Form) → HasForm f m form → ((i : ℕ) → i < records m → in_range f (statement_at m i) ≡ true)
    → (first n : ℕ) → Group f form first n → (i : ℕ) → first ≤ i → i < first + n → signer_at m i < 3 * f + 1
sites f m Write1 h ok first n g i from less = absurd g
sites f m Read h ok first n g i from less = absurd g
sites f m Write2 h ok first n g i from less =
    let long : records m ≡ quorum f = h.1 in
    let a : first ≡ 0 = g.0 in
    let b : n ≡ quorum f = g.1 in
    site_grant f (statement_at m i) (ok i (omega arith)) (h.2 i (omega arith) (omega arith))
sites f m Resolve h ok first n g i from less =
    let long : records m ≡ quorum f + 1 = h.1 in
    let a : first ≡ 0 = g.0 in
    let b : n ≡ quorum f = g.1 in
    site_grant f (statement_at m i) (ok i (omega arith)) (h.2 i (omega arith) (omega arith))
sites f m (Round grants requests) h ok first n g i from less =
    let long : records m ≡ quorum f + grants + requests = h.3 in
    ⊎_elim
    (λ p. let a : first ≡ 0 = p.0 in let b : n ≡ quorum f = p.1 in site_start f (statement_at m i) (ok i (omega arith)) (h.4 i (omega arith) (omega arith)))
    (λ p. let a : first ≡ quorum f = p.0 in let b : n ≡ grants = p.1 in site_grant f (statement_at m i) (ok i (omega arith)) (h.5 i (omega arith) (omega arith)))
    g
sites f m ShowGrant h ok first n g i from less = absurd g
sites f m ShowCert h ok first n g i from less = absurd g

whole_is : (m : List ℕ) → whole m ≡ true → Whole m
whole_is m e =
    let p = and_parts (eqb (length m % 80) 0 && leb 1 (records m)) (leb (records m) 38) e in
    let r = and_parts (eqb (length m % 80) 0) (leb 1 (records m)) p.0 in
    let z : length m % 80 ≡ 0 = eqb-true _ _ r.0 in
    (leb-true _ _ r.1, leb-true _ _ p.1, omega arith)

is_whole : (m : List ℕ) → Whole m → whole m ≡ true
is_whole m w =
    let long : length m ≡ 80 * records m = w.2 in
    and_from (eqb (length m % 80) 0 && leb 1 (records m)) (leb (records m) 38)
    (and_from (eqb (length m % 80) 0) (leb 1 (records m)) (eq-eqb (length m % 80) 0 (omega arith)) (le-leb 1 (records m) w.0))
    (le-leb (records m) 38 w.1)

fit_is : (room board : ℕ) → buffers_fit room board ≡ true → Fit room board
fit_is room board e = let p = and_parts (leb 880 room) (eqb board 16) e in (leb-true _ _ p.0, eqb-true _ _ p.1)

is_fit : (room board : ℕ) → Fit room board → buffers_fit room board ≡ true
is_fit room board h = and_from (leb 880 room) (eqb board 16) (le-leb _ _ h.0) (eq-eqb _ _ h.1)

module _ (f : ℕ) (accepts : List ℕ → Bool) (m : List ℕ) (room board : ℕ) where
  abbrev There : CertificateFault → Type 0
  There fault = Present f accepts m room board fault

  -- No fault of a check below n is there.
  abbrev Clear : ℕ → Type 0
  Clear n = (other : CertificateFault) → number other < n → There other → ⊥

  clear_more : (n : ℕ) → Clear n → ((i : ℕ) → There (fault_at n i) → ⊥) → Clear (n + 1)
  clear_more n clear absent other less there =
      ⊎_elim (λ lower. clear other lower there)
      (λ high.
      let e : number other ≡ n = omega arith in
      absent (index other) (subst There (sym (fault_back other) ∙ ap (λ k. fault_at k (index other)) e) there))
      (cases_lt (number other) n)

  clear_none : Clear 1
  clear_none other less there = let from : 1 ≤ number other = from_one other in omega arith

  -- Nothing comes before a fault.
  abbrev First : CertificateFault → Type 0
  First fault = (other : CertificateFault) → Before other fault → There other → ⊥

  first_at : (n i : ℕ) (fault : CertificateFault) → number fault ≡ n → index fault ≡ i → Clear n → ((j : ℕ) → j < i → There (fault_at n j) → ⊥) → First fault
  first_at n i fault en ei clear lower other before there =
      ⊎_elim (λ less. clear other (omega arith) there)
      (λ same.
      let e : number other ≡ n = same.0 ∙ en in
      let less : index other < index fault = same.1 in
      lower (index other) (omega arith) (subst There (sym (fault_back other) ∙ ap (λ k. fault_at k (index other)) e) there))
      before

  data Outcome : Result Said CertificateFault → Type 0 where
    taken : Fit room board → Whole m → (form : Form) → Passed f accepts m form → Outcome (Ok (said_of f m form))
    named : (fault : CertificateFault) → There fault → First fault → Outcome (Err fault)

  module _ (form : Form) (h : HasForm f m form) where
    -- One check of each record, between those before and those after it.
    stage : (n : ℕ) (fault : ℕ → CertificateFault) (Good Bad : Form → ℕ → Type 0)
        → ((i : ℕ) → fault_at n i ≡ fault i)
        → ((i : ℕ) → number (fault i) ≡ n)
        → ((i : ℕ) → index (fault i) ≡ i)
        → ((i : ℕ) → AtRecord f m i (λ form. Bad form i) → There (fault i))
        → ((i : ℕ) → There (fault i) → AtRecord f m i (λ form. Bad form i))
        → ((form : Form) (i : ℕ) → Good form i → Bad form i → ⊥)
        → Clear n
        → {r : Result (Unit {0}) CertificateFault} {rest : Result Said CertificateFault}
        → Verdict fault (records m) (Good form) (Bad form) r
        → (Clear (n + 1) → ((i : ℕ) → i < records m → Good form i) → Outcome rest)
        → Outcome (after r rest)
    stage n fault Good Bad at num ind into out clash clear (passed good) next =
        next
        (clear_more n clear (λ i there.
        let p = out i (subst There (at i) there) in
        clash form i (good i p.2) (subst (λ x. Bad x i) (one_form f m p.0 form p.1 h) p.3)))
        good
    stage n fault Good Bad at num ind into out clash clear (refused i less bad first) next =
        named (fault i) (into i (form, h, less, bad))
        (first_at n i (fault i) (num i) (ind i) clear (λ j before there.
        let p = out j (subst There (at j) there) in
        clash form j (first j before) (subst (λ x. Bad x j) (one_form f m p.0 form p.1 h) p.3)))

    -- The one check that is not of each record: SAME.
    stage_same : 0 < records m → Clear 6 → {rest : Result Said CertificateFault} → (Clear 7 → (IsOneClaim f m form → ⊥) → Outcome rest) → Outcome (after (clashing f m form) rest)
    stage_same some clear {rest} next =
        ⊎_elim
        (λ p. subst (λ r. Outcome (after r rest)) (sym p.0)
        (next (clear_more 6 clear (λ i there. p.1 (subst (IsOneClaim f m) (one_form f m there.0 form there.1 h) there.3))) p.1))
        (λ p. subst (λ r. Outcome (after r rest)) (sym p.0)
        (named Same (form, h, some, p.1) (first_at 6 0 Same refl refl clear (λ j before. absurd (omega arith)))))
        (same_verdict f m form h)

    by_form : Fit room board → Whole m → ((i : ℕ) → i < records m → in_range f (statement_at m i) ≡ true) → Clear 5 → Outcome (certified f accepts m (Ok form))
    by_form fit w fields clear₅ =
        let some : 1 ≤ records m = w.0 in
        stage 5 Mixed (Agrees f m) (λ form i. Agrees f m form i → ⊥) (λ i. refl) (λ i. refl) (λ i. refl) (λ i p. p) (λ i p. p) (λ form i good bad. bad good) clear₅ (mixed_verdict f m form h)
        (λ clear₆ alike. stage_same (omega arith) clear₆
        (λ clear₇ clashing. stage 7 Twice (λ form i. Again f m form i → ⊥) (Again f m) (λ i. refl) (λ i. refl) (λ i. refl) (λ i p. p) (λ i p. p) (λ form i good bad. good bad) clear₇ (twice_verdict f m form h)
        (λ clear₈ never. stage 8 Unvouched (λ form i. ShownGood f m accepts form i) (λ form i. ShownBad f m accepts form i) (λ i. refl) (λ i. refl) (λ i. refl) (λ i p. p) (λ i p. p) (λ form i good bad. both_ways _ bad.1 (good bad.0)) clear₈ (vouched_verdict f m accepts form)
        (λ clear₉ shown. stage 9 Low (λ form i. Above f m form i → ⊥) (Above f m) (λ i. refl) (λ i. refl) (λ i. refl) (λ i p. p) (λ i p. p) (λ form i good bad. good bad) clear₉ (low_verdict f m form h)
        (λ clear₁₀ reached. stage 10 Order (λ form i. Unordered f m form i → ⊥) (Unordered f m) (λ i. refl) (λ i. refl) (λ i. refl) (λ i p. p) (λ i p. p) (λ form i good bad. good bad) clear₁₀ (order_verdict f m form h)
        (λ clear₁₁ rising. taken fit w form (record {
          kinds = h;
          fields = fields;
          alike = alike;
          clashing = clashing;
          different = different f m form h never;
          sites = sites f m form h fields;
          vouched = λ sealed i less. shown i less sealed;
          reached = reached;
          rising = rising;
        })))))))

  -- 4. FIELD
  ranged : (form : Form) → HasForm f m form → Fit room board → Whole m → Clear 4 → Outcome (certified f accepts m (in_fields form (first_outside f m)))
  ranged form h fit w clear =
      let t : ℕ → Bool = λ i. not (in_range f (statement_at m i)) in
      ⊎_elim
      (λ none.
      let fields = ranges f m none in
      subst (λ o. Outcome (certified f accepts m (in_fields form o))) (sym none)
      (by_form form h fit w fields (clear_more 4 clear (λ i there. both_ways _ there.1 (fields i there.0)))))
      (λ some.
      let l : Lowest t 0 (records m) some.0 = some_lowest t 0 (records m) some.0 some.1 in
      let below = l.below in
      subst (λ o. Outcome (certified f accepts m (in_fields form o))) (sym some.1)
      (named (Message (Field some.0)) (omega arith, not-true _ l.holds)
      (first_at 4 some.0 (Message (Field some.0)) refl refl clear (λ j before there. both_ways (t j) (l.first j (omega arith) before) (ap not there.1)))))
      (found_or_never t 0 (records m))

  -- 3. KIND
  formed : (o : Option Form) → form_of f m ≡ o → Fit room board → Whole m → Clear 3 → Outcome (certified f accepts m (known_form f m o))
  formed (Some form) e fit w clear =
      let h = told f m form e in ranged form h fit w (clear_more 3 clear (λ i there. there form h))
  formed None e fit w clear =
      named (Message Kind)
      (λ form h. let z : ◌≡◌ {A = Option Form} None (Some form) = sym e ∙ told_back f m form h in let zz : ◌≡◌ {A = ℕ} 0 1 = cc in omega arith)
      (first_at 3 0 (Message Kind) refl refl clear (λ j before. absurd (omega arith)))

  -- 2. LENGTH
  long_enough : Fit room board → Clear 2 → Outcome (certified f accepts m (read_form f m))
  long_enough fit clear =
      ⊎_elim
      (λ yes'.
      let w = whole_is m yes' in
      subst (λ r. Outcome (certified f accepts m r)) (sym (cond-true (whole m) (known_form f m (form_of f m)) (Err Length) yes'))
      (formed (form_of f m) refl fit w (clear_more 2 clear (λ i there. there w))))
      (λ no'.
      subst (λ r. Outcome (certified f accepts m r)) (sym (cond-false (whole m) (known_form f m (form_of f m)) (Err Length) no'))
      (named (Message Length) (λ w. both_ways _ no' (is_whole m w)) (first_at 2 0 (Message Length) refl refl clear (λ j before. absurd (omega arith)))))
      (cases_Bool (whole m))

  -- 1. SHORT, and all the others after it.
  outcome : Outcome (checks f accepts m room board)
  outcome =
      ⊎_elim
      (λ yes'.
      let fit = fit_is room board yes' in
      subst Outcome (sym (cond-true (buffers_fit room board) (certified f accepts m (read_form f m)) (Err (Message Short)) yes'))
      (long_enough fit (clear_more 1 clear_none (λ i there. there fit))))
      (λ no'.
      subst Outcome (sym (cond-false (buffers_fit room board) (certified f accepts m (read_form f m)) (Err (Message Short)) no'))
      (named (Message Short) (λ fit. both_ways _ no' (is_fit room board fit)) (first_at 1 0 (Message Short) refl refl clear_none (λ j before. absurd (omega arith)))))
      (cases_Bool (buffers_fit room board))

  if_ok : {r : Result Said CertificateFault} (said : Said) → Outcome r → r ≡ Ok said → Fit room board × Whole m × ((form : Form) × Passed f accepts m form × (said ≡ said_of f m form))
  if_ok said (taken fit w form p) e = let z : said ≡ said_of f m form = cc in (fit, w, (form, p, z))
  if_ok said (named fault there first) e = let z : ◌≡◌ {A = ℕ} 0 1 = cc in absurd (omega arith)

  if_err : {r : Result Said CertificateFault} (fault : CertificateFault) → Outcome r → r ≡ Err fault → There fault × First fault
  if_err fault (taken fit w form p) e = let z : ◌≡◌ {A = ℕ} 0 1 = cc in absurd (omega arith)
  if_err fault (named fault' there first) e = let z : fault' ≡ fault = cc in subst (λ x. There x × First x) z (there, first)

  -- A message that passes has no fault.
  module _ (fit : Fit room board) (w : Whole m) (form : Form) (p : Passed f accepts m form) where
    same_form : (other : Form) → HasForm f m other → other ≡ form
    same_form other h = one_form f m other form h p.kinds

    no_fault : (fault : CertificateFault) → There fault → ⊥
    no_fault (Message Short) there = there fit
    no_fault (Message Length) there = there w
    no_fault (Message Kind) there = there form p.kinds
    no_fault (Message (Field i)) there = both_ways _ there.1 (p.fields i there.0)
    no_fault (Mixed i) there = subst (λ x. Agrees f m x i → ⊥) (same_form there.0 there.1) there.3 (p.alike i there.2)
    no_fault Same there = p.clashing (subst (IsOneClaim f m) (same_form there.0 there.1) there.3)
    no_fault (Twice i) there =
        let again : Again f m form i = subst (λ x. Again f m x i) (same_form there.0 there.1) there.3 in
        let q = again.4 in
        let before : q.0 < i = q.2 in
        let same : q.0 ≡ i = p.different again.0 again.1 again.2 q.0 i q.1 (let inside : i < again.0 + again.1 = again.3 in omega arith) (let from : again.0 ≤ q.0 = q.1 in omega arith) again.3 q.3 in
        omega arith
    no_fault (Unvouched i) there =
        let bad : Sealed form × (accepts (record_at m i) ≡ false) = subst (λ x. Sealed x × (accepts (record_at m i) ≡ false)) (same_form there.0 there.1) there.3 in
        both_ways _ bad.1 (p.vouched bad.0 i there.2)
    no_fault (Low i) there = p.reached i there.2 (subst (λ x. Above f m x i) (same_form there.0 there.1) there.3)
    no_fault (Order i) there = p.rising i there.2 (subst (λ x. Unordered f m x i) (same_form there.0 there.1) there.3)

    when_passed : {r : Result Said CertificateFault} → Outcome r → r ≡ Ok (said_of f m form)
    when_passed (taken fit' w' other p') = ap (λ x. Ok (said_of f m x)) (same_form other p'.kinds)
    when_passed (named fault there first) = absurd (no_fault fault there)

pub accepted_when_passed : AcceptedWhenPassed
accepted_when_passed f accepts m room board said = (
  λ e. if_ok f accepts m room board said (outcome f accepts m room board) e,
  λ h. when_passed f accepts m room board h.0 h.1 h.2.0 h.2.1 (outcome f accepts m room board) ∙ ap Ok (sym h.2.2),
)

pub first_fault_named : FirstFaultNamed
first_fault_named f accepts m room board fault e = if_err f accepts m room board fault (outcome f accepts m room board) e
