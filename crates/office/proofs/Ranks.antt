-- The site that is named has the latest reply: replies are ranked by a number that grows with lateness.
use Rattle.std.proofs.Common.{◌≡◌, ℕ, zero, suc, ◌+◌, ◌*◌, ◌<◌, ◌≤◌, cond, ◌&&◌, eqb, ltb, ◌⊎◌, List, length, Some, None, Option, sym, refl, ap, ◌∙◌, subst, inl, inr, arith}
use Rattle.std.proofs.lemmas.List.{get_or_past}
use Rattle.std.proofs.lemmas.Bool.{cases_eq, cases_lt, cond_both, cond-true, cond-false, eq-eqb, ne_eqb, lt-ltb, le-ltb, ltb-true, ltb-false}
use Rattle.record.specs.declared.fields.Record.{Record}
use Rattle.record.specs.declared.fields.Statement.{Statement}
use Rattle.office.specs.Latest.{Latest}
use Rattle.office.specs.Slots.{slot_at, no_reply, later, later_held, later_slot, answer_over_grant, latest, latest_from}
use Rattle.office.specs.declared.slots.Slot.{Slot}

-- 1 for an ANSWER, else 0.
abbrev answered : ℕ → ℕ
answered kind = cond (eqb kind 4) 1 0

-- Places are below the base, so that a round counts more than any place.
abbrev rank : Statement → ℕ
rank s = (s.round * 4294967296 + s.place) * 2 + answered s.kind

abbrev rank_held : Option Record → ℕ
rank_held None = 0
rank_held (Some r) = suc (rank r.statement)

-- Replies that can be told apart by rank: their places fit, and both are GRANTs or ANSWERs, or both READ-ANSWERs.
abbrev EitherKind : ℕ → ℕ → Type 0
EitherKind a b = (((a ≡ 2) ⊎ (a ≡ 4)) × ((b ≡ 2) ⊎ (b ≡ 4))) ⊎ ((a ≡ 5) × (b ≡ 5))

same_answer : (a b x y : ℕ) → a ≡ x → b ≡ y → (eqb x 4 && eqb y 2) ≡ ltb (answered y) (answered x) → (eqb a 4 && eqb b 2) ≡ ltb (answered b) (answered a)
same_answer a b x y ea eb h =
    ap (λ (k : ℕ). eqb k 4 && eqb b 2) ea
    ∙ ap (λ (k : ℕ). eqb x 4 && eqb k 2) eb
    ∙ h
    ∙ ap (λ (k : ℕ). ltb (answered k) (answered x)) (sym eb)
    ∙ ap (λ (k : ℕ). ltb (answered b) (answered k)) (sym ea)

over : (a b : ℕ) → EitherKind a b → (eqb a 4 && eqb b 2) ≡ ltb (answered b) (answered a)
over a b (inl (inl ea, inl eb)) = same_answer a b 2 2 ea eb refl
over a b (inl (inl ea, inr eb)) = same_answer a b 2 4 ea eb refl
over a b (inl (inr ea, inl eb)) = same_answer a b 4 2 ea eb refl
over a b (inl (inr ea, inr eb)) = same_answer a b 4 4 ea eb refl
over a b (inr (ea, eb)) = same_answer a b 5 5 ea eb refl

few : (kind : ℕ) → answered kind ≤ 1
few kind = cond_both (eqb kind 4) 1 0 (λ n. n ≤ 1) (λ _. omega arith) (λ _. omega arith)

-- Two tests of an order come out the same.
same_test : (x y u v : ℕ) → (x < y → u < v) → (y ≤ x → v ≤ u) → ltb x y ≡ ltb u v
same_test x y u v up down =
    elim (cases_lt x y) [
      | inl less ↦ lt-ltb x y less ∙ sym (lt-ltb u v (up less))
      | inr more ↦ le-ltb x y more ∙ sym (le-ltb u v (down more))
    ]

below : (x y : ℕ) → x ≤ y → (x ≡ y → ⊥) → (u v : ℕ) → (x < y → u ≤ v) → u ≤ v
below x y le ne u v so = elim (cases_lt x y) [ inl less ↦ so less | inr more ↦ (let e : x ≡ y = omega arith in absurd (ne e)) ]

pub by_rank : (a b : Statement) → a.place < 4294967296 → b.place < 4294967296 → EitherKind a.kind b.kind → later a b ≡ ltb (rank b) (rank a)
by_rank a b pa pb kinds =
    let fa = few a.kind in
    let fb = few b.kind in
    let within = cond (eqb a.place b.place) (answer_over_grant a b) (ltb b.place a.place) in
    elim (cases_eq a.round b.round) [
      | inl er ↦ cond-true (eqb a.round b.round) within (ltb b.round a.round) (eq-eqb a.round b.round er)
          ∙ elim (cases_eq a.place b.place) [
            | inl ep ↦ cond-true (eqb a.place b.place) (answer_over_grant a b) (ltb b.place a.place) (eq-eqb a.place b.place ep)
                ∙ over a.kind b.kind kinds
                ∙ same_test (answered b.kind) (answered a.kind) (rank b) (rank a) (λ h. omega arith) (λ h. omega arith)
            | inr np ↦ cond-false (eqb a.place b.place) (answer_over_grant a b) (ltb b.place a.place) (ne_eqb a.place b.place np)
                ∙ same_test b.place a.place (rank b) (rank a) (λ h. omega arith) (λ h. below a.place b.place h np (rank a) (rank b) (λ l. omega arith))
          ]
      | inr nr ↦ cond-false (eqb a.round b.round) within (ltb b.round a.round) (ne_eqb a.round b.round nr)
          ∙ same_test b.round a.round (rank b) (rank a) (λ h. omega arith) (λ h. below a.round b.round h nr (rank a) (rank b) (λ l. omega arith))
    ]

-- The slots whose replies can all be told apart by rank.
pub record Ranked (slots : List Slot) : Type 0 where
  pub places : (i : ℕ) (r : Record) → (slot_at slots i).filed ≡ Some r → r.statement.place < 4294967296
  pub kinds : (i j : ℕ) (r s : Record) → (slot_at slots i).filed ≡ Some r → (slot_at slots j).filed ≡ Some s → EitherKind r.statement.kind s.statement.kind

held_rank
    : (a b : Option Record)
    → ((r : Record) → a ≡ Some r → r.statement.place < 4294967296)
    → ((r : Record) → b ≡ Some r → r.statement.place < 4294967296)
    → ((r s : Record) → a ≡ Some r → b ≡ Some s → EitherKind r.statement.kind s.statement.kind)
    → later_held a b ≡ ltb (rank_held b) (rank_held a)
held_rank None b pa pb kinds = sym (le-ltb (rank_held b) 0 (omega arith))
held_rank (Some r) None pa pb kinds = sym (lt-ltb 0 (suc (rank r.statement)) (omega arith))
held_rank (Some r) (Some s) pa pb kinds =
    by_rank r.statement s.statement (pa r refl) (pb s refl) (kinds r s refl refl)
    ∙ same_test (rank s.statement) (rank r.statement) (suc (rank s.statement)) (suc (rank r.statement)) (λ h. omega arith) (λ h. omega arith)

module _ (slots : List Slot) (ranked : Ranked slots) where
  abbrev K : ℕ → ℕ
  K i = rank_held (slot_at slots i).filed

  slot_rank : (i j : ℕ) → later_slot (slot_at slots i) (slot_at slots j) ≡ ltb (K j) (K i)
  slot_rank i j = held_rank (slot_at slots i).filed (slot_at slots j).filed (ranked.places i) (ranked.places j) (ranked.kinds i j)

  -- The best of the first i sites: none ranks higher, and each lower one ranks lower.
  record Leads (best i : ℕ) : Type 0 where
    pub most : (j : ℕ) → j < i → K j ≤ K best
    pub first : (j : ℕ) → j < best → K j < K best
    pub within : best ≤ i

  taken : (best i : ℕ) → K best < K i → Leads best i → Leads i (i + 1)
  taken best i h so = record {
    most = λ j less. elim (cases_lt j i) [
      | inl before ↦ (let m = so.most j before in omega arith)
      | inr here ↦ (let e : j ≡ i = omega arith in subst (λ (k : ℕ). K k ≤ K i) (sym e) (omega arith))
    ];
    first = λ j less. let m = so.most j less in omega arith;
    within = omega arith;
  }

  passed : (best i : ℕ) → K i ≤ K best → Leads best i → Leads best (i + 1)
  passed best i h so = record {
    most = λ j less. elim (cases_lt j i) [
      | inl before ↦ so.most j before
      | inr here ↦ (let e : j ≡ i = omega arith in subst (λ (k : ℕ). K k ≤ K best) (sym e) h)
    ];
    first = so.first;
    within = omega (arith, so.within);
  }

  leads_on : (n best i : ℕ) → Leads best i → Leads (latest_from slots best i n) (i + n)
  unfolding latest_from
  leads_on zero best i so = subst (Leads best) (omega arith) so
  leads_on (suc n) best i so =
      let e : (i + 1) + n ≡ i + suc n = omega arith in
      let next = cond (later_slot (slot_at slots i) (slot_at slots best)) i best in
      let step : Leads next (i + 1) =
      cond_both (later_slot (slot_at slots i) (slot_at slots best)) i best (λ (k : ℕ). Leads k (i + 1))
      (λ up. let h : K best < K i = ltb-true (K best) (K i) (sym (slot_rank i best) ∙ up) in taken best i h so)
      (λ down. let h : K i ≤ K best = ltb-false (K best) (K i) (sym (slot_rank i best) ∙ down) in passed best i h so) in
      subst (Leads (latest_from slots next (i + 1) n)) e (leads_on n next (i + 1) step)

  best_first : Leads (latest slots) (0 + length slots)
  best_first = leads_on (length slots) 0 0 (record { most = λ j less. absurd (omega arith); first = λ j less. absurd (omega arith); within = omega arith })

  -- No site ranks higher than the latest.
  none_higher : (j : ℕ) → K j ≤ K (latest slots)
  none_higher j =
      elim (cases_lt j (length slots)) [
        | inl less ↦ best_first.most j (omega arith)
        | inr past ↦ (
            let e : K j ≡ 0 = ap (λ (s : Slot). rank_held s.filed) (get_or_past slots j no_reply past) in
            omega arith)
      ]

  some_held : (o : Option Record) → 1 ≤ rank_held o → (r : Record) × (o ≡ Some r)
  some_held None h = absurd (omega arith)
  some_held (Some r) h = (r, refl)

  held_later : (i j : ℕ) (r s : Record) → (slot_at slots i).filed ≡ Some r → (slot_at slots j).filed ≡ Some s → later r.statement s.statement ≡ ltb (K j) (K i)
  held_later i j r s ei ej =
      sym (ap (λ (o : Option Record). later_held o (Some s)) ei) ∙ sym (ap (λ (o : Option Record). later_held (slot_at slots i).filed o) ej) ∙ slot_rank i j

  -- Where a site is heard, the site that is named has the latest reply.
  pub has_latest : (i : ℕ) (r : Record) → (slot_at slots i).filed ≡ Some r → Latest slots (latest slots)
  has_latest i r e =
      let site = latest slots in
      let one : 1 ≤ K i = subst (λ (o : Option Record). 1 ≤ rank_held o) (sym e) (omega arith) in
      let up = none_higher i in
      let held = some_held (slot_at slots site).filed (omega arith) in
      record {
        reply = held.0;
        filed = held.1;
        latest = λ j other there. held_later j site other held.0 there held.1 ∙ le-ltb (K site) (K j) (none_higher j);
        lowest = λ j other less there. held_later site j held.0 other held.1 there ∙ lt-ltb (K j) (K site) (best_first.first j less);
      }
