-- A ROUND that a site takes is a move: it strikes its last write, meets the target or falls behind it.
use Rattle.std.proofs.Common.{◌≡◌, ℕ, ◌+◌, ◌<◌, ◌≤◌, Bool, false, cond, ltb, List, [], ◌∷◌, Some, None, Ok, Err, Option, Result, sym, refl, ◌∙◌, subst, ⊎_elim, arith}
use mathlib.Core.Option.{Option as Maybe}
use Rattle.std.proofs.lemmas.Bool.{cond_both, ltb-true, ltb-false, leb-false, eq-eqb, ne_eqb, cases_eq}
use Rattle.object.specs.Rules.{Rules}
use Rattle.message.specs.declared.faults.SiteFault.{SiteFault}
use Rattle.message.specs.declared.faults.SiteFault.TheVariants.{TooFar}
use Rattle.message.specs.declared.request.Request.{Request}
use Rattle.record.specs.Limits.{highest_round}
use Rattle.record.specs.declared.fields.Claim.{Claim as Claimed}
use Rattle.protocol.specs.Book.{Passing}
use Rattle.protocol.specs.Moves.{Site, Mode, opened, frozen, standing, pulling, settling, strikes, meets, falls_behind}
use Rattle.protocol.specs.Quorum.{Pool}
use Rattle.protocol.specs.Words as words
use Rattle.protocol.specs.Words.{Claim, Deed, Transcript}
use Rattle.site.specs.Answers.{taken}
use Rattle.site.specs.Ledgers.{taken_back, calls_back, Kept, restored}
use Rattle.site.specs.Rules.{nobody_asked, settlement_of, struck, strikes_object, begun, if_taken, round_in}
use Rattle.site.specs.Settling.{last_place}
use Rattle.site.specs.Tables.{tabled, no_entries}
use Rattle.site.specs.declared.reply.Reply.{Reply}
use Rattle.site.specs.declared.reply.Reply.TheVariants.{Silent, Says, Shows}
use Rattle.site.specs.declared.state.Ledger.{Ledger}
use Rattle.site.specs.declared.state.Stage.TheVariants.{Pulling, Settling}
use Rattle.site.specs.declared.state.State.{State}
use Rattle.site.proofs.Asking.{told_long}
use Rattle.site.proofs.Going.{Goes, goes_by}
use Rattle.site.proofs.Likeness.{told, all_told, SizedTable, SizedRequests, settled_list, Ledgered, BackedUp, Like, like_open, like_frozen, like_pulling, like_settling}
use Rattle.site.proofs.Settlements as settlements
use Rattle.site.proofs.Settlements.{sized_fresh, sized_pending}
use Rattle.site.proofs.Writes.{struck_ledger, still_ledgered}

-- A ROUND is taken in its own round, below the limits, and at most one place past the target.
pub record Takes (v place named t : ℕ) : Type 0 where
  pub same : named ≡ v
  pub early : v < highest_round
  pub low : t < highest_round
  pub near : place ≤ t + 1

pub taken_ok : (v place named t : ℕ) → taken v place named t ≡ Ok tt → Takes v place named t
taken_ok v place named t e = record { same = grind (arith, ltb-false); early = grind (arith, ltb-false, leb-false); low = grind (arith, ltb-false, leb-false); near = grind (arith, ltb-false) }

-- One that is too far is of its own round.
pub taken_far : (v place named t : ℕ) → taken v place named t ≡ Err TooFar → (named ≡ v) × (t + 1 < place)
taken_far v place named t e = (grind (arith, ltb-false), grind (arith, ltb-true))

module _ (pool : Pool) (R : Rules) (first : R.Value) (s : ℕ) (T : Transcript) where
  -- A ROUND that is taken gets no record in reply, so that the deed is the ROUND alone.
  abbrev pub RoundFine : Site → ℕ → ℕ → State → Kept R → Result Reply SiteFault → Type 0
  RoundFine a named t st k (Err fault) = Unit {0}
  RoundFine a named t st k (Ok Silent) = Goes pool R first s T a (words.took named t (named + 1) ∷ []) st k
  RoundFine a named t st k (Ok (Says x)) = ⊥
  RoundFine a named t st k (Ok Shows) = ⊥

  module _ (m : Mode) (v b t : ℕ) (o : Maybe Claim) (g : List Claim) (st : State) (is_round : st.round ≡ v) (table : List (Option Request)) (sized : SizedTable table) (pass : Passing pool T v t) (early : v < highest_round) where
    -- At the target or below it.
    not_past : (cs : List Claimed) (l : Ledger) (k : Kept R) → Ledgered pool R first s T cs l k → l.place ≤ t →
        Goes pool R first s T (standing m v b (all_told cs) o g) (words.took v t (v + 1) ∷ []) (begun st l t table) k
    not_past cs l k h low =
        cond_both (ltb l.place t)
        (record { stage = Pulling st.round t table; round = st.round + 1; settlement = None; asked = nobody_asked; ledger = l })
        (record { stage = Settling (last_place (settlement_of l t table)); round = st.round + 1; settlement = Some (settlement_of l t table); asked = nobody_asked; ledger = l })
        (λ x. Goes pool R first s T (standing m v b (all_told cs) o g) (words.took v t (v + 1) ∷ []) x k)
        (λ e. subst (λ y. Goes pool R first s T (standing m v b (all_told cs) o g) (words.took v t (v + 1) ∷ []) (record { stage = Pulling y t table; round = y + 1; settlement = None; asked = nobody_asked; ledger = l }) k) (sym is_round)
        (let i = ltb-true l.place t e in let n = told_long cs in let p = h.place in
        goes_by pool R first s (pulling v (v + 1) t (all_told cs)) (falls_behind pass (omega arith) (omega arith))
        (like_pulling (still_ledgered pool R first s s (words.took v t (v + 1) ∷ []) T h) (omega arith) sized (omega arith))))
        (λ e. subst (λ y. Goes pool R first s T (standing m v b (all_told cs) o g) (words.took v t (v + 1) ∷ [])
        (record { stage = Settling (last_place (settlement_of l t table)); round = y + 1; settlement = Some (settlement_of l t table); asked = nobody_asked; ledger = l }) k) (sym is_round)
        (let i = ltb-false l.place t e in let n = told_long cs in let p = h.place in
        goes_by pool R first s (settling (v + 1) t (all_told cs) (settled_list (settlement_of l t table) (v + 1))) (meets pass (omega arith) (omega arith) (settlements.settles (settlement_of l t table) (v + 1)))
        (like_settling {S = settlement_of l t table} (still_ledgered pool R first s s (words.took v t (v + 1) ∷ []) T h) (omega arith) (sized_pending table l.done sized) (omega arith))))

    -- One place past it, where the last write was struck.
    one_past : (c : Claimed) (cs : List Claimed) (l : Ledger) (k : Kept R) → Ledgered pool R first s T cs l k → l.place ≡ t →
        Goes pool R first s T (standing m v b (told c ∷ all_told cs) o g) (words.took v t (v + 1) ∷ []) (begun st l t table) k
    one_past c cs l k h at =
        cond_both (ltb l.place t)
        (record { stage = Pulling st.round t table; round = st.round + 1; settlement = None; asked = nobody_asked; ledger = l })
        (record { stage = Settling (last_place (settlement_of l t table)); round = st.round + 1; settlement = Some (settlement_of l t table); asked = nobody_asked; ledger = l })
        (λ x. Goes pool R first s T (standing m v b (told c ∷ all_told cs) o g) (words.took v t (v + 1) ∷ []) x k)
        (λ e. let i = ltb-true l.place t e in absurd (omega arith))
        (λ e. subst (λ y. Goes pool R first s T (standing m v b (told c ∷ all_told cs) o g) (words.took v t (v + 1) ∷ [])
        (record { stage = Settling (last_place (settlement_of l t table)); round = y + 1; settlement = Some (settlement_of l t table); asked = nobody_asked; ledger = l }) k) (sym is_round)
        (let n = told_long cs in let p = h.place in
        goes_by pool R first s (settling (v + 1) t (all_told cs) (settled_list (settlement_of l t table) (v + 1))) (strikes pass (omega arith) (omega arith) (settlements.settles (settlement_of l t table) (v + 1)))
        (like_settling {S = settlement_of l t table} (still_ledgered pool R first s s (words.took v t (v + 1) ∷ []) T h) (omega arith) (sized_pending table l.done sized) (omega arith))))

    begun_fine : (cs : List Claimed) (l : Ledger) (k : Kept R) → Ledgered pool R first s T cs l k → BackedUp pool R first s T cs l.backup k.before → l.place ≤ t + 1 →
        Goes pool R first s T (standing m v b (all_told cs) o g) (words.took v t (v + 1) ∷ []) (begun st (struck l t) t table) (restored R k (strikes_object l t))
    begun_fine cs l k h back near = ⊎_elim (λ e. past cs h back e) (λ n. before n) (cases_eq l.place (t + 1))
      where
        before : (l.place ≡ t + 1 → ⊥) → Goes pool R first s T (standing m v b (all_told cs) o g) (words.took v t (v + 1) ∷ []) (begun st (struck l t) t table) (restored R k (strikes_object l t))
        before n =
            let f = ne_eqb l.place (t + 1) n in
            subst (λ (y : Bool). Goes pool R first s T (standing m v b (all_told cs) o g) (words.took v t (v + 1) ∷ [])
            (begun st (cond y (taken_back l l.backup) l) t table) (restored R k (cond y (calls_back l.backup) false))) (sym f) (not_past cs l k h (omega arith))

        past : (cs : List Claimed) → Ledgered pool R first s T cs l k → BackedUp pool R first s T cs l.backup k.before → l.place ≡ t + 1 →
            Goes pool R first s T (standing m v b (all_told cs) o g) (words.took v t (v + 1) ∷ []) (begun st (struck l t) t table) (restored R k (strikes_object l t))
        past [] h back e = let p = h.place in absurd (omega arith)
        past (c ∷ cs) h back e =
            let f = eq-eqb l.place (t + 1) e in
            let q = struck_ledger pool R first s T c cs l k h back in
            subst (λ (y : Bool). Goes pool R first s T (standing m v b (told c ∷ all_told cs) o g) (words.took v t (v + 1) ∷ [])
            (begun st (cond y (taken_back l l.backup) l) t table) (restored R k (cond y (calls_back l.backup) false))) (sym f)
            (one_past c cs (taken_back l l.backup) (restored R k (calls_back l.backup)) q (let p = q.place in let r = h.place in omega arith))

  taken_fine : (m : Mode) (v b named t : ℕ) (o : Maybe Claim) (g : List Claim) (st : State) (k : Kept R) (cs : List Claimed) (rs : List Request) → st.round ≡ v →
      Ledgered pool R first s T cs st.ledger k → BackedUp pool R first s T cs st.ledger.backup k.before → Passing pool T named t → SizedRequests rs →
      (x : Result (Unit {0}) SiteFault) → taken st.round st.ledger.place named t ≡ x →
      RoundFine (standing m v b (all_told cs) o g) named t (if_taken R st k t rs x).state (if_taken R st k t rs x).kept (if_taken R st k t rs x).reply
  taken_fine m v b named t o g st k cs rs i h back pass z (Err fault) e = tt
  taken_fine m v b named t o g st k cs rs i h back pass z (Ok u) e =
      let ok = taken_ok st.round st.ledger.place named t e in
      let same : v ≡ named = sym (ok.same ∙ i) in
      subst (λ n. Goes pool R first s T (standing m v b (all_told cs) o g) (words.took n t (n + 1) ∷ []) (begun st (struck st.ledger t) t (tabled rs no_entries)) (restored R k (strikes_object st.ledger t))) same
      (begun_fine m v b t o g st i (tabled rs no_entries) (sized_fresh rs z) (subst (λ n. Passing pool T n t) (sym same) pass) (let y = ok.early in omega arith) cs st.ledger k h back ok.near)

  pub round_fine : {st : State} {k : Kept R} {a : Site} (named t : ℕ) (rs : List Request) → Like pool R first s T st k a → Passing pool T named t → SizedRequests rs →
      RoundFine a named t (round_in R st k named t rs st.stage).state (round_in R st k named t rs st.stage).kept (round_in R st k named t rs st.stage).reply
  round_fine {st} {k} named t rs (like_open {v = v} {b = b} {cs = cs} {o = o} {g = g} h back x y small) pass z =
      taken_fine opened v b named t o g st k cs rs refl h back pass z (taken st.round st.ledger.place named t) refl
  round_fine {st} {k} named t rs (like_frozen {v = v} {b = b} {cs = cs} {o = o} {g = g} h back x y small) pass z =
      taken_fine frozen v b named t o g st k cs rs refl h back pass z (taken st.round st.ledger.place named t) refl
  round_fine named t rs (like_pulling h e q small) pass z = tt
  round_fine named t rs (like_settling h e q small) pass z = tt
