-- The laws of titles.
use Rattle.std.proofs.Common.{◌≡◌, ℕ, ◌≤◌, true, leb, ◌⊎◌, List, [], ◌∷◌, length, set, Some, None, Ok, sym, ap, ◌∙◌, subst, inl, inr, arith}
use Rattle.object.specs.Calls.{called}
use Rattle.object.specs.Rules.{code}
use Rattle.object.specs.Titles.{titles_first, titles_rules, act, judged, answer_of, number, outcome, receiver, title, state, in_range, right_state, entitled, titles_answer, titles_next}
use Rattle.object.specs.TitlesLaws.{OnlyItsHolderMovesATitle, OnlyClient0Issues, SurrenderedStays, SurrenderedForGood, HoldersAreClients}
use Rattle.object.specs.declared.calls.Call.TheVariants.{Perform, TakeBack}
use Rattle.object.specs.declared.titles.Act.{Act}
use Rattle.object.specs.declared.titles.Act.TheVariants.{Issue, Transfer, Surrender}
use Rattle.object.specs.declared.titles.Title.{Title}
use Rattle.object.specs.declared.titles.Title.TheVariants.{Unissued, HeldBy, Surrendered}
use Rattle.std.proofs.lemmas.List.{get_or_past, get_or-replicate, get_or-set_other, get_or-set_same, set_past}
use Rattle.std.proofs.lemmas.Bool.{and_parts, cases_eq, cases_lt, eqb-true, false≢true, leb-true}
use Rattle.object.proofs.Runs.{run_keeps}
use Rattle.object.proofs.Written.{Passed, done_passed, Written, kept, did, written, Change, changed, code_issue, code_transfer, code_surrender}

module _ (titles : List Title) (client : ℕ) (operation : List ℕ) (k : ℕ) where
  -- The tests that a change has passed, on the title itself.
  passed : (c : Change titles client operation (titles_next titles client operation) k) →
      Passed
      (in_range c.did_act k (receiver operation))
      (right_state c.did_act (state titles k))
      (entitled c.did_act client (state titles k))
  passed c =
      done_passed _ _ _ (subst (λ i. judged titles c.did_act client i (receiver operation) ≡ Ok tt) c.named c.judged_done)

  change_answered : Change titles client operation (titles_next titles client operation) k →
      titles_answer titles client operation ≡ number (Ok tt)
  change_answered c =
      ap (λ o. answer_of o titles client operation) c.asked ∙ ap number c.judged_done

  -- What became of a held title that changed.
  How : Type 0
  How =
      ((code operation ≡ 2) × (state (titles_next titles client operation) k ≡ HeldBy (receiver operation)))
      ⊎ ((code operation ≡ 3) × (state (titles_next titles client operation) k ≡ Surrendered))

  holder_moved : (h : ℕ) (a : Act) →
      act (code operation) ≡ Some a →
      right_state a (HeldBy h) ≡ true →
      entitled a client (HeldBy h) ≡ true →
      state (titles_next titles client operation) k ≡ outcome a (receiver operation) →
      (client ≡ h) × How
  unfolding How
  holder_moved h Issue asked right may is = absurd (false≢true right)
  holder_moved h Transfer asked right may is =
      (eqb-true client h may, inl (code_transfer (code operation) asked, is))
  holder_moved h Surrender asked right may is =
      (eqb-true client h may, inr (code_surrender (code operation) asked, is))

  issuer_moved : (a : Act) →
      act (code operation) ≡ Some a →
      right_state a Unissued ≡ true →
      entitled a client Unissued ≡ true →
      state (titles_next titles client operation) k ≡ outcome a (receiver operation) →
      (client ≡ 0) × (code operation ≡ 1)
      × (state (titles_next titles client operation) k ≡ HeldBy (receiver operation))
  issuer_moved Issue asked right may is = (eqb-true client 0 may, code_issue (code operation) asked, is)
  issuer_moved Transfer asked right may is = absurd (false≢true right)
  issuer_moved Surrender asked right may is = absurd (false≢true right)

pub only_its_holder : OnlyItsHolderMovesATitle
unfolding How
only_its_holder titles client operation k h was other =
    let c = changed titles client operation _ k (written titles client operation) (λ same. other (same ∙ was)) in
    let p = passed titles client operation k c in
    let m = holder_moved titles client operation k h c.did_act c.asked
    (subst (λ t. right_state c.did_act t ≡ true) was p.right)
    (subst (λ t. entitled c.did_act client t ≡ true) was p.may)
    c.becomes
    in
    record {
      writer = m.0;
      named = c.named;
      answered = change_answered titles client operation k c;
      how = m.1;
    }

pub only_client_0 : OnlyClient0Issues
only_client_0 titles client operation k was other =
    let c = changed titles client operation _ k (written titles client operation) (λ same. other (same ∙ was)) in
    let p = passed titles client operation k c in
    let m = issuer_moved titles client operation k c.did_act c.asked
    (subst (λ t. right_state c.did_act t ≡ true) was p.right)
    (subst (λ t. entitled c.did_act client t ≡ true) was p.may)
    c.becomes
    in
    record {
      writer = m.0;
      named = c.named;
      answered = change_answered titles client operation k c;
      asked = m.1;
      given = m.2;
    }

-- No act has a surrendered title for its state.
none_fits : (a : Act) → right_state a Surrendered ≡ true → ⊥
none_fits Issue e = false≢true e
none_fits Transfer e = false≢true e
none_fits Surrender e = false≢true e

surrendered_after : (titles : List Title) (client : ℕ) (operation : List ℕ) (next : List Title) (k : ℕ) →
    Written titles client operation next → state titles k ≡ Surrendered → state next k ≡ Surrendered
surrendered_after titles client operation next k kept was = was
surrendered_after titles client operation next k (did a asked done) was =
    elim (cases_eq k (title operation)) [
      | inl e ↦
          let p = done_passed
          (in_range a (title operation) (receiver operation))
          (right_state a (state titles (title operation)))
          (entitled a client (state titles (title operation)))
          done
          in
          absurd (none_fits a (subst (λ t. right_state a t ≡ true) (ap (state titles) (sym e) ∙ was) p.right))
      | inr ne ↦ get_or-set_other titles (title operation) k (outcome a (receiver operation)) Unissued ne ∙ was
    ]

pub surrendered_stays : SurrenderedStays
surrendered_stays m k [] performs was = was
surrendered_stays m k (Perform client operation ∷ cs) performs was =
    surrendered_stays (called titles_rules m (Perform client operation)) k cs performs
    (surrendered_after m.value client operation _ k (written m.value client operation) was)
surrendered_stays m k (TakeBack ∷ cs) performs was = absurd performs

pub surrendered_for_good : SurrenderedForGood
surrendered_for_good m k calls =
    run_keeps titles_rules (λ titles. state titles k ≡ Surrendered)
    (λ titles client operation. surrendered_after titles client operation _ k (written titles client operation)) m calls

-- Whoever holds a title is a client from 0 to 15.
KnownHolders : List Title → Type 0
KnownHolders titles = (k h : ℕ) → state titles k ≡ HeldBy h → h ≤ 15

outcome_known : (a : Act) (k to h : ℕ) → in_range a k to ≡ true → outcome a to ≡ HeldBy h → h ≤ 15
outcome_known Issue k to h range e =
    let same : to ≡ h = cc in
    omega (arith, same, leb-true to 15 (and_parts (leb k 63) (leb to 15) range).1)
outcome_known Transfer k to h range e =
    let same : to ≡ h = cc in
    omega (arith, same, leb-true to 15 (and_parts (leb k 63) (leb to 15) range).1)
outcome_known Surrender k to h range e = let z : ◌≡◌ {A = ℕ} 0 1 = cc in absurd (omega arith)

known_after : (titles : List Title) (client : ℕ) (operation : List ℕ) (next : List Title) →
    Written titles client operation next → KnownHolders titles → KnownHolders next
unfolding KnownHolders
known_after titles client operation next kept known = known
known_after titles client operation next (did a asked done) known = λ k h is.
    let p = done_passed
    (in_range a (title operation) (receiver operation))
    (right_state a (state titles (title operation)))
    (entitled a client (state titles (title operation)))
    done
    in
    let put : Title = outcome a (receiver operation) in
    elim (cases_eq k (title operation)) [
      | inl e ↦ elim (cases_lt k (length titles)) [
        | inl l ↦
            outcome_known a (title operation) (receiver operation) h p.range
            (sym (get_or-set_same titles k put Unissued l) ∙ ap (λ i. state (set titles i put) k) e ∙ is)
        | inr l ↦
            known k h (sym (ap (λ ts. state ts k) (set_past titles k put l)) ∙ ap (λ i. state (set titles i put) k) e ∙ is)
      ]
      | inr ne ↦ known k h (sym (get_or-set_other titles (title operation) k put Unissued ne) ∙ is)
    ]

-- No title is held at first.
first_known : KnownHolders titles_first
unfolding KnownHolders
first_known k h is =
    let un : state titles_first k ≡ Unissued =
    elim (cases_lt k 64) [
      | inl l ↦ get_or-replicate 64 k Unissued Unissued l
      | inr l ↦ get_or_past titles_first k Unissued l
    ]
    in
    let z : ◌≡◌ {A = ℕ} 0 1 = cc in absurd (omega arith)

pub holders_are_clients : HoldersAreClients
unfolding KnownHolders
holders_are_clients calls =
    (run_keeps titles_rules KnownHolders
    (λ titles client operation. known_after titles client operation _ (written titles client operation))
    (record { value = titles_first; before = None })
    calls
    (record { here = first_known; earlier = tt })
    ).here
