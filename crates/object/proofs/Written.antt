-- What one write does to the titles.
use Rattle.std.proofs.Common.{◌≡◌, ℕ, ◌≤◌, Bool, true, false, cond, not, List, length, set, Some, None, Ok, Err, Option, Result, sym, refl, ap, inl, inr, arith}
use Rattle.object.specs.Rules.{code}
use Rattle.object.specs.Titles.{act, acted, judged, next_of, number, outcome, receiver, state, title, titles_next}
use Rattle.object.specs.declared.titles.Act.{Act}
use Rattle.object.specs.declared.titles.Act.TheVariants.{Issue, Transfer, Surrender}
use Rattle.object.specs.declared.titles.Fault.{Fault}
use Rattle.object.specs.declared.titles.Fault.TheVariants.{OutOfRange, NotEntitled, WrongState}
use Rattle.object.specs.declared.titles.Title.{Title}
use Rattle.object.specs.declared.titles.Title.TheVariants.{Unissued}
use Rattle.std.proofs.lemmas.List.{get_or-set_same, get_or-set_other, set_past}
use Rattle.std.proofs.lemmas.Bool.{cases_eq, cases_lt}
use Rattle.std.proofs.lemmas.Bool.Decides.{nat_tests}

-- An answer is done only where every test passed.
pub record Passed (x y z : Bool) : Type 0 where
  pub range : x ≡ true
  pub right : y ≡ true
  pub may : z ≡ true

abbrev tested : Bool → Bool → Bool → Result (Unit {0}) Fault
tested x y z = cond (not x) (Err OutOfRange) (cond (not y) (Err WrongState) (cond (not z) (Err NotEntitled) (Ok tt)))

pub done_passed : (x y z : Bool) → tested x y z ≡ Ok tt → Passed x y z
done_passed true true true e = record { range = refl; right = refl; may = refl }
done_passed true true false e = let n : ◌≡◌ {A = ℕ} 2 0 = ap number e in absurd (omega arith)
done_passed true false z e = let n : ◌≡◌ {A = ℕ} 3 0 = ap number e in absurd (omega arith)
done_passed false y z e = let n : ◌≡◌ {A = ℕ} 1 0 = ap number e in absurd (omega arith)

-- A write leaves the titles, or carries out an act that was answered done.
pub data Written (titles : List Title) (client : ℕ) (operation : List ℕ) : List Title → Type 0 where
  kept : Written titles client operation titles
  did : (a : Act) →
      act (code operation) ≡ Some a →
      judged titles a client (title operation) (receiver operation) ≡ Ok tt →
      Written titles client operation (set titles (title operation) (outcome a (receiver operation)))

module _ (titles : List Title) (client : ℕ) (operation : List ℕ) where
  by_answer : (a : Act) (x : Result (Unit {0}) Fault) →
      act (code operation) ≡ Some a →
      judged titles a client (title operation) (receiver operation) ≡ x →
      Written titles client operation (acted x titles a (title operation) (receiver operation))
  by_answer a (Ok _) asked e = did a asked e
  by_answer a (Err fault) asked e = kept

  by_act : (o : Option Act) →
      act (code operation) ≡ o → Written titles client operation (next_of o titles client operation)
  by_act None e = kept
  by_act (Some a) e = by_answer a (judged titles a client (title operation) (receiver operation)) e refl

  pub written : Written titles client operation (titles_next titles client operation)
  written = by_act (act (code operation)) refl

-- Where a title is another after a write, the write named it and was answered done.
pub record Change (titles : List Title) (client : ℕ) (operation : List ℕ) (next : List Title) (k : ℕ) : Type 0 where
  pub did_act : Act
  pub asked : act (code operation) ≡ Some did_act
  pub judged_done : judged titles did_act client (title operation) (receiver operation) ≡ Ok tt
  pub named : title operation ≡ k
  pub becomes : state next k ≡ outcome did_act (receiver operation)

pub changed : (titles : List Title) (client : ℕ) (operation : List ℕ) (next : List Title) (k : ℕ) →
    Written titles client operation next →
    (state next k ≡ state titles k → ⊥) →
    Change titles client operation next k
changed titles client operation next k kept other = absurd (other refl)
changed titles client operation next k (did a asked done) other =
    elim (cases_eq k (title operation)) [
      | inl e ↦ elim (cases_lt k (length titles)) [
        | inl l ↦ record { did_act = a; asked = asked; judged_done = done; named = sym e; becomes = rw (← e) (get_or-set_same titles k (outcome a (receiver operation)) Unissued l) }
        | inr l ↦ let past : length titles ≤ title operation = omega arith in
            absurd (other (ap (λ ts. state ts k) (set_past titles (title operation) (outcome a (receiver operation)) past)))
      ]
      | inr ne ↦ absurd (other (get_or-set_other titles (title operation) k (outcome a (receiver operation)) Unissued ne))
    ]

pub code_issue : (c : ℕ) → act c ≡ Some Issue → c ≡ 1
code_issue c e = grind (arith, nat_tests)

pub code_transfer : (c : ℕ) → act c ≡ Some Transfer → c ≡ 2
code_transfer c e = grind (arith, nat_tests)

pub code_surrender : (c : ℕ) → act c ≡ Some Surrender → c ≡ 3
code_surrender c e = grind (arith, nat_tests)
