-- The laws of slots.
use Rattle.std.proofs.Common.{◌≡◌, ℕ, ◌+◌, ◌-◌, ◌<◌, ◌≤◌, Bool, true, false, cond, not, ◌&&◌, eqb, leb, List, length, set, Ok, Err, Result, sym, refl, ap, ◌∙◌, subst, inl, inr, arith, length-set}
use Rattle.object.specs.Accounts.{holding, less, more, moved}
use Rattle.object.specs.Rules.{code}
use Rattle.object.specs.Slots.{account, acted, amount, judged, number, slots_next, slots_rules}
use Rattle.object.specs.SlotsLaws.{AmountTo, TotalNeverChanges, OnlyTheWriterPays, MoveToOneselfChangesNothing}
use Rattle.object.specs.declared.slots.Fault.{Fault}
use Rattle.object.specs.declared.slots.Fault.TheVariants.{OutOfRange, TooFew}
use Rattle.std.proofs.lemmas.List.{get_or-set_same, get_or-set_other, set-get_or, set_past, set-set}
use Rattle.std.proofs.lemmas.Bool.{and_parts, cases_eq, cases_lt, leb-true}
use Rattle.object.proofs.Runs.{run_keeps}
use Rattle.object.proofs.Totals.{moved_total}

-- A move that is answered done goes between two accounts that exist, and the first holds enough.
record SoundMove (accounts : List ℕ) (from to n : ℕ) : Type 0 where
  gives : from ≤ 15
  takes : to ≤ 15
  enough : n ≤ holding accounts from

abbrev tested : Bool → Bool → Result (Unit {0}) Fault
tested x y = cond (not x) (Err OutOfRange) (cond (not y) (Err TooFew) (Ok tt))

both_passed : (x y : Bool) → tested x y ≡ Ok tt → (x ≡ true) × (y ≡ true)
both_passed true true e = (refl, refl)
both_passed true false e = let n : ◌≡◌ {A = ℕ} 2 0 = ap number e in absurd (omega arith)
both_passed false y e = let n : ◌≡◌ {A = ℕ} 1 0 = ap number e in absurd (omega arith)

sound_move : (accounts : List ℕ) (from to n : ℕ) → judged accounts from to n ≡ Ok tt → SoundMove accounts from to n
sound_move accounts from to n done =
    let p = both_passed (leb from 15 && leb to 15) (leb n (holding accounts from)) done in
    let q = and_parts (leb from 15) (leb to 15) p.0 in
    record {
      gives = leb-true from 15 q.0;
      takes = leb-true to 15 q.1;
      enough = leb-true n (holding accounts from) p.1;
    }

-- What holds of the accounts as they were, and of the accounts after any sound move, holds after a write.
module _ (P : List ℕ → Type 0) (accounts : List ℕ) (from to n : ℕ) (same : P accounts)
    (after : SoundMove accounts from to n → P (moved accounts from to n)) where
  by_answer : (x : Result (Unit {0}) Fault) → judged accounts from to n ≡ x → P (acted x accounts from to n)
  by_answer (Ok _) e = after (sound_move accounts from to n e)
  by_answer (Err fault) e = same

  by_code : (b : Bool) → P (cond b accounts (acted (judged accounts from to n) accounts from to n))
  by_code true = same
  by_code false = by_answer (judged accounts from to n) refl

after_write : (P : List ℕ → Type 0) (accounts : List ℕ) (client : ℕ) (operation : List ℕ) →
    P accounts →
    (SoundMove accounts client (account operation) (amount operation) →
    P (moved accounts client (account operation) (amount operation))) →
    P (slots_next accounts client operation)
after_write P accounts client operation same after =
    by_code P accounts client (account operation) (amount operation) same after (not (eqb (code operation) 1))

moved_amounts : (n : ℕ) (accounts : List ℕ) (from to amount : ℕ) →
    AmountTo n accounts → SoundMove accounts from to amount → AmountTo n (moved accounts from to amount)
moved_amounts n accounts from to amount a s =
    let from_in : from < length accounts = omega (arith, a.sixteen, s.gives) in
    let to_in : to < length accounts = omega (arith, a.sixteen, s.takes) in
    record {
      sixteen = simp (length-set, length-set) a.sixteen;
      together = moved_total accounts from to amount from_in to_in s.enough ∙ a.together;
    }

pub total_never_changes : TotalNeverChanges
total_never_changes n m calls =
    run_keeps slots_rules (AmountTo n)
    (λ accounts client operation a.
    after_write (AmountTo n) accounts client operation a
    (moved_amounts n accounts client (account operation) (amount operation) a))
    m
    calls

-- An account holds no less after an amount came to any account.
more_at : (accounts : List ℕ) (j n : ℕ) → holding accounts j ≤ holding (more accounts j n) j
more_at accounts j n =
    elim (cases_lt j (length accounts)) [
      | inl l ↦ omega (arith, get_or-set_same accounts j (holding accounts j + n) 0 l)
      | inr l ↦ omega (arith, ap (λ xs. holding xs j) (set_past accounts j (holding accounts j + n) l))
    ]

more_holds : (accounts : List ℕ) (j n k : ℕ) → holding accounts k ≤ holding (more accounts j n) k
more_holds accounts j n k =
    elim (cases_eq k j) [
      | inl e ↦ subst (λ i. holding accounts i ≤ holding (more accounts j n) i) (sym e) (more_at accounts j n)
      | inr ne ↦ omega (arith, get_or-set_other accounts j k (holding accounts j + n) 0 ne)
    ]

payer : (accounts : List ℕ) (from to n k : ℕ) →
    holding (moved accounts from to n) k < holding accounts k → from ≡ k
payer accounts from to n k lost =
    elim (cases_eq from k) [
      | inl e ↦ e
      | inr ne ↦
          absurd
          (omega (
            arith,
            get_or-set_other accounts from k (holding accounts from - n) 0 (λ e. ne (sym e)),
            more_holds (less accounts from n) to n k,
          ))
    ]

pub only_the_writer_pays : OnlyTheWriterPays
only_the_writer_pays accounts client operation k =
    after_write (λ next. holding next k < holding accounts k → client ≡ k) accounts client operation
    (λ lost. absurd (omega arith))
    (λ s lost. payer accounts client (account operation) (amount operation) k lost)

-- What leaves an account and comes back leaves it as it was.
own_move : (accounts : List ℕ) (i n : ℕ) → n ≤ holding accounts i → moved accounts i i n ≡ accounts
own_move accounts i n enough =
    elim (cases_lt i (length accounts)) [
      | inl l ↦
          let back : holding (less accounts i n) i + n ≡ holding accounts i =
          omega (arith, get_or-set_same accounts i (holding accounts i - n) 0 l)
          in
          ap (λ x. set (less accounts i n) i x) back
          ∙ set-set accounts i (holding accounts i - n) (holding accounts i)
          ∙ set-get_or accounts i 0
      | inr l ↦
          let past : length (less accounts i n) ≤ i = simp length-set l in
          set_past (less accounts i n) i (holding (less accounts i n) i + n) past
          ∙ set_past accounts i (holding accounts i - n) l
    ]

pub move_to_oneself : MoveToOneselfChangesNothing
move_to_oneself accounts client operation own =
    after_write (λ next. next ≡ accounts) accounts client operation refl
    (λ s.
    subst (λ to. moved accounts client to (amount operation) ≡ accounts) (sym own)
    (own_move accounts client (amount operation) s.enough))
