-- A board that has 1 for the signers of the first k records, and 0 else.
use Rattle.std.proofs.Common.{◌≡◌, ℕ, ◌+◌, ◌<◌, Bool, true, false, cond, ◌||◌, eqb, List, length, get_or, set, replicate, sym, refl, ap, ◌∙◌, ⊎_elim, add-one, arith}
use Rattle.std.proofs.lemmas.List.{get_or-set_same, get_or-set_other, get_or-replicate}
use Rattle.std.proofs.lemmas.Bool.{cases_eq, eq-eqb, ne_eqb, or_right, cond-true}
use Rattle.message.specs.Checks.{signed_among}
use Rattle.message.specs.Records.{statement_at}

abbrev pub Marked : List ℕ → ℕ → List ℕ → Type 0
Marked part k board = (s : ℕ) → s < 16 → get_or board s 0 ≡ cond (signed_among s part k) 1 0

pub marked_none : (part board : List ℕ) → board ≡ replicate 16 0 → Marked part 0 board
unfolding signed_among
marked_none part board clear s small = ap (λ b. get_or b s 0) clear ∙ get_or-replicate 16 s 0 0 small

one_more : (s k : ℕ) (part : List ℕ) → signed_among s part (k + 1) ≡ (signed_among s part k || eqb (statement_at part k).signer s)
unfolding signed_among
one_more s k part = rw add-one

or_false : (b : Bool) → (b || false) ≡ b
or_false true = refl
or_false false = refl

module _ (part board : List ℕ) (k x : ℕ) (long : length board ≡ 16) (small : x < 16) (is : x ≡ (statement_at part k).signer) (marks : Marked part k board) where
  here : (s : ℕ) → s < 16 → s ≡ x → get_or (set board x 1) s 0 ≡ cond (signed_among s part (k + 1)) 1 0
  here s less e =
      let same : get_or (set board x 1) s 0 ≡ 1 = ap (λ i. get_or (set board x 1) i 0) e ∙ get_or-set_same board x 1 0 (omega arith) in
      let among : signed_among s part (k + 1) ≡ true = one_more s k part ∙ or_right _ _ (eq-eqb _ _ (sym is ∙ sym e)) in
      same ∙ sym (cond-true _ 1 0 among)

  elsewhere : (s : ℕ) → s < 16 → (s ≡ x → ⊥) → get_or (set board x 1) s 0 ≡ cond (signed_among s part (k + 1)) 1 0
  elsewhere s less ne =
      let other : eqb (statement_at part k).signer s ≡ false = ne_eqb _ _ (λ e. ne (sym e ∙ sym is)) in
      let among : signed_among s part (k + 1) ≡ signed_among s part k = one_more s k part ∙ ap (λ b. signed_among s part k || b) other ∙ or_false _ in
      get_or-set_other board x s 1 0 ne ∙ marks s less ∙ ap (λ b. cond b 1 0) (sym among)

  pub marked_more : Marked part (k + 1) (set board x 1)
  marked_more s less = ⊎_elim (here s less) (elsewhere s less) (cases_eq s x)

-- what a marked byte says
pub mark_zero : (b : Bool) (n : ℕ) → n ≡ cond b 1 0 → n ≡ 0 → b ≡ false
mark_zero true n e z = absurd (omega arith)
mark_zero false n e z = refl

pub mark_set : (b : Bool) (n : ℕ) → n ≡ cond b 1 0 → (n ≡ 0 → ⊥) → b ≡ true
mark_set true n e z = refl
mark_set false n e z = absurd (z e)
