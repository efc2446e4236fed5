-- Records that are all of one kind, as `all` over their indexes tells them.
use Rattle.std.proofs.Common.{◌≡◌, ℕ, zero, suc, ◌+◌, ◌-◌, ◌<◌, Bool, true, false, ◌&&◌, List, length, get_or, sym, refl, ap, ◌∙◌, ⊎_elim, arith}
use Rattle.std.proofs.lemmas.Bool.{and_parts, and_from, cases_Bool, cases_eq, eqb-true, eq-eqb, false≢true}
use Rattle.std.proofs.lemmas.List.FromFn.{length-range_with_len, get_or-range_with_len}
use Rattle.std.specs.Bool.{MatchBool}
use Rattle.std.specs.List.{range_with_len, AllWithin, HoldsAt}
use Rattle.record.specs.declared.kind.Kind.{Kind}
use Rattle.message.specs.Forms.{is_kind, all_kind}
use Rattle.message.specs.Laws.{Kinds}
use Rattle.message.specs.Records.{statement_at}

pub all_unroll : (kind : Kind) (m : List ℕ) (i n : ℕ) → 0 < n → all_kind kind m i n ≡ (is_kind kind m i && all_kind kind m (i + 1) (n - 1))
unfolding all_kind
all_unroll kind m i zero some = absurd (omega arith)
all_unroll kind m i (suc n) some = let e : (suc n - 1) ≡ n = omega arith in rw e

-- One kind throughout.
pub kinds_from : (kind : Kind) (m : List ℕ) (i n : ℕ) → all_kind kind m i n ≡ true → Kinds kind m i (i + n)
unfolding all_kind
kinds_from kind m i zero e = λ k from less. absurd (omega arith)
kinds_from kind m i (suc n) e = λ k from less.
    let p = and_parts (is_kind kind m i) (all_kind kind m (i + 1) n) e in
    ⊎_elim
    (λ ki. ap (λ j. (statement_at m j).kind) ki ∙ eqb-true _ _ p.0)
    (λ ne. kinds_from kind m (i + 1) n p.1 k (omega arith) (omega arith))
    (cases_eq k i)

pub from_kinds : (kind : Kind) (m : List ℕ) (i n : ℕ) → Kinds kind m i (i + n) → all_kind kind m i n ≡ true
unfolding all_kind
from_kinds kind m i zero kinds = refl
from_kinds kind m i (suc n) kinds =
    and_from (is_kind kind m i) (all_kind kind m (i + 1) n)
    (eq-eqb _ _ (kinds i (omega arith) (omega arith)))
    (from_kinds kind m (i + 1) n (λ k from less. kinds k (omega arith) (omega arith)))

-- What `all` tells over the indexes of records.
module _ (kind : Kind) (m : List ℕ) (a n : ℕ) where
  pub all_told
      : (told : Bool)
      → MatchBool told (AllWithin (λ i. is_kind kind m i ≡ true) (range_with_len a n) 0 (length (range_with_len a n)))
      ((k : ℕ) × (k < length (range_with_len a n)) × HoldsAt (λ i. is_kind kind m i ≡ false) (range_with_len a n) k)
      → told ≡ all_kind kind m a n
  all_told true each =
      sym (from_kinds kind m a n (λ k from below.
      let at : get_or (range_with_len a n) (k - a) 0 ≡ a + (k - a) = get_or-range_with_len a n (k - a) 0 (omega arith) in
      let there : a + (k - a) ≡ k = omega arith in
      let here : is_kind kind m k ≡ true
      = ap (is_kind kind m) (sym (at ∙ there)) ∙ each (k - a) 0 (omega arith) (omega (arith, length-range_with_len a n))
      in
      eqb-true _ _ here))
  all_told false (k, below, bad) =
      ⊎_elim
      (λ all.
      let less : k < n = omega (arith, length-range_with_len a n) in
      let here : is_kind kind m (a + k) ≡ true = eq-eqb _ _ (kinds_from kind m a n all (a + k) (omega arith) (omega arith)) in
      absurd (false≢true (sym (bad 0) ∙ ap (is_kind kind m) (get_or-range_with_len a n k 0 less) ∙ here)))
      (λ none. sym none)
      (cases_Bool (all_kind kind m a n))
