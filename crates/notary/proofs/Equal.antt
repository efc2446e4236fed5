-- Seals compared by the bits in which they differ, and a list of keys prepared one by one.
use Rattle.std.proofs.Common.{◌≡◌, ℕ, eqb, List, [], ◌∷◌, refl, length, Decides, sym, ap, ◌∙◌, arith, rules}
use lib.Bits.{bit_or, bit_xor, or_add_and, or_zero_l, xor_add_and, xor_self}
use Rattle.std.proofs.lemmas.Nat.{and_le_l, and_le_r}
use Rattle.std.proofs.lemmas.Slice.Eq.{bytes_eq-Decides}
use Rattle.std.proofs.lemmas.Bool.{eq-eqb, eqb-true}
use Rattle.std.specs.Str.{bytes_eq}
use Rattle.std.specs.List.{fold, zip}
use Rattle.notary.specs.Keys.{differing}

or_zero : (a b : ℕ) → bit_or a b ≡ 0 → (a ≡ 0) × (b ≡ 0)
or_zero a b e = (
  omega (arith, or_add_and a b, and_le_l a b, and_le_r a b),
  omega (arith, or_add_and a b, and_le_l a b, and_le_r a b),
)

xor_zero : (a b : ℕ) → bit_xor a b ≡ 0 → a ≡ b
xor_zero a b e = omega (arith, xor_add_and a b, and_le_l a b, and_le_r a b)

-- Bits that differ so far stay, and there are none at the end only where each pair is of one byte.
abbrev differ : ℕ → ℕ × ℕ → ℕ
differ bits pair = bit_or bits (bit_xor pair.0 pair.1)

none_before : (bits : ℕ) (pairs : List (ℕ × ℕ)) → fold differ bits pairs ≡ 0 → bits ≡ 0
none_before bits [] e = e
none_before bits (p ∷ pairs) e = (or_zero bits (bit_xor p.0 p.1) (none_before (differ bits p) pairs e)).0

none_differ : (a b : List ℕ) → length a ≡ length b → fold differ 0 (zip a b) ≡ 0 → a ≡ b
none_differ [] [] long e = refl
none_differ [] (y ∷ b) long e = absurd (omega (arith, long))
none_differ (x ∷ a) [] long e = absurd (omega (arith, long))
none_differ (x ∷ a) (y ∷ b) long e =
    let here : differ 0 (x, y) ≡ 0 = none_before (differ 0 (x, y)) (zip a b) e in
    let same : x ≡ y = xor_zero x y (or_zero 0 (bit_xor x y) here).1 in
    let rest : a ≡ b = none_differ a b (omega (arith, long)) (ap (λ bits. fold differ bits (zip a b)) (sym here) ∙ e) in
    cc

none_of_same : (a : List ℕ) → fold differ 0 (zip a a) ≡ 0
none_of_same [] = refl
none_of_same (x ∷ a) =
    let here : differ 0 (x, x) ≡ 0 = or_zero_l (bit_xor x x) ∙ xor_self x in
    ap (λ bits. fold differ bits (zip a a)) here ∙ none_of_same a

-- no differing bit means equal seals
pub equal_seals : (a b : List ℕ) → length a ≡ length b → eqb (differing (zip a b)) 0 ≡ bytes_eq a b
equal_seals a b long =
    let decides : Decides (eqb (differing (zip a b)) 0) (a ≡ b)
    = (λ t. none_differ a b long (eqb-true _ 0 t), λ e. eq-eqb _ 0 (ap (λ l. differing (zip a l)) (sym e) ∙ none_of_same a))
    in
    search (rules, bytes_eq-Decides)
