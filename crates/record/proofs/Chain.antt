-- Eight parts written one after another fill a record.
use Rattle.std.proofs.Common.{◌≡◌, ℕ, ◌+◌, List, ◌++◌, length, take, append_assoc, arith}
use Rattle.std.proofs.lemmas.List.{take_all}

-- A part whose length is known ends at a known index.
pub part_ends : (at size : ℕ) (before after part : List ℕ) → length part ≡ size →
    take (at + length part) after ≡ take at before ++ part → take (at + size) after ≡ take at before ++ part
part_ends at size before after part long e = rw long at e

pub fills : (o₁ o₂ o₃ o₄ o₅ o₆ o₇ o₈ a b c d e f g h : List ℕ) →
    take 4 o₁ ≡ a → take 8 o₂ ≡ take 4 o₁ ++ b → take 12 o₃ ≡ take 8 o₂ ++ c → take 16 o₄ ≡ take 12 o₃ ++ d →
    take 32 o₅ ≡ take 16 o₄ ++ e → take 40 o₆ ≡ take 32 o₅ ++ f → take 48 o₇ ≡ take 40 o₆ ++ g → take 80 o₈ ≡ take 48 o₇ ++ h →
    length o₈ ≡ 80 → o₈ ≡ (a ++ (b ++ (c ++ (d ++ (e ++ (f ++ g)))))) ++ h
fills o₁ o₂ o₃ o₄ o₅ o₆ o₇ o₈ a b c d e f g h e₁ e₂ e₃ e₄ e₅ e₆ e₇ e₈ long =
    let whole : take 80 o₈ ≡ o₈ = take_all 80 o₈ (omega arith) in
    let flat : ((((((a ++ b) ++ c) ++ d) ++ e) ++ f) ++ g) ++ h ≡ (a ++ (b ++ (c ++ (d ++ (e ++ (f ++ g)))))) ++ h = simp append_assoc in
    cc
