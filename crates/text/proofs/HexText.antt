-- Writing bytes as hexadecimal text, one byte at a time, and reading them, one pair of digits at a time.
use Rattle.std.proofs.Common.{◌≡◌, ℕ, ◌+◌, ◌/◌, ◌%◌, ◌<◌, List, [], ◌∷◌, ◌++◌, length, get_or, drop, Some, None, Option, sym, refl, ap, ◌∙◌, append_assoc, arith, true, nat_lt, ◌*◌, take, set, suc, zero}
use Rattle.std.proofs.lemmas.List.{at_drop_more, length-set, take_more, take_more_set}
use Rattle.std.proofs.lemmas.List.Elements.{All-append}
use Rattle.std.specs.List.{All}
use Rattle.std.proofs.lemmas.Bool.Decides.{nat_tests}
use Rattle.std.proofs.lemmas.Bool.{cond-true}
use Rattle.std.specs.Char.{encode_utf8}
use Rattle.text.specs.Hex.{hex_digit, hex_text, digit_value, byte_of, pair_value, byte_before, hex_bytes}

-- Every hexadecimal digit is an ASCII character.
pub digit_ascii : (n : ℕ) → n < 16 → hex_digit n < 128
digit_ascii n small = grind (arith, nat_tests)

-- It takes one byte.
pub digit_byte : (c n : ℕ) → c ≡ hex_digit n → n < 16 → encode_utf8 c ≡ hex_digit n ∷ []
unfolding encode_utf8
digit_byte c n is small =
    let ascii : c < 128 = rw is (digit_ascii n small) in
    let test : nat_lt c 128 ≡ true = grind (arith, nat_tests) in
    cond-true _ _ _ test ∙ ap (λ (d : ℕ). d ∷ []) is

-- One byte more: what is written and what is left make the same text.
pub one_more : (before after high low whole : List ℕ) (bytes : List ℕ) (i : ℕ) → i < length bytes →
    before ++ hex_text (drop i bytes) ≡ whole →
    high ≡ hex_digit (get_or bytes i 0 / 16) ∷ [] → low ≡ hex_digit (get_or bytes i 0 % 16) ∷ [] →
    after ≡ (before ++ high) ++ low → after ++ hex_text (drop (i + 1) bytes) ≡ whole
one_more before after high low whole bytes i within e h l a =
    let next : hex_text (drop i bytes) ≡ hex_digit (get_or bytes i 0 / 16) ∷ hex_digit (get_or bytes i 0 % 16) ∷ hex_text (drop (i + 1) bytes) =
    at_drop_more hex_text bytes i 0 within in
    let flat : ((before ++ (hex_digit (get_or bytes i 0 / 16) ∷ [])) ++ (hex_digit (get_or bytes i 0 % 16) ∷ [])) ++ hex_text (drop (i + 1) bytes)
    ≡ before ++ (hex_digit (get_or bytes i 0 / 16) ∷ hex_digit (get_or bytes i 0 % 16) ∷ hex_text (drop (i + 1) bytes)) = simp append_assoc in
    cc

-- Bytes in front of those that a text writes.
abbrev pub in_front : List ℕ → Option (List ℕ) → Option (List ℕ)
in_front xs None = None
in_front xs (Some ys) = Some (xs ++ ys)

in_front-append : (xs ys : List ℕ) (rest : Option (List ℕ)) → in_front xs (in_front ys rest) ≡ in_front (xs ++ ys) rest
in_front-append xs ys None = refl
in_front-append xs ys (Some zs) = ap Some (sym (append_assoc xs ys zs))

byte_in_front : (high low : Option ℕ) (byte : ℕ) (rest : Option (List ℕ)) → Some byte ≡ byte_of high low → byte_before high low rest ≡ in_front (byte ∷ []) rest
byte_in_front (Some high) (Some low) byte None e = refl
byte_in_front (Some high) (Some low) byte (Some rest) e = cc
byte_in_front (Some high) None byte rest e = let z : ◌≡◌ {A = ℕ} 0 1 = cc in absurd (omega arith)
byte_in_front None low byte rest e = let z : ◌≡◌ {A = ℕ} 0 1 = cc in absurd (omega arith)

-- A pair of digits that writes a byte: it stands in front of what the others write.
pair_read : (pair rest : List ℕ) (byte : ℕ) → Some byte ≡ pair_value pair → hex_bytes (pair ++ rest) ≡ in_front (byte ∷ []) (hex_bytes rest)
pair_read [] rest byte e = let z : ◌≡◌ {A = ℕ} 0 1 = cc in absurd (omega arith)
pair_read (high ∷ []) rest byte e = let z : ◌≡◌ {A = ℕ} 0 1 = cc in absurd (omega arith)
pair_read (high ∷ low ∷ []) rest byte e = byte_in_front (digit_value high) (digit_value low) byte (hex_bytes rest) e
pair_read (high ∷ low ∷ more ∷ others) rest byte e = let z : ◌≡◌ {A = ℕ} 0 1 = cc in absurd (omega arith)

pub one_read : (all pair rest xs : List ℕ) (byte : ℕ) (whole : Option (List ℕ)) → whole ≡ in_front xs (hex_bytes all) → all ≡ pair ++ rest → Some byte ≡ pair_value pair →
    whole ≡ in_front (xs ++ (byte ∷ [])) (hex_bytes rest)
one_read all pair rest xs byte whole so_far parts read =
    so_far ∙ ap (λ (t : List ℕ). in_front xs (hex_bytes t)) parts ∙ ap (in_front xs) (pair_read pair rest byte read) ∙ in_front-append xs (byte ∷ []) (hex_bytes rest)

-- What bytes and then others write.
pub text_append : (xs ys : List ℕ) → hex_text (xs ++ ys) ≡ hex_text xs ++ hex_text ys
text_append [] ys = refl
text_append (x ∷ xs) ys = ap (λ (t : List ℕ). hex_digit (x / 16) ∷ hex_digit (x % 16) ∷ t) (text_append xs ys)

two_below : (high low k d : ℕ) → high < 128 → low < 128 → k < 2 → get_or (high ∷ low ∷ []) k d < 128
two_below high low zero d h l within = h
two_below high low (suc zero) d h l within = l
two_below high low (suc (suc k)) d h l within = absurd (omega (arith, within))

-- Two characters more.
two_more : (digits : List ℕ) (i high low : ℕ) → 2 * i + 1 < length digits →
    take (2 * (i + 1)) (set (set digits (2 * i) high) (2 * i + 1) low) ≡ take (2 * i) digits ++ (high ∷ low ∷ [])
two_more digits i high low room =
    let two : 2 * (i + 1) ≡ 2 * i + 1 + 1 = omega arith in
    let long : length (set digits (2 * i) high) ≡ length digits = length-set digits (2 * i) high in
    let first : take (2 * i + 1) (set digits (2 * i) high) ≡ take (2 * i) digits ++ (high ∷ []) = take_more_set digits (2 * i) high (omega (arith, room)) in
    let second : take (2 * i + 1 + 1) (set (set digits (2 * i) high) (2 * i + 1) low) ≡ take (2 * i + 1) (set digits (2 * i) high) ++ (low ∷ [])
    = take_more_set (set digits (2 * i) high) (2 * i + 1) low (omega (arith, room, long)) in
    let flat : (take (2 * i) digits ++ (high ∷ [])) ++ (low ∷ []) ≡ take (2 * i) digits ++ (high ∷ low ∷ [])
    = append_assoc (take (2 * i) digits) (high ∷ []) (low ∷ []) in
    cc

-- They are those of the next byte.
pub byte_written : (digits run : List ℕ) (i high low : ℕ) → i < length run → 2 * i + 1 < length digits →
    take (2 * i) digits ≡ hex_text (take i run) → high ≡ hex_digit (get_or run i 0 / 16) → low ≡ hex_digit (get_or run i 0 % 16) →
    take (2 * (i + 1)) (set (set digits (2 * i) high) (2 * i + 1) low) ≡ hex_text (take (i + 1) run)
byte_written digits run i high low within room so_far h l =
    let both = two_more digits i high low room in
    let more : take (i + 1) run ≡ take i run ++ (get_or run i 0 ∷ []) = take_more run i 0 within in
    let apart : hex_text (take i run ++ (get_or run i 0 ∷ [])) ≡ hex_text (take i run) ++ (hex_digit (get_or run i 0 / 16) ∷ hex_digit (get_or run i 0 % 16) ∷ [])
    = text_append (take i run) (get_or run i 0 ∷ []) in
    cc

-- They are ASCII.
pub byte_ascii : (digits : List ℕ) (i high low m n : ℕ) → 2 * i + 1 < length digits → All (λ c. c < 128) (take (2 * i) digits) →
    high ≡ hex_digit m → m < 16 → low ≡ hex_digit n → n < 16 →
    All (λ c. c < 128) (take (2 * (i + 1)) (set (set digits (2 * i) high) (2 * i + 1) low))
byte_ascii digits i high low m n room so_far h first l second =
    let top : high < 128 = rw h (digit_ascii m first) in
    let bottom : low < 128 = rw l (digit_ascii n second) in
    let pair : All (λ c. c < 128) (high ∷ low ∷ []) = λ k d within. two_below high low k d top bottom within in
    let whole : All (λ c. c < 128) (take (2 * i) digits ++ (high ∷ low ∷ [])) = All-append (λ c. c < 128) (take (2 * i) digits) (high ∷ low ∷ []) so_far pair in
    rw (two_more digits i high low room) whole
