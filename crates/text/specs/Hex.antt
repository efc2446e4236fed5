-- Bytes as hexadecimal text.
use Rattle.std.specs.Prelude.{ℕ, ◌+◌, ◌-◌, ◌*◌, ◌/◌, ◌%◌, cond, ◌&&◌, List, [], ◌∷◌, Some, None, Option, nat_le, nat_lt}

-- The character that writes a number below sixteen: 0 to 9, then a to f.
abbrev pub hex_digit : ℕ → ℕ
hex_digit n = cond (nat_lt n 10) (48 + n) (87 + n)

-- The text that writes bytes: two characters for each, the high half first.
abbrev pub hex_text : List ℕ → List ℕ
hex_text [] = []
hex_text (b ∷ bs) = hex_digit (b / 16) ∷ hex_digit (b % 16) ∷ hex_text bs

-- The number that a hexadecimal digit writes, in either case.
abbrev pub digit_value : ℕ → Option ℕ
digit_value c =
    cond (nat_le 48 c && nat_le c 57) (Some (c - 48))
    (cond (nat_le 97 c && nat_le c 102) (Some (c - 87))
    (cond (nat_le 65 c && nat_le c 70) (Some (c - 55)) None))

-- The byte of two halves, where both are there.
abbrev pub byte_of : Option ℕ → Option ℕ → Option ℕ
byte_of (Some high) (Some low) = Some (high * 16 + low)
byte_of (Some high) None = None
byte_of None low = None

-- The byte that two digits write, where they are two.
abbrev pub pair_value : List ℕ → Option ℕ
pair_value [] = None
pair_value (high ∷ []) = None
pair_value (high ∷ low ∷ []) = byte_of (digit_value high) (digit_value low)
pair_value (high ∷ low ∷ more ∷ rest) = None

-- A byte in front of bytes, where all are there.
abbrev pub byte_before : Option ℕ → Option ℕ → Option (List ℕ) → Option (List ℕ)
byte_before (Some high) (Some low) (Some bytes) = Some ((high * 16 + low) ∷ bytes)
byte_before (Some high) (Some low) None = None
byte_before (Some high) None bytes = None
byte_before None low bytes = None

-- The bytes that a text writes: none where it has another character, or an odd number of them.
abbrev pub hex_bytes : List ℕ → Option (List ℕ)
hex_bytes [] = Some []
hex_bytes (high ∷ []) = None
hex_bytes (high ∷ low ∷ rest) = byte_before (digit_value high) (digit_value low) (hex_bytes rest)
