-- Numbers written as bytes and read again.
use Rattle.std.proofs.Common.{◌≡◌, ℕ, zero, suc, ◌+◌, ◌*◌, ◌/◌, ◌%◌, ◌^◌, ◌<◌, ◌≤◌, List, [], ◌∷◌, ◌++◌, length, get_or, take, drop, refl, ◌∙◌, append_assoc, pow-suc, div-add-mod', arith, length-append}
use Rattle.std.specs.Int.{from_be_bytes, to_be_bytes, w32, w64}
use native.Mathlib.Nat.{div-div-eq-div-mul}
use lib.Arith.{digits_div, digits_mod}
use Rattle.std.proofs.lemmas.List.{take_more, get_or-drop, get_or-take, get_or-append-add, length-drop}
use Rattle.record.specs.Numbers.{number_at, bytes_of_number, bytes_at}
use Rattle.record.specs.RoundTrip.{Bytes}

pub length-bytes_of_number : (size n : ℕ) → length (bytes_of_number size n) ≡ size
unfolding bytes_of_number
length-bytes_of_number zero n = refl
length-bytes_of_number (suc size) n = simp length-append (omega (arith, length-bytes_of_number size (n / 256)))

-- A byte of a list of bytes.
pub byte_at : (bytes : List ℕ) (i : ℕ) → Bytes bytes → get_or bytes i 0 < 256
byte_at [] i all = omega arith
byte_at (b ∷ bytes) zero all = all.0
byte_at (b ∷ bytes) (suc i) all = byte_at bytes i all.1

-- The number that bytes write is written as these bytes.
pub written_as_read : (at size : ℕ) (bytes : List ℕ) → Bytes bytes → at + size ≤ length bytes →
    bytes_of_number size (number_at at size bytes) ≡ bytes_at at size bytes
unfolding bytes_of_number number_at
written_as_read at zero bytes all fits = refl
written_as_read at (suc size) bytes all fits =
    let b = get_or bytes (at + size) 0 in
    let m = number_at at size bytes in
    let small : b < 256 = byte_at bytes (at + size) all in
    let quotient : (m * 256 + b) / 256 ≡ m = digits_div m small in
    let remainder : (m * 256 + b) % 256 ≡ b = digits_mod m small in
    let before : bytes_of_number size m ≡ take size (drop at bytes) = written_as_read at size bytes all (omega arith) in
    let more : take (size + 1) (drop at bytes) ≡ take size (drop at bytes) ++ get_or (drop at bytes) size 0 ∷ [] =
    take_more (drop at bytes) size 0 (simp length-drop (omega arith)) in
    let there : get_or (drop at bytes) size 0 ≡ b = get_or-drop at bytes size 0 in
    let one : size + 1 ≡ suc size = omega arith in
    cc

-- A part in front moves what is read behind it.
pub number_behind : (front rest : List ℕ) (at size : ℕ) → number_at (length front + at) size (front ++ rest) ≡ number_at at size rest
unfolding number_at
number_behind front rest at zero = refl
number_behind front rest at (suc size) =
    let before : number_at (length front + at) size (front ++ rest) ≡ number_at at size rest = number_behind front rest at size in
    let there : get_or (front ++ rest) (length front + (at + size)) 0 ≡ get_or rest (at + size) 0 = get_or-append-add front rest (at + size) 0 in
    let index : length front + at + size ≡ length front + (at + size) = omega arith in
    cc

-- The bytes that write a number are read as the number.
pub read_as_written : (size n : ℕ) (rest : List ℕ) → n < 256 ^ size → number_at 0 size (bytes_of_number size n ++ rest) ≡ n
unfolding number_at bytes_of_number
read_as_written zero n rest small = omega arith
read_as_written (suc size) n rest small =
    let low = n % 256 in
    let front = bytes_of_number size (n / 256) in
    let fits : n / 256 < 256 ^ size = omega (arith, div-add-mod' n 256, pow-suc 256 size) in
    let split : (front ++ (low ∷ [])) ++ rest ≡ front ++ (low ∷ rest) = append_assoc front (low ∷ []) rest in
    let before : number_at 0 size (front ++ (low ∷ rest)) ≡ n / 256 = read_as_written size (n / 256) (low ∷ rest) fits in
    let there : get_or (front ++ (low ∷ rest)) (length front + 0) 0 ≡ low = get_or-append-add front (low ∷ rest) 0 0 in
    let index : 0 + size ≡ length front + 0 = omega (arith, length-bytes_of_number size (n / 256)) in
    let whole : n / 256 * 256 + low ≡ n = div-add-mod' n 256 in
    cc

-- A byte of a field.
field_byte : (at size i : ℕ) (bytes : List ℕ) → i < size → get_or (bytes_at at size bytes) i 0 ≡ get_or bytes (at + i) 0
field_byte at size i bytes below = get_or-take size (drop at bytes) i 0 below ∙ get_or-drop at bytes i 0

-- The number that the bytes of a field write is what std reads from them.
pub number_4 : (at : ℕ) (bytes : List ℕ) → number_at at 4 bytes ≡ from_be_bytes w32 (bytes_at at 4 bytes)
unfolding number_at
number_4 at bytes =
    let b = λ (i : ℕ) (h : i < 4). field_byte at 4 i bytes h in
    omega (arith, b 0 (omega arith), b 1 (omega arith), b 2 (omega arith), b 3 (omega arith))

pub number_8 : (at : ℕ) (bytes : List ℕ) → number_at at 8 bytes ≡ from_be_bytes w64 (bytes_at at 8 bytes)
unfolding number_at
number_8 at bytes =
    let b = λ (i : ℕ) (h : i < 8). field_byte at 8 i bytes h in
    omega (arith, b 0 (omega arith), b 1 (omega arith), b 2 (omega arith), b 3 (omega arith), b 4 (omega arith), b 5 (omega arith), b 6 (omega arith), b 7 (omega arith))

-- The bytes of a number are those that std writes it in.
pub written_4 : (n : ℕ) → bytes_of_number 4 n ≡ to_be_bytes w32 n
unfolding bytes_of_number
written_4 n = simp div-div-eq-div-mul

pub written_8 : (n : ℕ) → bytes_of_number 8 n ≡ to_be_bytes w64 n
unfolding bytes_of_number
written_8 n = simp div-div-eq-div-mul
