-- The end of a message: what the functions that pad it write, and that this is the padding of the standard.
use Rattle.std.proofs.Common.{◌≡◌, ℕ, suc, ◌+◌, ◌-◌, ◌*◌, ◌%◌, ◌^◌, ◌<◌, ◌≤◌, List, [], ◌∷◌, ◌++◌, length, get_or, take, drop, set, replicate, sym, refl, ap, ◌∙◌, arith}
use borrow.Rule.Slice.PartMut.{put_mid}
use Rattle.std.specs.List.{flat_map}
use Rattle.std.proofs.lemmas.List.{append_assoc, length-append, length-take, length-drop, take_at, replicate-append-replicate, take_all, take_more, drop-replicate, set_at, flat_map_more, length-replicate}
use Rattle.std.proofs.lemmas.Slice.{take-put_mid}
use Rattle.sha256.specs.Compression.{compressed}
use Rattle.sha256.specs.Digest.{absorbed, digest, eight_bytes, four_bytes, padding}
use Rattle.sha256.proofs.Absorbing.{absorbed_one, absorbed_two}

-- the mark behind the tail
pub marked_is
    : (out tail : List ℕ)
    → length tail < 64
    → out ≡ tail ++ drop (0 + length tail) (replicate 64 0)
    → set out (length tail) 0x80 ≡ tail ++ (0x80 ∷ replicate (63 - length tail) 0)
marked_is out tail h e =
    let n : 64 - (0 + length tail) ≡ suc (63 - length tail) = omega arith in
    let zeros : drop (0 + length tail) (replicate 64 0) ≡ 0 ∷ replicate (63 - length tail) 0
    = drop-replicate (0 + length tail) 64 0 ∙ ap (λ k. replicate k 0) n
    in
    ap (λ xs. set xs (length tail) 0x80) (e ∙ ap (λ xs. tail ++ xs) zeros)
    ∙ set_at tail 0 (replicate (63 - length tail) 0) 0x80 (length tail) refl

length-still
    : (bytes four : List ℕ) (i : ℕ)
    → length four ≡ 4
    → length bytes ≡ 32
    → i < 8
    → length (put_mid (4 * i) ((4 * i + 4) - 4 * i) bytes four) ≡ 32
length-still bytes four i e n h = simp (length-append, length-take, length-drop) (omega arith)

-- one more word of the hash value written
pub bytes_more
    : (bytes four words : List ℕ) (i : ℕ)
    → i < 8
    → length words ≡ 8
    → four ≡ four_bytes (get_or words i 0)
    → (length bytes ≡ 32) × (take (4 * i) bytes ≡ flat_map four_bytes (take i words))
    → (length (put_mid (4 * i) ((4 * i + 4) - 4 * i) bytes four) ≡ 32)
    × (take (4 * (i + 1)) (put_mid (4 * i) ((4 * i + 4) - 4 * i) bytes four) ≡ flat_map four_bytes (take (i + 1) words))
bytes_more bytes four words i h m e (n, so_far) = (
  length-still bytes four i (ap length e) n (omega arith),
  take-put_mid (4 * i) ((4 * i + 4) - 4 * i) bytes four (4 * (i + 1)) (omega (arith, ap length e)) (omega arith)
      ∙ ap (λ xs. xs ++ four) so_far
      ∙ ap (λ xs. flat_map four_bytes (take i words) ++ xs) e
      ∙ flat_map_more four_bytes [] (take i words) (get_or words i 0)
      ∙ ap (flat_map four_bytes) (sym (take_more words i 0 (omega arith))),
)

-- all words written
pub bytes_all
    : (bytes words : List ℕ) (i : ℕ)
    → i ≡ 8
    → length words ≡ 8
    → (length bytes ≡ 32) × (take (4 * i) bytes ≡ flat_map four_bytes (take i words))
    → bytes ≡ digest words
unfolding digest
bytes_all bytes words i e m (n, written) =
    sym (take_all (4 * i) bytes (omega arith)) ∙ written ∙ ap (flat_map four_bytes) (take_all i words (omega arith))

-- a tail that leaves room for the length: one block
pub padded_short
    : (tail : List ℕ) (total : ℕ)
    → length tail ≡ total % 64
    → length tail < 56
    → take 56 (tail ++ (0x80 ∷ replicate (63 - length tail) 0)) ++ eight_bytes ((8 * total) % 2 ^ 64) ≡ tail ++ padding total
unfolding padding
padded_short tail total n h =
    let k = 55 - length tail in
    let split : 63 - length tail ≡ k + 8 = omega arith in
    let zeros : replicate (63 - length tail) 0 ≡ replicate k 0 ++ replicate 8 0
    = ap (λ j. replicate j 0) split ∙ sym (replicate-append-replicate k 8 0)
    in
    let front : List ℕ = tail ++ (0x80 ∷ replicate k 0) in
    let long : length front ≡ 56 = simp (length-append, length-replicate) (omega arith) in
    let cut : take 56 (tail ++ (0x80 ∷ replicate (63 - length tail) 0)) ≡ front
    = ap (λ z. take 56 (tail ++ (0x80 ∷ z))) zeros
    ∙ ap (take 56) (sym (append_assoc tail (0x80 ∷ replicate k 0) (replicate 8 0)))
    ∙ take_at front (replicate 8 0) 56 long
    in
    let count : k ≡ (119 - total % 64) % 64 = omega arith in
    ap (λ xs. xs ++ eight_bytes ((8 * total) % 2 ^ 64)) cut
    ∙ append_assoc tail (0x80 ∷ replicate k 0) (eight_bytes ((8 * total) % 2 ^ 64))
    ∙ ap (λ j. tail ++ ((0x80 ∷ replicate j 0) ++ eight_bytes ((8 * total) % 2 ^ 64))) count

-- a tail that does not: two blocks
pub padded_long
    : (tail : List ℕ) (total : ℕ)
    → length tail ≡ total % 64
    → 56 ≤ length tail
    → (tail ++ (0x80 ∷ replicate (63 - length tail) 0)) ++ (replicate 56 0 ++ eight_bytes ((8 * total) % 2 ^ 64))
    ≡ tail ++ padding total
unfolding padding
padded_long tail total n h =
    let L : List ℕ = eight_bytes ((8 * total) % 2 ^ 64) in
    let k = 63 - length tail in
    let count : k + 56 ≡ (119 - total % 64) % 64 = omega arith in
    let zeros : replicate k 0 ++ replicate 56 0 ≡ replicate ((119 - total % 64) % 64) 0
    = replicate-append-replicate k 56 0 ∙ ap (λ j. replicate j 0) count
    in
    append_assoc tail (0x80 ∷ replicate k 0) (replicate 56 0 ++ L)
    ∙ ap (λ z. tail ++ (0x80 ∷ z)) (sym (append_assoc (replicate k 0) (replicate 56 0) L))
    ∙ ap (λ z. tail ++ ((0x80 ∷ z) ++ L)) zeros

-- the padding of messages whose lengths are equal modulo 2 ^ 64
pub padding_same : (n m : ℕ) → n % 2 ^ 64 ≡ m % 2 ^ 64 → padding n ≡ padding m
unfolding padding
padding_same n m e =
    let low : n % 64 ≡ m % 64 = omega arith in
    let bits : (8 * n) % 2 ^ 64 ≡ (8 * m) % 2 ^ 64 = omega arith in
    ap (λ k. (0x80 ∷ replicate ((119 - k) % 64) 0) ++ eight_bytes ((8 * n) % 2 ^ 64)) low
    ∙ ap (λ k. (0x80 ∷ replicate ((119 - m % 64) % 64) 0) ++ eight_bytes k) bits

-- the last block where it is the only one
pub ended_short
    : (hs tail marked block : List ℕ) (total : ℕ)
    → length tail ≡ total % 64
    → length tail < 56
    → marked ≡ tail ++ (0x80 ∷ replicate (63 - length tail) 0)
    → block ≡ take 56 marked ++ eight_bytes ((8 * total) % 2 ^ 64)
    → length block ≡ 64
    → compressed hs block ≡ absorbed hs (tail ++ padding total)
ended_short hs tail marked block total n h is-marked is_Block long =
    absorbed_one
    hs
    block
    (tail ++ padding total)
    long
    (is_Block
    ∙ ap (λ b. take 56 b ++ eight_bytes ((8 * total) % 2 ^ 64)) is-marked
    ∙ padded_short tail total n h)

-- the last two blocks
pub ended_long
    : (hs tail marked block : List ℕ) (total : ℕ)
    → length tail ≡ total % 64
    → 56 ≤ length tail
    → marked ≡ tail ++ (0x80 ∷ replicate (63 - length tail) 0)
    → block ≡ replicate 56 0 ++ eight_bytes ((8 * total) % 2 ^ 64)
    → length block ≡ 64
    → compressed (compressed hs marked) block ≡ absorbed hs (tail ++ padding total)
ended_long hs tail marked block total n h is-marked is_Block long =
    let whole : length marked ≡ 64 = rw is-marked (simp (length-append, length-replicate) (omega arith)) in
    absorbed_two
    hs
    marked
    block
    (tail ++ padding total)
    whole
    long
    (ap (λ b. marked ++ b) is_Block
    ∙ ap (λ m. m ++ (replicate 56 0 ++ eight_bytes ((8 * total) % 2 ^ 64))) is-marked
    ∙ padded_long tail total n h)

pub length-behind
    : {b b' : List ℕ} (total : ℕ)
    → b ≡ b'
    → take 56 b ++ eight_bytes ((8 * total) % 2 ^ 64) ≡ take 56 b' ++ eight_bytes ((8 * total) % 2 ^ 64)
length-behind total e = ap (λ b. take 56 b ++ eight_bytes ((8 * total) % 2 ^ 64)) e
