-- HMAC: the key's block, and the hash value after it.
use Rattle.std.proofs.Common.{◌≡◌, ℕ, zero, suc, ◌+◌, ◌-◌, ◌*◌, ◌≤◌, ltb, List, [], ◌∷◌, ◌++◌, map, length, take, drop, replicate, sym, refl, ap, ◌∙◌, arith}
use lib.Bits.{bit_xor}
use Rattle.std.specs.List.{flat_map}
use Rattle.std.proofs.lemmas.List.{append_assoc, append-nil, drop_all, drop-replicate, take_all, length-append, length-map, length-replicate}
use Rattle.std.proofs.lemmas.Bool.{cond_both, ltb-false}
use Rattle.sha256.specs.Compression.{compressed}
use Rattle.sha256.specs.Digest.{absorbed, chained, digest, four_bytes, initial, padding, sha_256, sha_256_from}
use Rattle.sha256.specs.Mac.{filled_up, hmac_sha_256, inner_block, key_block, masked, outer_block}
use Rattle.sha256.specs.Sealing.{prepared, sealed}
use Rattle.sha256.proofs.Absorbing.{absorbed_block}

length-compressed : (hs block : List ℕ) → length (compressed hs block) ≡ 8
unfolding compressed
length-compressed hs block = refl

length-chained : (n : ℕ) (hs bytes : List ℕ) → length hs ≡ 8 → length (chained n hs bytes) ≡ 8
unfolding chained
length-chained zero hs bytes e = e
length-chained (suc n) hs bytes e =
    length-chained n (compressed hs (take 64 bytes)) (drop 64 bytes) (length-compressed hs (take 64 bytes))

length-joined : (hs : List ℕ) → length (flat_map four_bytes hs) ≡ 4 * length hs
length-joined [] = refl
length-joined (h ∷ hs) =
    let e = length-joined hs in let n = length-append (four_bytes h) (flat_map four_bytes hs) in omega arith

-- a digest has 32 bytes
pub length-sha_256 : (message : List ℕ) → length (sha_256 message) ≡ 32
unfolding sha_256 digest absorbed
length-sha_256 message =
    let padded = message ++ padding (length message) in
    length-joined (absorbed initial padded) ∙ ap (λ n. 4 * n) (length-chained _ initial padded refl)

-- bytes written over the front of a block of zeros
pub filled_up_is
    : (block bytes : List ℕ) → block ≡ bytes ++ drop (0 + length bytes) (replicate 64 0) → block ≡ filled_up bytes
unfolding filled_up
filled_up_is block bytes put =
    let n : 64 - (0 + length bytes) ≡ 64 - length bytes = omega arith in
    put ∙ ap (λ z. bytes ++ z) (drop-replicate (0 + length bytes) 64 0 ∙ ap (λ k. replicate k 0) n)

length-filled_up : (bytes : List ℕ) → length bytes ≤ 64 → length (filled_up bytes) ≡ 64
unfolding filled_up
length-filled_up bytes h = simp (length-append, length-replicate) (omega arith)

length-key_block : (key : List ℕ) → length (key_block key) ≡ 64
length-key_block key =
    cond_both
    (ltb 64 (length key))
    (sha_256 key)
    key
    (λ k. length (filled_up k) ≡ 64)
    (λ _. length-filled_up (sha_256 key) (omega (arith, length-sha_256 key)))
    (λ e. length-filled_up key (ltb-false 64 (length key) e))

length-masked : (mask : ℕ) (key : List ℕ) → length (masked mask (key_block key)) ≡ 64
unfolding masked
length-masked mask key = length-map (key_block key) (λ b. bit_xor b mask) ∙ length-key_block key

-- a message behind a first block
from_block
    : (block message : List ℕ)
    → length block ≡ 64
    → sha_256_from (compressed initial block) 64 message ≡ sha_256 (block ++ message)
unfolding sha_256_from sha_256
from_block block message n =
    let total : 64 + length message ≡ length (block ++ message) = omega (arith, length-append block message) in
    ap
    digest
    (ap (λ k. absorbed (compressed initial block) (message ++ padding k)) total
    ∙ sym (absorbed_block initial block (message ++ padding (length (block ++ message))) n)
    ∙ ap (absorbed initial) (sym (append_assoc block message (padding (length (block ++ message))))))

-- what the sealer of a key makes of a message is its HMAC under the key
pub sealed_is_hmac : (key message : List ℕ) → sealed (prepared key) message ≡ hmac_sha_256 key message
unfolding hmac_sha_256
sealed_is_hmac key message =
    ap
    (sha_256_from (compressed initial (outer_block key)) 64)
    (from_block (inner_block key) message (length-masked 0x36 key))
    ∙ from_block (outer_block key) (sha_256 (inner_block key ++ message)) (length-masked 0x5c key)

-- all bytes of a block combined with the mask
pub masked_all
    : (items block : List ℕ) (mask i : ℕ)
    → i ≡ 64
    → length block ≡ 64
    → items ≡ map (λ b. bit_xor b mask) (take i block) ++ drop i block
    → items ≡ masked mask block
unfolding masked
masked_all items block mask i e n so_far =
    so_far
    ∙ ap (λ d. map (λ b. bit_xor b mask) (take i block) ++ d) (drop_all i block (omega arith))
    ∙ append-nil (map (λ b. bit_xor b mask) (take i block))
    ∙ ap (map (λ b. bit_xor b mask)) (take_all i block (omega arith))
