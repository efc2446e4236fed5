-- SHA-256 of a list of bytes: FIPS 180-4, sections 5.1.1, 5.3.3 and 6.2.
use Rattle.std.specs.Prelude.{ℕ, zero, suc, ◌+◌, ◌-◌, ◌*◌, ◌/◌, ◌%◌, ◌^◌, List, [], ◌∷◌, ◌++◌, length, take, drop, replicate}
use Rattle.std.specs.List.{flat_map}
use Rattle.sha256.specs.Compression.{compressed}

-- the initial hash value: the first 32 bits of the fractional parts of the square roots of the first eight primes
abbrev pub initial : List ℕ
initial =
    0x6a09e667 ∷ 0xbb67ae85 ∷ 0x3c6ef372 ∷ 0xa54ff53a ∷ 0x510e527f ∷ 0x9b05688c ∷ 0x1f83d9ab ∷ 0x5be0cd19 ∷ []

-- the four bytes of a word, high byte first
abbrev pub four_bytes : ℕ → List ℕ
four_bytes x = (x / 2 ^ 24 % 256) ∷ (x / 2 ^ 16 % 256) ∷ (x / 2 ^ 8 % 256) ∷ (x % 256) ∷ []

-- the eight bytes of a number below 2 ^ 64, high byte first
abbrev pub eight_bytes : ℕ → List ℕ
eight_bytes x =
    (x / 2 ^ 56 % 256) ∷ (x / 2 ^ 48 % 256) ∷ (x / 2 ^ 40 % 256) ∷ (x / 2 ^ 32 % 256) ∷ (x / 2 ^ 24 % 256)
    ∷ (x / 2 ^ 16 % 256) ∷ (x / 2 ^ 8 % 256) ∷ (x % 256) ∷ []

-- What is put behind a message of n bytes: a bit 1, then as few bits 0 as make it 8 bytes short of whole blocks, then the length in bits.
-- The standard knows messages below 2 ^ 64 bits. For a longer one the length is taken modulo 2 ^ 64.
unfoldable pub padding : ℕ → List ℕ
padding n = (0x80 ∷ replicate ((119 - n % 64) % 64) 0) ++ eight_bytes ((8 * n) % 2 ^ 64)

-- the hash value hs after the first n blocks of the bytes
unfoldable pub chained : ℕ → List ℕ → List ℕ → List ℕ
chained zero hs bytes = hs
chained (suc n) hs bytes = chained n (compressed hs (take 64 bytes)) (drop 64 bytes)

-- the hash value hs after all whole blocks of the bytes
unfoldable pub absorbed : List ℕ → List ℕ → List ℕ
absorbed hs bytes = chained (length bytes / 64) hs bytes

-- the 32 bytes of a hash value
unfoldable pub digest : List ℕ → List ℕ
digest hs = flat_map four_bytes hs

-- the digest of a message
unfoldable pub sha_256 : List ℕ → List ℕ
sha_256 message = digest (absorbed initial (message ++ padding (length message)))

-- the digest of n bytes, whole blocks that led to the hash value hs, and of the message behind them
unfoldable pub sha_256_from : List ℕ → ℕ → List ℕ → List ℕ
sha_256_from hs n message = digest (absorbed hs (message ++ padding (n + length message)))
