-- The compression function of SHA-256: FIPS 180-4, sections 4.2.2, 5.2.1 and 6.2.2.
use Rattle.std.specs.Prelude.{ℕ, zero, suc, ◌+◌, ◌-◌, ◌*◌, List, [], ◌∷◌, ◌++◌, map, length, slice_index}
use Rattle.std.specs.List.{range_with_len}
use Rattle.sha256.specs.declared.compression.Working.{Working}
use Rattle.sha256.specs.Words.{plus, choose, majority, Σ₀, Σ₁, σ₀, σ₁}

-- the constants K₀ to K₆₃: the first 32 bits of the fractional parts of the cube roots of the first 64 primes
abbrev pub constants : List ℕ
constants =
    0x428a2f98 ∷ 0x71374491 ∷ 0xb5c0fbcf ∷ 0xe9b5dba5 ∷ 0x3956c25b ∷ 0x59f111f1 ∷ 0x923f82a4 ∷ 0xab1c5ed5
    ∷ 0xd807aa98 ∷ 0x12835b01 ∷ 0x243185be ∷ 0x550c7dc3 ∷ 0x72be5d74 ∷ 0x80deb1fe ∷ 0x9bdc06a7 ∷ 0xc19bf174
    ∷ 0xe49b69c1 ∷ 0xefbe4786 ∷ 0x0fc19dc6 ∷ 0x240ca1cc ∷ 0x2de92c6f ∷ 0x4a7484aa ∷ 0x5cb0a9dc ∷ 0x76f988da
    ∷ 0x983e5152 ∷ 0xa831c66d ∷ 0xb00327c8 ∷ 0xbf597fc7 ∷ 0xc6e00bf3 ∷ 0xd5a79147 ∷ 0x06ca6351 ∷ 0x14292967
    ∷ 0x27b70a85 ∷ 0x2e1b2138 ∷ 0x4d2c6dfc ∷ 0x53380d13 ∷ 0x650a7354 ∷ 0x766a0abb ∷ 0x81c2c92e ∷ 0x92722c85
    ∷ 0xa2bfe8a1 ∷ 0xa81a664b ∷ 0xc24b8b70 ∷ 0xc76c51a3 ∷ 0xd192e819 ∷ 0xd6990624 ∷ 0xf40e3585 ∷ 0x106aa070
    ∷ 0x19a4c116 ∷ 0x1e376c08 ∷ 0x2748774c ∷ 0x34b0bcb5 ∷ 0x391c0cb3 ∷ 0x4ed8aa4a ∷ 0x5b9cca4f ∷ 0x682e6ff3
    ∷ 0x748f82ee ∷ 0x78a5636f ∷ 0x84c87814 ∷ 0x8cc70208 ∷ 0x90befffa ∷ 0xa4506ceb ∷ 0xbef9a3f7 ∷ 0xc67178f2 ∷ []

-- word t of a block of 64 bytes, high byte first
abbrev pub block_word : List ℕ → ℕ → ℕ
block_word block t =
    slice_index block (4 * t) * 16777216 + slice_index block (4 * t + 1) * 65536 + slice_index block (4 * t + 2) * 256 + slice_index block (4 * t + 3)

-- the word Wₜ that follows W₀ to Wₜ₋₁
abbrev pub schedule_word : List ℕ → ℕ → ℕ
schedule_word ws t = plus (plus (plus (σ₁ (slice_index ws (t - 2))) (slice_index ws (t - 7))) (σ₀ (slice_index ws (t - 15)))) (slice_index ws (t - 16))

-- n more words of the schedule after those given
unfoldable pub extended : ℕ → List ℕ → List ℕ
extended zero ws = ws
extended (suc n) ws = extended n ws ++ schedule_word (extended n ws) (length (extended n ws)) ∷ []

-- the sixteen words of a block
unfoldable pub words_of : List ℕ → List ℕ
words_of block = map (block_word block) (range_with_len 0 16)

-- the message schedule W₀ to W₆₃ of a block: its 16 words, then 48 more
unfoldable pub schedule : List ℕ → List ℕ
schedule block = extended 48 (words_of block)

-- T₁ and T₂ of round t, with the word w of that round
abbrev pub T₁ : Working → ℕ → ℕ → ℕ
T₁ v t w = plus (plus (plus (plus v.h (Σ₁ v.e)) (choose v.e v.f v.g)) (slice_index constants t)) w

abbrev pub T₂ : Working → ℕ
T₂ v = plus (Σ₀ v.a) (majority v.a v.b v.c)

-- the eight working variables after round t
abbrev pub after_round : Working → ℕ → ℕ → Working
after_round v t w =
    record
    { a = plus (T₁ v t w) (T₂ v); b = v.a; c = v.b; d = v.c; e = plus v.d (T₁ v t w); f = v.e; g = v.f; h = v.g }

-- the working variables after the rounds 0 to n - 1 with the schedule ws
unfoldable pub rounds : ℕ → List ℕ → Working → Working
rounds zero ws v = v
rounds (suc t) ws v = after_round (rounds t ws v) t (slice_index ws t)

-- the working variables at the start, from the hash value so far
abbrev pub start : List ℕ → Working
start hs =
    record {
      a = slice_index hs 0;
      b = slice_index hs 1;
      c = slice_index hs 2;
      d = slice_index hs 3;
      e = slice_index hs 4;
      f = slice_index hs 5;
      g = slice_index hs 6;
      h = slice_index hs 7;
    }

-- the sum of a hash value and the working variables, word by word
abbrev pub added : List ℕ → Working → List ℕ
added hs v =
    plus (slice_index hs 0) v.a ∷ plus (slice_index hs 1) v.b ∷ plus (slice_index hs 2) v.c ∷ plus (slice_index hs 3) v.d
    ∷ plus (slice_index hs 4) v.e ∷ plus (slice_index hs 5) v.f ∷ plus (slice_index hs 6) v.g ∷ plus (slice_index hs 7) v.h ∷ []

-- the hash value after one more block
unfoldable pub compressed : List ℕ → List ℕ → List ℕ
compressed hs block = added hs (rounds 64 (schedule block) (start hs))
