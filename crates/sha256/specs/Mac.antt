-- HMAC-SHA-256 of a list of bytes: RFC 2104, section 2, with blocks of 64 bytes.
use Rattle.std.specs.Prelude.{ℕ, ◌-◌, cond, List, ◌++◌, map, length, replicate, bit_xor, nat_lt}
use Rattle.sha256.specs.Digest.{sha_256}

-- bytes and zeros behind them, 64 in all
unfoldable pub filled_up : List ℕ → List ℕ
filled_up bytes = bytes ++ replicate (64 - length bytes) 0

-- the key as one block: a key longer than a block is hashed first
abbrev pub key_block : List ℕ → List ℕ
key_block key = filled_up (cond (nat_lt 64 (length key)) (sha_256 key) key)

-- each byte of a block combined with one byte by exclusive or
unfoldable pub masked : ℕ → List ℕ → List ℕ
masked mask block = map (λ b. bit_xor b mask) block

-- the key's block for the inner message: ipad is the byte 0x36
abbrev pub inner_block : List ℕ → List ℕ
inner_block key = masked 0x36 (key_block key)

-- the key's block for the outer message: opad is the byte 0x5c
abbrev pub outer_block : List ℕ → List ℕ
outer_block key = masked 0x5c (key_block key)

-- the inner message is hashed behind the inner block, and its digest behind the outer block
unfoldable pub hmac_sha_256 : List ℕ → List ℕ → List ℕ
hmac_sha_256 key message = sha_256 (outer_block key ++ sha_256 (inner_block key ++ message))
