-- HMAC-SHA-256 from the two hash values that a key leads to.
use Rattle.std.specs.Prelude.{ℕ, List}
use Rattle.sha256.specs.Compression.{compressed}
use Rattle.sha256.specs.Digest.{initial, sha_256_from}
use Rattle.sha256.specs.Mac.{inner_block, outer_block}
use Rattle.sha256.specs.declared.mac.Sealer.{Sealer}

-- the sealer of a key: the hash values after the first block of the inner and of the outer message
abbrev pub prepared : List ℕ → Sealer
prepared key = record { inner = compressed initial (inner_block key); outer = compressed initial (outer_block key) }

-- what a sealer makes of a message, whatever hash values it holds
abbrev pub sealed : Sealer → List ℕ → List ℕ
sealed s message = sha_256_from s.outer 64 (sha_256_from s.inner 64 message)
