-- What a hasher stands for: all that it has taken in so far.
use Rattle.std.specs.Prelude.{ℕ, ◌+◌, ◌%◌, List, ◌++◌, length, take}
use Rattle.sha256.specs.Digest.{absorbed, digest, padding}
use Rattle.sha256.specs.declared.hasher.Hasher.{Hasher}

-- the bytes taken in behind the last whole block
abbrev pub waiting : Hasher → List ℕ
waiting h = take (h.total % 64) h.tail

-- the digest of all that the hasher has taken in with more behind it
unfoldable pub digest_with : Hasher → List ℕ → List ℕ
digest_with h more = digest (absorbed h.words (waiting h ++ (more ++ padding (h.total + length more))))
