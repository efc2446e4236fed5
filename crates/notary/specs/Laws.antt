-- What holds of the book notary and of the keyed notary, in the users' words.
use Rattle.std.specs.Prelude.{◌≡◌, ℕ, ◌<◌, true, List, length, Some, Decides}
use Rattle.record.specs.Layout.{statement_of}
use Rattle.sha256.specs.Mac.{hmac_sha_256}
use Rattle.notary.specs.Book.{entries, entry_at, in_book}
use Rattle.notary.specs.Keys.{keyed, sealed_record, signers_key}

-- The book notary accepts a record exactly where it stands at some place among the book's whole records.
abbrev pub BookEntries : Type 0
BookEntries =
    (book bytes : List ℕ) → Decides (in_book book bytes) ((k : ℕ) × (k < entries book) × (entry_at k book ≡ bytes))

-- Of the keyed notary with these keys of sites and clients:
pub record SealedThenAccepted : Type 0 where
  -- sealing leaves what a record states;
  pub kept
      : (key bytes : List ℕ) → length bytes ≡ 80 → statement_of (sealed_record hmac_sha_256 key bytes) ≡ statement_of bytes
  -- what is sealed under its signer's key is accepted;
  pub accepted
      : (sites clients : List (List ℕ)) (key bytes : List ℕ)
      → length bytes ≡ 80
      → signers_key sites clients bytes ≡ Some key
      → keyed sites clients (sealed_record hmac_sha_256 key bytes) ≡ true
  -- and what is accepted is what sealing under its signer's key gives.
  pub nothing_else
      : (sites clients : List (List ℕ)) (bytes : List ℕ)
      → length bytes ≡ 80
      → keyed sites clients bytes ≡ true
      → (key : List ℕ) × (signers_key sites clients bytes ≡ Some key) × (bytes ≡ sealed_record hmac_sha_256 key bytes)
