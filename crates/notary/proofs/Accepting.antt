-- The keyed notary: prepared keys serve as the keys do, and what is sealed is what is accepted.
use Rattle.std.proofs.Common.{◌≡◌, ℕ, true, ltb, List, [], ◌++◌, map, length, get_or, take, drop, Some, None, Option, sym, refl, ap, ◌∙◌, ⊎_elim, arith}
use Rattle.std.proofs.lemmas.Slice.Eq.{bytes_eq-Decides}
use Rattle.std.proofs.lemmas.List.{drop_at, get_or-map, length-drop, length-take-le, take_all, take-append-drop, take_at}
use Rattle.std.proofs.lemmas.Bool.{cases_lt, cond-false, cond-true, false≢true, le-ltb, lt-ltb}
use Rattle.std.specs.Str.{bytes_eq}
use Rattle.record.proofs.Facts.{statement_first}
use Rattle.record.specs.Kinds.{kind_of}
use Rattle.record.specs.Layout.{seal_part, statement_of, statement_part}
use Rattle.sha256.proofs.Keyed.{length-sha_256, sealed_is_hmac}
use Rattle.sha256.specs.Mac.{hmac_sha_256}
use Rattle.sha256.specs.Sealing.{prepared, sealed}
use Rattle.sha256.specs.declared.mac.Sealer.{Sealer}
use Rattle.notary.specs.Keys.{key_for, key_of_party, keyed, member_key, party_of_kind, seal_good, sealed_record, sealed_under, sealer_at, signers_key}
use Rattle.notary.specs.Laws.{SealedThenAccepted}
use Rattle.notary.specs.declared.party.Party.{Party}
use Rattle.notary.specs.declared.party.Party.TheVariants.{Client, Site}

-- the key at a place of a list
abbrev key_at : List (List ℕ) → ℕ → List ℕ
key_at keys i = get_or keys i []

-- the prepared key of a member seals as the member's key does
member_same
    : (sealers : List Sealer) (keys : List (List ℕ)) (bytes : List ℕ) (i : ℕ)
    → sealers ≡ map prepared keys
    → length keys ≡ 16
    → seal_good sealed bytes (member_key (sealer_at sealers) i)
    ≡ seal_good hmac_sha_256 bytes (member_key (key_at keys) i)
member_same sealers keys bytes i e n =
    ⊎_elim
    (λ below.
    let test = lt-ltb i 16 below in
    let blank : Sealer = record { inner = []; outer = [] } in
    let at : sealer_at sealers i ≡ prepared (key_at keys i)
    = ap (λ ss. sealer_at ss i) e ∙ get_or-map prepared keys i [] blank (omega arith)
    in
    let seals : sealed (sealer_at sealers i) (statement_part bytes) ≡ hmac_sha_256 (key_at keys i) (statement_part bytes)
    = ap (λ s. sealed s (statement_part bytes)) at ∙ sealed_is_hmac (key_at keys i) (statement_part bytes)
    in
    ap (seal_good sealed bytes) (cond-true (ltb i 16) (Some (sealer_at sealers i)) None test)
    ∙ ap (bytes_eq (seal_part bytes)) seals
    ∙ sym (ap (seal_good hmac_sha_256 bytes) (cond-true (ltb i 16) (Some (key_at keys i)) None test)))
    (λ above.
    let test = le-ltb i 16 above in
    ap (seal_good sealed bytes) (cond-false (ltb i 16) (Some (sealer_at sealers i)) None test)
    ∙ sym (ap (seal_good hmac_sha_256 bytes) (cond-false (ltb i 16) (Some (key_at keys i)) None test)))
    (cases_lt i 16)

module _
    (ss cs : List Sealer)
    (sites clients : List (List ℕ))
    (is_sites : ss ≡ map prepared sites)
    (is_clients : cs ≡ map prepared clients)
    (n : length sites ≡ 16)
    (m : length clients ≡ 16)
  where
    party_same
        : (bytes : List ℕ) (i : ℕ) (p : Option Party)
        → seal_good sealed bytes (key_of_party (sealer_at ss) (sealer_at cs) i p)
        ≡ seal_good hmac_sha_256 bytes (key_of_party (key_at sites) (key_at clients) i p)
    party_same bytes i None = refl
    party_same bytes i (Some Client) = member_same cs clients bytes i is_clients m
    party_same bytes i (Some Site) = member_same ss sites bytes i is_sites n

    pub prepared_as_keys : (bytes : List ℕ) → sealed_under ss cs bytes ≡ keyed sites clients bytes
    prepared_as_keys bytes =
        party_same bytes (statement_of bytes).signer (party_of_kind (kind_of (statement_of bytes).kind))

length-hmac : (key message : List ℕ) → length (hmac_sha_256 key message) ≡ 32
unfolding hmac_sha_256
length-hmac key message = length-sha_256 _

-- a sealed record begins with its statement, and ends with its seal
module _ (key bytes : List ℕ) (long : length bytes ≡ 80) where
  statement_there : statement_part (sealed_record hmac_sha_256 key bytes) ≡ statement_part bytes
  statement_there =
      take_at
      (statement_part bytes)
      (hmac_sha_256 key (statement_part bytes))
      48
      (length-take-le 48 bytes (omega arith))

  seal_there : seal_part (sealed_record hmac_sha_256 key bytes) ≡ hmac_sha_256 key (statement_part bytes)
  seal_there =
      ap
      (take 32)
      (drop_at
      (statement_part bytes)
      (hmac_sha_256 key (statement_part bytes))
      48
      (length-take-le 48 bytes (omega arith)))
      ∙ take_all
      32
      (hmac_sha_256 key (statement_part bytes))
      (omega (arith, length-hmac key (statement_part bytes)))

  statement_kept : statement_of (sealed_record hmac_sha_256 key bytes) ≡ statement_of bytes
  statement_kept =
      sym (statement_first.read (sealed_record hmac_sha_256 key bytes))
      ∙ ap statement_of statement_there
      ∙ statement_first.read bytes

  seal_accepted
      : (sites clients : List (List ℕ))
      → signers_key sites clients bytes ≡ Some key
      → keyed sites clients (sealed_record hmac_sha_256 key bytes) ≡ true
  seal_accepted sites clients is_key =
      let r = sealed_record hmac_sha_256 key bytes in
      ap
      (seal_good hmac_sha_256 r)
      (ap (λ s. key_for (key_at sites) (key_at clients) s) statement_kept ∙ is_key)
      ∙ (bytes_eq-Decides (seal_part r) (hmac_sha_256 key (statement_part r))).1
      (seal_there ∙ ap (hmac_sha_256 key) (sym statement_there))

in_two_parts : (bytes : List ℕ) → length bytes ≡ 80 → statement_part bytes ++ seal_part bytes ≡ bytes
in_two_parts bytes long =
    ap (λ b. statement_part bytes ++ b) (take_all 32 (drop 48 bytes) (omega (arith, length-drop 48 bytes)))
    ∙ take-append-drop 48 bytes

only_sealed
    : (bytes : List ℕ) (o : Option (List ℕ))
    → length bytes ≡ 80
    → seal_good hmac_sha_256 bytes o ≡ true
    → (key : List ℕ) × (o ≡ Some key) × (bytes ≡ sealed_record hmac_sha_256 key bytes)
only_sealed bytes None long good = absurd (false≢true good)
only_sealed bytes (Some key) long good = (
  key,
  refl,
  sym (in_two_parts bytes long)
      ∙ ap
      (λ b. statement_part bytes ++ b)
      ((bytes_eq-Decides (seal_part bytes) (hmac_sha_256 key (statement_part bytes))).0 good),
)

pub sealed_then_accepted : SealedThenAccepted
sealed_then_accepted =
    record {
      kept = λ key bytes long. statement_kept key bytes long;
      accepted = λ sites clients key bytes long is_key. seal_accepted key bytes long sites clients is_key;
      nothing_else = λ sites clients bytes long good. only_sealed bytes (signers_key sites clients bytes) long good;
    }
