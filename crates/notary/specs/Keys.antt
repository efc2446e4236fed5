-- Which key a record is sealed under, and when its seal is good.
use Rattle.std.specs.Prelude.{ℕ, Bool, false, cond, List, [], ◌++◌, get_or, Some, None, Option, nat_lt, slice_index_or}
use Rattle.std.specs.Int.Bits.{bit_or, bit_xor}
use Rattle.std.specs.List.{fold}
use Rattle.std.specs.Str.{bytes_eq}
use Rattle.record.specs.Kinds.{kind_of}
use Rattle.record.specs.Layout.{seal_part, statement_of, statement_part}
use Rattle.record.specs.declared.fields.Statement.{Statement}
use Rattle.record.specs.declared.kind.Kind.{Kind}
use Rattle.record.specs.declared.kind.Kind.TheVariants.{Request, Grant, Question, Answer, ReadAnswer, Start, ShowGrant, ShowCert}
use Rattle.sha256.specs.Mac.{hmac_sha_256}
use Rattle.sha256.specs.Sealing.{sealed}
use Rattle.sha256.specs.declared.mac.Sealer.{Sealer}
use Rattle.notary.specs.declared.party.Party.{Party}
use Rattle.notary.specs.declared.party.Party.TheVariants.{Client, Site}

-- Who signs records of a kind. A record that asks to be shown something is signed by nobody.
abbrev pub party_of : Kind → Option Party
party_of Request = Some Client
party_of Grant = Some Site
party_of Question = Some Client
party_of Answer = Some Site
party_of ReadAnswer = Some Site
party_of Start = Some Site
party_of ShowGrant = None
party_of ShowCert = None

-- the party that a number of a kind stands for, if any
abbrev pub party_of_kind : Option Kind → Option Party
party_of_kind None = None
party_of_kind (Some kind) = party_of kind

-- Members of a party are numbered from 0 to 15, and a higher number has no key.
abbrev pub member_key : {K : Type 0} → (ℕ → K) → ℕ → Option K
member_key keys member = cond (nat_lt member 16) (Some (keys member)) None

-- the key of a party's member, with the keys of the sites and those of the clients
abbrev pub key_of_party : {K : Type 0} → (ℕ → K) → (ℕ → K) → ℕ → Option Party → Option K
key_of_party sites clients member None = None
key_of_party sites clients member (Some Client) = member_key clients member
key_of_party sites clients member (Some Site) = member_key sites member

-- the key that a statement is sealed under, if any: that of its signer
abbrev pub key_for : {K : Type 0} → (ℕ → K) → (ℕ → K) → Statement → Option K
key_for sites clients s = key_of_party sites clients s.signer (party_of_kind (kind_of s.kind))

-- whether the seal of a record is what the key makes of its statement
abbrev pub seal_good : {K : Type 0} → (K → List ℕ → List ℕ) → List ℕ → Option K → Bool
seal_good seal bytes None = false
seal_good seal bytes (Some key) = bytes_eq (seal_part bytes) (seal key (statement_part bytes))

-- whether a record is sealed under its signer's key, where `seal` says what a key makes of a statement
abbrev pub sealed_by_signer : {K : Type 0} → (K → List ℕ → List ℕ) → (ℕ → K) → (ℕ → K) → List ℕ → Bool
sealed_by_signer seal sites clients bytes = seal_good seal bytes (key_for sites clients (statement_of bytes))

-- the records that are sealed by HMAC-SHA-256 under the keys of these sites and clients
abbrev pub keyed : List (List ℕ) → List (List ℕ) → List ℕ → Bool
keyed sites clients = sealed_by_signer hmac_sha_256 (λ i. get_or sites i []) (λ i. get_or clients i [])

-- the sealer of a number in a list of prepared keys
abbrev pub sealer_at : List Sealer → ℕ → Sealer
sealer_at sealers i = slice_index_or sealers i (record { inner = []; outer = [] })

-- the records that are sealed under the prepared keys of these sites and clients
abbrev pub sealed_under : List Sealer → List Sealer → List ℕ → Bool
sealed_under sites clients = sealed_by_signer sealed (sealer_at sites) (sealer_at clients)

-- the bits in which pairs of bytes differ
abbrev pub differing : List (ℕ × ℕ) → ℕ
differing = fold (λ bits pair. bit_or bits (bit_xor pair.0 pair.1)) 0

-- the record with the same statement and the seal that a key makes of it
abbrev pub sealed_record : {K : Type 0} → (K → List ℕ → List ℕ) → K → List ℕ → List ℕ
sealed_record seal key bytes = statement_part bytes ++ seal key (statement_part bytes)

-- a record with the seal that a prepared key makes, and as it is where there is no key
abbrev pub sealed_if : Option Sealer → List ℕ → List ℕ
sealed_if None bytes = bytes
sealed_if (Some key) bytes = sealed_record sealed key bytes

-- the key among these sites' and clients' that a record is to be sealed under, if any
abbrev pub signers_key : List (List ℕ) → List (List ℕ) → List ℕ → Option (List ℕ)
signers_key sites clients bytes = key_for (λ i. get_or sites i []) (λ i. get_or clients i []) (statement_of bytes)
