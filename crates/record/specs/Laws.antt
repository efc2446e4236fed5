-- What holds of kinds, claims, statements and likeness, in the format's own words.
use Rattle.std.specs.Prelude.{◌≡◌, ℕ, true, List, take, Some, Decides}
use Rattle.record.specs.Claims.{claim_of, same_claim, alike, signed_by, request, grant, question, answer, read_answer, start, show_grant, show_cert}
use Rattle.record.specs.Kinds.{kind_number, kind_of}
use Rattle.record.specs.Layout.{statement_of, record_bytes, statement_bytes}
use Rattle.record.specs.Ranges.{in_range}
use Rattle.record.specs.RoundTrip.{Fits}
use Rattle.record.specs.declared.fields.Claim.{Claim}
use Rattle.record.specs.declared.fields.Record.{Record}
use Rattle.record.specs.declared.fields.Statement.{Statement}
use Rattle.record.specs.declared.kind.Kind.{Kind}
use Rattle.record.specs.declared.kind.Kind.TheVariants.{Request, Grant, Question, Answer, ReadAnswer, Start, ShowGrant, ShowCert}

-- Each kind has a number of its own, and each number that names a kind is that kind's.
pub record KindsNumbered : Type 0 where
  pub there : (k : Kind) → kind_of (kind_number k) ≡ Some k
  pub back : (n : ℕ) (k : Kind) → kind_of n ≡ Some k → n ≡ kind_number k

-- Claims are the same exactly where they are equal.
abbrev pub ClaimsCompared : Type 0
ClaimsCompared = (a b : Claim) → Decides (same_claim a b) (a ≡ b)

-- Statements are alike exactly where they are equal once one signer stands in both.
abbrev pub AlikeButSigner : Type 0
AlikeButSigner = (site : ℕ) (a b : Statement) → Decides (alike a b) (signed_by site a ≡ signed_by site b)

-- Likeness is an equivalence.
pub record AlikeEquivalence : Type 0 where
  pub reflexive : (a : Statement) → alike a a ≡ true
  pub symmetric : (a b : Statement) → alike a b ≡ true → alike b a ≡ true
  pub transitive : (a b c : Statement) → alike a b ≡ true → alike b c ≡ true → alike a c ≡ true

-- The statement that a kind's own fields make.
abbrev pub as_kind : Kind → Statement → Statement
as_kind Request s = request s.client s.number s.operation
as_kind Grant s = grant s.signer (claim_of s)
as_kind Question s = question s.client s.operation s.nonce
as_kind Answer s = answer s.signer (claim_of s) s.answer
as_kind ReadAnswer s = read_answer s.signer s.client s.operation s.nonce s.round s.place s.answer
as_kind Start s = start s.signer s.round s.place
as_kind ShowGrant s = show_grant s.place
as_kind ShowCert s = show_cert

-- A statement in range holds nothing but its kind's own fields.
abbrev pub NothingElse : Type 0
NothingElse = (f : ℕ) (s : Statement) (k : Kind) → kind_of s.kind ≡ Some k → in_range f s ≡ true → s ≡ as_kind k s

-- The first 48 bytes of a record are its statement's, and the statement is read from them alone.
pub record StatementFirst : Type 0 where
  pub written : (r : Record) → Fits r.statement → take 48 (record_bytes r) ≡ statement_bytes r.statement
  pub read : (bytes : List ℕ) → statement_of (take 48 bytes) ≡ statement_of bytes
