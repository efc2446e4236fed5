-- Which fields a statement of each kind may have.
use Rattle.std.specs.Prelude.{ℕ, Bool, false, cond, ◌&&◌, Some, None, Option, ◌==◌, nat_le}
use Rattle.std.specs.Str.{bytes_eq}
use Rattle.record.specs.Claims.{no_operation}
use Rattle.record.specs.Kinds.{kind_of}
use Rattle.record.specs.Limits.{highest_round, highest_place, highest_client, highest_site, mark}
use Rattle.record.specs.declared.fields.Statement.{Statement}
use Rattle.record.specs.declared.kind.Kind.{Kind}
use Rattle.record.specs.declared.kind.Kind.TheVariants.{Request, Grant, Question, Answer, ReadAnswer, Start, ShowGrant, ShowCert}

-- The signer is a site of a pool of 3f+1.
abbrev pub by_site : ℕ → Statement → Bool
by_site f s = nat_le s.signer (highest_site f)

-- The signer is the client itself.
abbrev pub by_client : Statement → Bool
by_client s = s.signer == s.client && nat_le s.client highest_client

-- Nobody signed and no client is named.
abbrev pub by_nobody : Statement → Bool
by_nobody s = s.signer == 0 && s.client == 0

abbrev pub no_number : Statement → Bool
no_number s = s.number == 0

abbrev pub no_round_or_place : Statement → Bool
no_round_or_place s = s.round == 0 && s.place == 0

abbrev pub empty_operation : Statement → Bool
empty_operation s = bytes_eq s.operation no_operation

abbrev pub no_answer : Statement → Bool
no_answer s = s.answer == 0

abbrev pub no_nonce : Statement → Bool
no_nonce s = s.nonce == 0

-- Round and place within their limits, the place from a lowest one on.
abbrev pub at_place : ℕ → Statement → Bool
at_place lowest s = nat_le s.round highest_round && nat_le lowest s.place && nat_le s.place highest_place

-- The mark of a round has the round's number and no operation; every other client is one of the sixteen.
abbrev pub client_or_mark : Statement → Bool
client_or_mark s = cond (s.client == mark) (s.number == s.round && empty_operation s) (nat_le s.client highest_client)

-- The fields of a claim: a client or the mark, a number from 1, a round, and a place from 1.
abbrev pub claims : Statement → Bool
claims s = client_or_mark s && nat_le 1 s.number && at_place 1 s

-- The fields of each kind; those that a kind does not use are zero.
abbrev pub in_range_as : ℕ → Kind → Statement → Bool
in_range_as f Request s = by_client s && nat_le 1 s.number && no_round_or_place s && no_answer s && no_nonce s
in_range_as f Grant s = by_site f s && claims s && no_answer s && no_nonce s
in_range_as f Question s = by_client s && no_number s && no_round_or_place s && no_answer s
in_range_as f Answer s = by_site f s && claims s && no_nonce s
in_range_as f ReadAnswer s = by_site f s && nat_le s.client highest_client && no_number s && at_place 0 s
in_range_as f Start s = by_site f s && s.client == 0 && no_number s && at_place 0 s && empty_operation s && no_answer s && no_nonce s
in_range_as f ShowGrant s = by_nobody s && no_number s && s.round == 0 && at_place 1 s && empty_operation s && no_answer s && no_nonce s
in_range_as f ShowCert s = by_nobody s && no_number s && no_round_or_place s && empty_operation s && no_answer s && no_nonce s

abbrev pub in_range_if : ℕ → Option Kind → Statement → Bool
in_range_if f (Some kind) s = in_range_as f kind s
in_range_if f None s = false

-- Whether a statement is in range, in a pool of 3f+1 sites: it is of a known kind, its byte 3 is zero, and its fields are those of its kind.
abbrev pub in_range : ℕ → Statement → Bool
in_range f s = s.spare == 0 && in_range_if f (kind_of s.kind) s
