-- The settlement of a round, and the claims of which a site shows its grant.
use Rattle.std.specs.Prelude.{ℕ, ◌+◌, cond, List, [], ◌∷◌, count_by, Some, None, Option, is_some, ◌==◌, nat_lt}
use Rattle.message.specs.declared.request.Request.{Request}
use Rattle.record.specs.Claims.{no_operation}
use Rattle.record.specs.Limits.{mark}
use Rattle.record.specs.declared.fields.Claim.{Claim}
use Rattle.site.specs.declared.state.Done.{Done}
use Rattle.site.specs.declared.state.Settlement.{Settlement}

-- The claim of a request to a round and place.
abbrev pub claim_for : Request → ℕ → ℕ → Claim
claim_for r round place = record { client = r.client; number = r.number; round = round; place = place; operation = r.operation }

-- The claim of a round's mark to a place.
abbrev pub mark_claim : ℕ → ℕ → Claim
mark_claim round place = record { client = mark; number = round; round = round; place = place; operation = no_operation }

-- A request is still to be done where its number exceeds that of its client's last write.
abbrev pub pending : Option Request → Option Done → Option Request
pending None d = None
pending (Some r) None = Some r
pending (Some r) (Some d) = cond (nat_lt d.claim.number r.number) (Some r) None

-- The requests of a table that are still to be done.
abbrev pub all_pending : List (Option Request) → List (Option Done) → List (Option Request)
all_pending [] ds = []
all_pending (r ∷ rs) [] = pending r None ∷ all_pending rs []
all_pending (r ∷ rs) (d ∷ ds) = pending r d ∷ all_pending rs ds

-- How many requests a table has.
abbrev pub how_many : List (Option Request) → ℕ
how_many requests = count_by is_some requests

-- The last place of a settlement: the mark's is one above the target.
abbrev pub last_place : Settlement → ℕ
last_place s = s.target + 1 + how_many s.requests

-- The claim of a table's requests to a place, if one has it: they have the places from `at` on, in their clients' order.
abbrev pub request_at : List (Option Request) → ℕ → ℕ → ℕ → Option Claim
request_at [] round at place = None
request_at (None ∷ rs) round at place = request_at rs round at place
request_at (Some r ∷ rs) round at place = cond (at == place) (Some (claim_for r round place)) (request_at rs round (at + 1) place)

-- A settlement's claim to a place, if it has one.
abbrev pub settled_at : Option Settlement → ℕ → ℕ → Option Claim
settled_at None round place = None
settled_at (Some s) round place =
    cond (place == s.target + 1) (Some (mark_claim round place)) (request_at s.requests round (s.target + 2) place)

-- The claim of which a site shows its grant at a place: of its settlement, or the one that is out.
abbrev pub or_out : Option Claim → Option Claim → ℕ → Option Claim
or_out (Some c) out place = Some c
or_out None None place = None
or_out None (Some c) place = cond (c.place == place) (Some c) None
