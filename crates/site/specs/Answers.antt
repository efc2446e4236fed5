-- What a site refuses, and what it answers from what it has done.
use Rattle.std.specs.Prelude.{ℕ, ◌+◌, cond, ◌||◌, List, Some, None, Ok, Err, Option, Result, ◌==◌, nat_le, nat_lt}
use Rattle.std.specs.Str.{bytes_eq}
use Rattle.message.specs.declared.faults.SiteFault.{SiteFault}
use Rattle.message.specs.declared.faults.SiteFault.TheVariants.{Old, Spent, Busy, Ahead, Stale, Taken, Gap, UsedUp, TooFar}
use Rattle.message.specs.declared.request.Request.{Request}
use Rattle.record.specs.Claims.{answer}
use Rattle.record.specs.Limits.{highest_round}
use Rattle.record.specs.declared.fields.Claim.{Claim}
use Rattle.record.specs.declared.fields.Statement.{Statement}
use Rattle.site.specs.Tables.{same_request}
use Rattle.site.specs.declared.state.Done.{Done}

-- A request beside the client's last write: an older number is OLD, the same number and operation get the stored ANSWER,
-- the same number with another operation is SPENT. Else it is new.
abbrev pub stored : ℕ → Option Done → ℕ → List ℕ → ℕ → Result (Option Statement) SiteFault
stored site None number operation index = Ok None
stored site (Some d) number operation index =
    cond (nat_lt number d.claim.number) (Err (Old index))
    (cond (number == d.claim.number)
    (cond (bytes_eq operation d.claim.operation) (Ok (Some (answer site d.claim d.answer))) (Err (Spent index)))
    (Ok None))

-- There is a place to grant, up to the limit of places.
abbrev pub room : ℕ → ℕ → Result (Unit {0}) SiteFault
room place index = cond (nat_le highest_round place) (Err (UsedUp index)) (Ok tt)

-- Where a grant is out, it is the reply.
abbrev pub granting : Option Claim → ℕ → ℕ → Result (Unit {0}) SiteFault
granting (Some c) place index = Ok tt
granting None place index = room place index

-- A new request beside the one of its client that waits: another is BUSY. Else it may wait.
abbrev pub queued : Option Claim → Option Request → Request → ℕ → ℕ → Result (Unit {0}) SiteFault
queued out None r place index = room place index
queued out (Some w) r place index = cond (same_request w r) (granting out place index) (Err (Busy index))

-- What names the round that is due.
abbrev pub in_round : ℕ → ℕ → Result (Unit {0}) SiteFault
in_round named due = cond (nat_lt due named) (Err Ahead) (cond (nat_lt named due) (Err Stale) (Ok tt))

-- A claim beside the round that is due and the place: it is done where it is of that round and of the next place.
abbrev pub placed : ℕ → ℕ → Claim → Result (Unit {0}) SiteFault
placed due place claim =
    cond (nat_lt due claim.round) (Err Ahead)
    (cond (nat_lt claim.round due) (Err Stale)
    (cond (nat_le claim.place place) (Err Taken)
    (cond (claim.place == place + 1) (Ok tt) (Err Gap))))

-- A ROUND beside a site's round and place.
abbrev pub taken : ℕ → ℕ → ℕ → ℕ → Result (Unit {0}) SiteFault
taken round place named target =
    cond (nat_lt round named) (Err Ahead)
    (cond (nat_lt named round) (Err Stale)
    (cond (nat_le highest_round round || nat_le highest_round target) (Err (UsedUp 0))
    (cond (nat_lt (target + 1) place) (Err TooFar) (Ok tt))))
