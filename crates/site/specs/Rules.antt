-- The rules of a site: what it replies to each message in each stage, and what it is then.
use Rattle.std.specs.Prelude.{◌≡◌, ℕ, ◌+◌, Bool, false, cond, ◌||◌, List, Some, None, Ok, Err, Option, Result, ◌==◌, nat_le, nat_lt, slice_set}
use Rattle.object.specs.Rules.{Rules}
use Rattle.message.specs.Said.{Said, write_1, read, write_2, resolve, round, show_grant, show_cert}
use Rattle.message.specs.declared.faults.SiteFault.{SiteFault}
use Rattle.message.specs.declared.faults.SiteFault.TheVariants.{Wait, Ahead, Nothing}
use Rattle.message.specs.declared.request.Request.{Request}
use Rattle.record.specs.Claims.{grant, answer, read_answer, start}
use Rattle.record.specs.declared.fields.Claim.{Claim}
use Rattle.record.specs.declared.fields.Statement.{Statement}
use Rattle.site.specs.Answers.{stored, queued, placed, taken}
use Rattle.site.specs.Ledgers.{noted, taken_back, calls_back, Kept, calls, answer_to, performed, restored}
use Rattle.site.specs.Settling.{claim_for, all_pending, last_place, settled_at, or_out}
use Rattle.site.specs.Tables.{entry, no_entries, tabled}
use Rattle.site.specs.declared.reply.Reply.{Reply}
use Rattle.site.specs.declared.reply.Reply.TheVariants.{Silent, Says, Shows}
use Rattle.site.specs.declared.reply.Then.{Then}
use Rattle.site.specs.declared.reply.Then.TheVariants.{Stay, Settle, Opens}
use Rattle.site.specs.declared.state.Asked.{Asked}
use Rattle.site.specs.declared.state.Current.{Current}
use Rattle.site.specs.declared.state.Ledger.{Ledger}
use Rattle.site.specs.declared.state.Settlement.{Settlement}
use Rattle.site.specs.declared.state.Stage.{Stage}
use Rattle.site.specs.declared.state.Stage.TheVariants.{Open, Frozen, Pulling, Settling}
use Rattle.site.specs.declared.state.State.{State}

-- No grant is out and no request waits.
abbrev pub nobody_asked : Asked
nobody_asked = record { out = None; waiting = no_entries }

-- The site in another stage.
abbrev pub in_stage : State → Stage → State
in_stage st stage = record { stage = stage; round = st.round; settlement = st.settlement; asked = st.asked; ledger = st.ledger }

-- The claim that is out, or else one that is granted now.
abbrev pub out_or : Option Claim → Claim → Claim
out_or (Some c) new = c
out_or None new = new

-- WRITE-1 -----------------------------------------------------------------------------------------------------

-- The claim that the reply to a request grants: the one that is out, or the request's own to the next place.
abbrev pub granted : State → Request → Claim
granted st r = out_or st.asked.out (claim_for r st.round (st.ledger.place + 1))

-- The request waits, and that claim is out.
abbrev pub waits : State → Request → State
waits st r = record {
  stage = st.stage;
  round = st.round;
  settlement = st.settlement;
  asked = record { out = Some (granted st r); waiting = slice_set st.asked.waiting r.client (Some r) };
  ledger = st.ledger;
}

-- What a call leaves and replies, apart from the object.
pub record Turn : Type 0 where
  pub state : State
  pub reply : Result Reply SiteFault

abbrev pub refuses : State → SiteFault → Turn
refuses st fault = record { state = st; reply = Err fault }

abbrev pub says : State → Statement → Turn
says st statement = record { state = st; reply = Ok (Says statement) }

abbrev pub if_queued : ℕ → State → Request → Result (Unit {0}) SiteFault → Turn
if_queued site st r (Err fault) = refuses st fault
if_queued site st r (Ok _) = says (waits st r) (grant site (granted st r))

abbrev pub if_new : ℕ → State → Request → ℕ → Result (Option Statement) SiteFault → Turn
if_new site st r index (Err fault) = refuses st fault
if_new site st r index (Ok (Some again)) = says st again
if_new site st r index (Ok None) = if_queued site st r (queued st.asked.out (entry st.asked.waiting r.client) r st.ledger.place index)

-- A request at an OPEN site. The index is that of the REQUEST in its message.
abbrev pub requested : ℕ → State → Request → ℕ → Turn
requested site st r index = if_new site st r index (stored site (entry st.ledger.done r.client) r.number r.operation index)

abbrev pub write_1_in : ℕ → State → Request → Stage → Turn
write_1_in site st r Open = requested site st r 0
write_1_in site st r Frozen = refuses st Wait
write_1_in site st r (Pulling left target requests) = refuses st Wait
write_1_in site st r (Settling last) = refuses st Wait

-- RESOLVE -----------------------------------------------------------------------------------------------------

abbrev pub resolve_in : ℕ → ℕ → State → ℕ → ℕ → Request → Stage → Turn
resolve_in site index st named place r Open =
    cond (nat_lt st.round named) (refuses st Ahead)
    (cond (nat_lt named st.round || nat_le place st.ledger.place) (requested site st r index)
    (says (in_stage st Frozen) (start site st.round st.ledger.place)))
resolve_in site index st named place r Frozen = says st (start site st.round st.ledger.place)
resolve_in site index st named place r (Pulling left target requests) = refuses st Wait
resolve_in site index st named place r (Settling last) = refuses st Wait

-- Settling ----------------------------------------------------------------------------------------------------

-- The settlement that a site makes once it has reached the target: of the requests still to be done.
abbrev pub settlement_of : Ledger → ℕ → List (Option Request) → Settlement
settlement_of ledger target requests = record { target = target; requests = all_pending requests ledger.done }

-- The stage and the settlement after a write: those of before, or SETTLING with a settlement, or OPEN.
abbrev pub stage_then : Then → Stage → Settlement → Stage
stage_then Stay stage made = stage
stage_then Settle stage made = Settling (last_place made)
stage_then Opens stage made = Open

abbrev pub settlement_then : Then → Option Settlement → Settlement → Option Settlement
settlement_then Stay old made = old
settlement_then Settle old made = Some made
settlement_then Opens old made = old

-- What a site settles for: the target and the requests that it keeps while it is PULLING.
abbrev pub kept_target : Stage → ℕ
kept_target Open = 0
kept_target Frozen = 0
kept_target (Pulling left target requests) = target
kept_target (Settling last) = 0

abbrev pub kept_requests : Stage → List (Option Request)
kept_requests Open = no_entries
kept_requests Frozen = no_entries
kept_requests (Pulling left target requests) = requests
kept_requests (Settling last) = no_entries

-- WRITE-2 -----------------------------------------------------------------------------------------------------

-- The round whose certificates a site does: its own, or the one that it left, while it is PULLING.
abbrev pub due_in : Stage → ℕ → ℕ
due_in Open v = v
due_in Frozen v = v
due_in (Pulling left target requests) v = left
due_in (Settling last) v = v

-- What a site becomes once it has done the write of a claim to a place: PULLING that reaches its target settles, SETTLING
-- that reaches its last place is OPEN.
abbrev pub then_at : Stage → ℕ → Then
then_at Open place = Stay
then_at Frozen place = Stay
then_at (Pulling left target requests) place = cond (place == target) Settle Stay
then_at (Settling last) place = cond (place == last) Opens Stay

abbrev pub then_in : Stage → Said → Then
then_in stage (write_1 r) = Stay
then_in stage (read q) = Stay
then_in stage (write_2 claim certificate) = then_at stage claim.place
then_in stage (resolve named place r) = Stay
then_in stage (round named target requests) = Stay
then_in stage (show_grant place) = Stay
then_in stage show_cert = Stay

-- The site after a write. The ledger is that after the write.
abbrev pub moved : State → Ledger → Then → State
moved st ledger next = record {
  stage = stage_then next st.stage (settlement_of ledger (kept_target st.stage) (kept_requests st.stage));
  round = st.round;
  settlement = settlement_then next st.settlement (settlement_of ledger (kept_target st.stage) (kept_requests st.stage));
  asked = nobody_asked;
  ledger = ledger;
}

-- ROUND -------------------------------------------------------------------------------------------------------

-- The ledger from which a site goes on: the last write taken back where it stands one place past the target.
abbrev pub struck : Ledger → ℕ → Ledger
struck ledger target = cond (ledger.place == target + 1) (taken_back ledger ledger.backup) ledger

abbrev pub strikes_object : Ledger → ℕ → Bool
strikes_object ledger target = cond (ledger.place == target + 1) (calls_back ledger.backup) false

-- The next round: PULLING below the target, else SETTLING.
abbrev pub begun : State → Ledger → ℕ → List (Option Request) → State
begun st ledger target requests =
    cond (nat_lt ledger.place target)
    (record { stage = Pulling st.round target requests; round = st.round + 1; settlement = None; asked = nobody_asked; ledger = ledger })
    (record {
      stage = Settling (last_place (settlement_of ledger target requests));
      round = st.round + 1;
      settlement = Some (settlement_of ledger target requests);
      asked = nobody_asked;
      ledger = ledger;
    })

-- READ and the SHOWs ------------------------------------------------------------------------------------------

abbrev pub current_round : Option Current → ℕ
current_round None = 0
current_round (Some c) = c.claim.round

abbrev pub current_place : Option Current → ℕ
current_place None = 0
current_place (Some c) = c.claim.place

abbrev pub grant_shown : ℕ → State → Option Claim → Turn
grant_shown site st None = refuses st Nothing
grant_shown site st (Some c) = says st (grant site c)

abbrev pub cert_shown : State → Option Current → Turn
cert_shown st None = refuses st Nothing
cert_shown st (Some c) = record { state = st; reply = Ok Shows }

-- With the object ---------------------------------------------------------------------------------------------

module _ (R : Rules) where
  -- What a call leaves and replies.
  pub record Outcome : Type 0 where
    pub state : State
    pub kept : Kept R
    pub reply : Result Reply SiteFault

  -- A call did what an outcome says.
  pub record Does (outcome : Outcome) (after : State) (object : Kept R) (replied : Result Reply SiteFault) : Type 0 where
    pub state : after ≡ outcome.state
    pub kept : object ≡ outcome.kept
    pub reply : replied ≡ outcome.reply

  -- A turn that leaves the object as it is.
  abbrev pub without_object : Kept R → Turn → Outcome
  without_object kept turn = record { state = turn.state; kept = kept; reply = turn.reply }

  abbrev pub done : ℕ → State → Kept R → Claim → List ℕ → Then → Outcome
  done site st kept claim certificate next = record {
    state = moved st (noted st.ledger claim certificate (answer_to R kept claim) (calls R claim)) next;
    kept = performed R kept claim;
    reply = Ok (Says (answer site claim (answer_to R kept claim)));
  }

  abbrev pub if_placed : ℕ → State → Kept R → Claim → List ℕ → Then → Result (Unit {0}) SiteFault → Outcome
  if_placed site st kept claim certificate next (Err fault) = without_object kept (refuses st fault)
  if_placed site st kept claim certificate next (Ok _) = done site st kept claim certificate next

  abbrev pub if_fresh : ℕ → State → Kept R → Claim → List ℕ → ℕ → Then → Result (Option Statement) SiteFault → Outcome
  if_fresh site st kept claim certificate due next (Err fault) = without_object kept (refuses st fault)
  if_fresh site st kept claim certificate due next (Ok (Some again)) = without_object kept (says st again)
  if_fresh site st kept claim certificate due next (Ok None) = if_placed site st kept claim certificate next (placed due st.ledger.place claim)

  -- A certificate where a round is due, and what the site becomes once the write is done.
  abbrev pub written : ℕ → State → Kept R → Claim → List ℕ → ℕ → Then → Outcome
  written site st kept claim certificate due next =
      if_fresh site st kept claim certificate due next (stored site (entry st.ledger.done claim.client) claim.number claim.operation 0)

  abbrev pub write_2_in : ℕ → State → Kept R → Claim → List ℕ → Stage → Outcome
  write_2_in site st kept claim certificate Open = written site st kept claim certificate st.round Stay
  write_2_in site st kept claim certificate Frozen = without_object kept (refuses st Wait)
  write_2_in site st kept claim certificate (Pulling left target requests) =
      written site st kept claim certificate left (cond (claim.place == target) Settle Stay)
  write_2_in site st kept claim certificate (Settling last) =
      written site st kept claim certificate st.round (cond (claim.place == last) Opens Stay)

  abbrev pub if_taken : State → Kept R → ℕ → List Request → Result (Unit {0}) SiteFault → Outcome
  if_taken st kept target requests (Err fault) = without_object kept (refuses st fault)
  if_taken st kept target requests (Ok _) = record {
    state = begun st (struck st.ledger target) target (tabled requests no_entries);
    kept = restored R kept (strikes_object st.ledger target);
    reply = Ok Silent;
  }

  abbrev pub round_in : State → Kept R → ℕ → ℕ → List Request → Stage → Outcome
  round_in st kept named target requests Open = if_taken st kept target requests (taken st.round st.ledger.place named target)
  round_in st kept named target requests Frozen = if_taken st kept target requests (taken st.round st.ledger.place named target)
  round_in st kept named target requests (Pulling left old olds) = without_object kept (refuses st Wait)
  round_in st kept named target requests (Settling last) = without_object kept (refuses st Wait)

  abbrev pub looked : ℕ → State → Kept R → Statement → Statement
  looked site st kept q =
      read_answer site q.client q.operation q.nonce (current_round st.ledger.current) (current_place st.ledger.current) (R.look kept.value q.operation)

  -- What a site does with a message that passed the checks. The index is that of a RESOLVE's REQUEST.
  abbrev pub step : ℕ → ℕ → State → Kept R → Said → Outcome
  step site index st kept (write_1 r) = without_object kept (write_1_in site st r st.stage)
  step site index st kept (read q) = without_object kept (says st (looked site st kept q))
  step site index st kept (write_2 claim certificate) = write_2_in site st kept claim certificate st.stage
  step site index st kept (resolve named place r) = without_object kept (resolve_in site index st named place r st.stage)
  step site index st kept (round named target requests) = round_in st kept named target requests st.stage
  step site index st kept (show_grant place) =
      without_object kept (grant_shown site st (or_out (settled_at st.settlement st.round place) st.asked.out place))
  step site index st kept show_cert = without_object kept (cert_shown st st.ledger.current)
