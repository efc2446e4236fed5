-- Worked examples of one site, together. The site is number 0 of a pool of four, its object the titles, all unissued at first. The notary
-- is any that accepts the records of the messages below; what they are sealed with is of no account here, so the seals are zero.
use Rattle.std.specs.Prelude.{◌≡◌, ℕ, Bool, true, List, [], ◌∷◌, ◌++◌, length, drop, replicate, None, Ok, Err}
use Rattle.object.specs.Titles.{titles_first, titles_rules, state}
use Rattle.object.specs.declared.titles.Title.TheVariants.{HeldBy}
use Rattle.record.specs.Claims.{no_operation, request, grant, answer, start, show_grant}
use Rattle.record.specs.declared.fields.Claim.{Claim}
use Rattle.message.specs.Checks.{first_unvouched}
use Rattle.message.specs.Refusals.{refusal_at}
use Rattle.message.specs.declared.refusal.Refusal.{Refusal}
use Rattle.message.specs.declared.request.Request.{Request}
use Rattle.site.specs.Call.{fresh, Called, call}
use Rattle.site.specs.LifeExample.{sealed, three, certificate}
use Rattle.site.specs.Tables.{no_entries, tabled}
use Rattle.site.specs.declared.state.Stage.TheVariants.{Pulling, Settling}

-- Operations and claims -----------------------------------------------------------------------------------------

-- A transfer of title 5 to client 3, one of title 6, and the issue of title 7 to client 2.
abbrev pub transfer_5 : List ℕ
transfer_5 = 2 ∷ 5 ∷ 3 ∷ replicate 13 0

abbrev pub transfer_6 : List ℕ
transfer_6 = 2 ∷ 6 ∷ 3 ∷ replicate 13 0

abbrev pub issue_7 : List ℕ
issue_7 = 1 ∷ 7 ∷ 2 ∷ replicate 13 0

-- A client's claim to a place of round 0.
abbrev pub claims : ℕ → ℕ → ℕ → List ℕ → Claim
claims client number place operation = record { client = client; number = number; round = 0; place = place; operation = operation }

-- Client 1's first claim, to place 1.
abbrev pub first_claim : Claim
first_claim = claims 1 1 1 transfer_5

-- Of a request of client 2: a claim to the same place, and one to place 3. At place 2 the issue, and client 1's next request.
abbrev pub rival_claim : Claim
rival_claim = claims 2 1 1 transfer_5

abbrev pub far_claim : Claim
far_claim = claims 2 1 3 transfer_5

abbrev pub issue_claim : Claim
issue_claim = claims 0 1 2 issue_7

abbrev pub next_claim : Claim
next_claim = claims 1 2 2 transfer_6

-- The claims that round 1 begins with: its mark at place 2, and client 2's request at place 3.
abbrev pub mark_at_2 : Claim
mark_at_2 = record { client = 16; number = 1; round = 1; place = 2; operation = no_operation }

abbrev pub client_2_at_3 : Claim
client_2_at_3 = record { client = 2; number = 1; round = 1; place = 3; operation = transfer_5 }

-- Messages ------------------------------------------------------------------------------------------------------

-- A client's request number 1.
abbrev pub asks : ℕ → List ℕ → List ℕ
asks client operation = sealed (request client 1 operation)

-- The certificates of these claims.
abbrev pub first_write : List ℕ
first_write = certificate first_claim

abbrev pub rival_write : List ℕ
rival_write = certificate rival_claim

abbrev pub far_write : List ℕ
far_write = certificate far_claim

abbrev pub issue_write : List ℕ
issue_write = certificate issue_claim

abbrev pub next_write : List ℕ
next_write = certificate next_claim

-- A ROUND of round 0 with STARTs at these places, the GRANTs of the first claim, so that the target is 1, and client 2's request.
abbrev pub round_from : ℕ → ℕ → ℕ → List ℕ
round_from a b c = three (start 1 0 a) (start 2 0 b) (start 3 0 c) ++ (first_write ++ asks 2 transfer_5)

abbrev pub next_round : List ℕ
next_round = round_from 1 1 0

abbrev pub show : ℕ → List ℕ
show place = sealed (show_grant place)

-- All messages of which the notary sees the records.
abbrev pub messages : List (List ℕ)
messages =
    asks 1 transfer_5 ∷ asks 2 transfer_5 ∷ asks 1 transfer_6 ∷ first_write ∷ rival_write ∷ far_write ∷ issue_write ∷ next_write ∷ next_round
    ∷ round_from 1 2 0 ∷ []

-- Calls ---------------------------------------------------------------------------------------------------------

abbrev pub empty_output : List ℕ
empty_output = replicate 880 0

abbrev pub empty_board : List ℕ
empty_board = replicate 16 0

-- A call with a message, after the call before.
abbrev pub hears : (List ℕ → Bool) → Called titles_rules → List ℕ → Called titles_rules
hears accepts before message = call titles_rules 1 0 accepts before.state before.kept message empty_output empty_board

-- What the last of these calls leaves, newest first. Before the first the site is fresh.
abbrev pub heard : (List ℕ → Bool) → List (List ℕ) → Called titles_rules
heard accepts [] = record { state = fresh; kept = record { value = titles_first; before = None }; output = empty_output; board = empty_board; result = Ok 0 }
heard accepts (message ∷ past) = hears accepts (heard accepts past) message

-- The call replied with these bytes, and no others.
pub record Replied (bytes : List ℕ) (call : Called titles_rules) : Type 0 where
  pub result : call.result ≡ Ok (length bytes)
  pub output : call.output ≡ bytes ++ drop (length bytes) empty_output
  pub board : call.board ≡ empty_board

-- The call was refused, and left all as the call before did.
pub record Refused (refusal : Refusal) (before call : Called titles_rules) : Type 0 where
  pub result : call.result ≡ Err refusal
  pub state : call.state ≡ before.state
  pub kept : call.kept ≡ before.kept
  pub output : call.output ≡ empty_output
  pub board : call.board ≡ empty_board

-- The call took a write back, and the site settles up to place 3. The write was done after the call before.
pub record TookBack (before write call : Called titles_rules) : Type 0 where
  pub done : write.state.ledger.place ≡ 2
  pub replied : Replied [] call
  pub stage : call.state.stage ≡ Settling 3
  pub place : call.state.ledger.place ≡ 1
  pub current : call.state.ledger.current ≡ before.state.ledger.current
  pub entries : call.state.ledger.done ≡ before.state.ledger.done
  pub value : call.kept.value ≡ before.kept.value

-- The examples --------------------------------------------------------------------------------------------------

-- Both clients have asked; then the first claim is done, which puts the site at place 1; then it has taken the ROUND.
abbrev pub both_asked : List (List ℕ)
both_asked = asks 2 transfer_5 ∷ asks 1 transfer_5 ∷ []

abbrev pub at_1 : List (List ℕ)
at_1 = first_write ∷ both_asked

abbrev pub settling : List (List ℕ)
settling = next_round ∷ at_1

-- Client 2's request as a PULLING site keeps it.
abbrev pub kept_request : Request
kept_request = record { client = 2; number = 1; operation = transfer_5 }

pub record Rows (accepts : List ℕ → Bool) : Type 0 where
  -- A fresh site grants client 1's request round 0 and place 1. Client 2 gets that GRANT too, and another request of client 1 is BUSY.
  pub grants : Replied (sealed (grant 0 first_claim)) (heard accepts (asks 1 transfer_5 ∷ []))
  pub grants_once : Replied (sealed (grant 0 first_claim)) (heard accepts both_asked)
  pub busy : Refused (refusal_at 14 0 3) (heard accepts both_asked) (heard accepts (asks 1 transfer_6 ∷ both_asked))
  -- The write is answered 3, since the title is not held; and the same again.
  pub answers : Replied (sealed (answer 0 first_claim 3)) (heard accepts at_1)
  pub answers_again : Replied (sealed (answer 0 first_claim 3)) (heard accepts (first_write ∷ at_1))
  -- The site is then at place 1. There a new claim of place 1 is TAKEN, and one of place 3 a GAP.
  pub stands_at_1 : (heard accepts at_1).state.ledger.place ≡ 1
  pub taken : Refused (refusal_at 17 0 3) (heard accepts at_1) (heard accepts (rival_write ∷ at_1))
  pub gap : Refused (refusal_at 18 0 3) (heard accepts at_1) (heard accepts (far_write ∷ at_1))
  -- The ROUND at place 1: the site shows the mark at place 2, client 2 at place 3, and nothing at place 4.
  pub silent : Replied [] (heard accepts settling)
  pub marks : Replied (sealed (grant 0 mark_at_2)) (heard accepts (show 2 ∷ settling))
  pub settles : Replied (sealed (grant 0 client_2_at_3)) (heard accepts (show 3 ∷ settling))
  pub shows_none : Refused (refusal_at 21 0 3) (heard accepts settling) (heard accepts (show 4 ∷ settling))
  -- The same ROUND at place 0 is taken too, and the site is PULLING to place 1.
  pub pulls : Replied [] (heard accepts (next_round ∷ []))
  pub pulling : (heard accepts (next_round ∷ [])).state.stage ≡ Pulling 0 1 (tabled (kept_request ∷ []) no_entries)
  -- At place 2 it takes the last write back: one that moved the titles, and one by a client that has an earlier write.
  pub issued : state (heard accepts (issue_write ∷ at_1)).kept.value 7 ≡ HeldBy 2
  pub takes_issue_back : TookBack (heard accepts at_1) (heard accepts (issue_write ∷ at_1)) (heard accepts (next_round ∷ issue_write ∷ at_1))
  pub takes_next_back : TookBack (heard accepts at_1) (heard accepts (next_write ∷ at_1)) (heard accepts (next_round ∷ next_write ∷ at_1))
  -- At place 3 it is TOO FAR.
  pub stands_at_3 : (heard accepts (far_write ∷ issue_write ∷ at_1)).state.ledger.place ≡ 3
  pub too_far : Refused (refusal_at 20 0 3) (heard accepts (far_write ∷ issue_write ∷ at_1)) (heard accepts (next_round ∷ far_write ∷ issue_write ∷ at_1))
  -- With a START at place 2, above the target, it is LOW at that START, wherever the site stands.
  pub low : (before : Called titles_rules) → Refused (refusal_at 9 1 2) before (hears accepts before (round_from 1 2 0))

-- The notary accepts all records of these messages.
abbrev pub Accepts : (List ℕ → Bool) → List (List ℕ) → Type 0
Accepts accepts [] = Unit {0}
Accepts accepts (message ∷ rest) = (first_unvouched accepts message ≡ None) × Accepts accepts rest

-- There is such a notary: one that accepts every record.
abbrev pub AcceptedByOne : Type 0
AcceptedByOne = Accepts (λ bytes. true) messages

-- All of it holds together, over any such notary.
abbrev pub RowsHold : Type 0
RowsHold = (accepts : List ℕ → Bool) → Accepts accepts messages → Rows accepts
