-- Lives of real calls: any bytes, handed to any sound site of a pool, in any order; and what the sites then wrote and did,
-- read from the bytes of messages and outputs alone.
use Rattle.std.specs.Prelude.{◌≡◌, ℕ, zero, suc, ◌+◌, ◌<◌, Bool, cond, ◌⊎◌, List, [], ◌∷◌, length, take, Ok, Err, Result, ◌==◌, Option}
use Rattle.std.proofs.Math.Option.{Option as Maybe, none, some}
use Rattle.object.specs.Rules.{Rules}
use Rattle.record.specs.Kinds.{kind_number}
use Rattle.record.specs.declared.fields.Statement.{Statement}
use Rattle.record.specs.declared.kind.Kind.TheVariants.{Grant, Answer, ReadAnswer, Start}
use Rattle.message.specs.Checks.{checks}
use Rattle.message.specs.Records.{records, statement_at}
use Rattle.message.specs.Said.{Said, write_1, read, write_2, resolve, round, show_grant, show_cert}
use Rattle.message.specs.declared.faults.CertificateFault.{CertificateFault}
use Rattle.message.specs.declared.refusal.Refusal.{Refusal}
use Rattle.protocol.specs.Quorum.{Pool}
use Rattle.protocol.specs.Words.{Claim, Question, Word, grant, answer, start, reading, Deed, answered, took, said, did, Transcript}
use Rattle.site.specs.Call.{fresh, Called, call}
use Rattle.site.specs.Ledgers.{Kept}
use Rattle.site.specs.declared.state.State.{State}

-- One call: the site that it is made at, the message, and the output and the board as they come in.
pub record Event : Type 0 where
  pub site : ℕ
  pub message : List ℕ
  pub output : List ℕ
  pub board : List ℕ

-- What records say ----------------------------------------------------------------------------------------------

-- The claim and the question that a statement names.
abbrev pub claim_in : Statement → Claim
claim_in s = record { client = s.client; number = s.number; round = s.round; place = s.place; operation = s.operation }

abbrev pub question_in : Statement → Question
question_in s = record { client = s.client; operation = s.operation; nonce = s.nonce }

-- The word of a site that a statement is, by its kind: a GRANT, an ANSWER, a READ-ANSWER or a START. Others are no word of a site.
abbrev pub word_of : Statement → Maybe Word
word_of s =
    cond (s.kind == kind_number Grant) (some (grant (claim_in s)))
    (cond (s.kind == kind_number Answer) (some (answer (claim_in s) s.answer))
    (cond (s.kind == kind_number ReadAnswer) (some (reading (question_in s) s.round s.place s.answer))
    (cond (s.kind == kind_number Start) (some (start s.round s.place)) none)))

-- What a call did -----------------------------------------------------------------------------------------------

-- The bytes that a call put into its output: as many of the first as it returned, and none where it refused.
abbrev pub put : Result ℕ Refusal → List ℕ → List ℕ
put (Ok n) output = take n output
put (Err refusal) output = []

abbrev pub one_more : (Word → Deed) → Maybe Word → List Deed → List Deed
one_more deed none deeds = deeds
one_more deed (some word) deeds = deed word ∷ deeds

-- The words of a site in the first n records of some bytes: those of its kinds that it is the signer of.
abbrev pub own_words : (Word → Deed) → ℕ → List ℕ → ℕ → List Deed
own_words deed site bytes zero = []
own_words deed site bytes (suc n) =
    cond ((statement_at bytes n).signer == site) (one_more deed (word_of (statement_at bytes n)) (own_words deed site bytes n)) (own_words deed site bytes n)

-- A word in the reply to a WRITE-2: its ANSWER is that of a write, new or stored.
abbrev pub as_answered : Word → Deed
as_answered (grant c) = said (grant c)
as_answered (answer c a) = answered c a
as_answered (start r p) = said (start r p)
as_answered (reading q r p a) = said (reading q r p a)

-- What a call did, by what the message says and by the bytes put into the output. A ROUND whose STARTs name a round leads to the next number.
abbrev pub deeds_by : Said → ℕ → List ℕ → List Deed
deeds_by (write_1 r) site bytes = own_words said site bytes (records bytes)
deeds_by (read q) site bytes = own_words said site bytes (records bytes)
deeds_by (write_2 claim certificate) site bytes = own_words as_answered site bytes (records bytes)
deeds_by (resolve named place r) site bytes = own_words said site bytes (records bytes)
deeds_by (round named target requests) site bytes = took named target (named + 1) ∷ own_words said site bytes (records bytes)
deeds_by (show_grant place) site bytes = own_words said site bytes (records bytes)
deeds_by show_cert site bytes = own_words said site bytes (records bytes)

-- A refused call did nothing.
abbrev pub deeds : Result Said CertificateFault → ℕ → Result ℕ Refusal → List ℕ → List Deed
deeds (Err fault) site result output = []
deeds (Ok message) site (Err refusal) output = []
deeds (Ok message) site (Ok n) output = deeds_by message site (take n output)

-- These deeds of a site, after what was done before.
abbrev pub then_did : ℕ → List Deed → Transcript → Transcript
then_did site [] before = before
then_did site (deed ∷ deeds) before = did site deed ∷ then_did site deeds before

-- Lives ---------------------------------------------------------------------------------------------------------

-- A pool with its notary and its objects: the sound sites, the records that the notary accepts, the value that the objects of all sites
-- hold at first, and the values before it, of which nothing is said.
pub record Setting (R : Rules) : Type 0 where
  pub pool : Pool
  pub accepts : List ℕ → Bool
  pub first : R.Value
  pub before : ℕ → Option R.Value

module _ {R : Rules} (in_a : Setting R) where
  -- What a site keeps: its state, and what its object holds.
  pub record Copy : Type 0 where
    pub state : State
    pub kept : Kept R

  -- A call at a copy.
  abbrev pub called_at : Copy → Event → Called R
  called_at copy e = call R in_a.pool.f e.site in_a.accepts copy.state copy.kept e.message e.output e.board

  abbrev pub left : Called R → Copy
  left called = record { state = called.state; kept = called.kept }

  -- A site's copy after a life, which is a list of events, newest first: fresh before the first, and each call steps the copy of its own site.
  abbrev pub copy_after : List Event → ℕ → Copy
  copy_after [] s = record { state = fresh; kept = record { value = in_a.first; before = in_a.before s } }
  copy_after (e ∷ life) s = cond (s == e.site) (left (called_at (copy_after life e.site) e)) (copy_after life s)

  -- The call that an event is, after the events of a life.
  abbrev pub called : List Event → Event → Called R
  called life e = called_at (copy_after life e.site) e

  -- What the event's message says, if it passes the ten checks, and what it is refused for, if not.
  abbrev pub checked : Event → Result Said CertificateFault
  checked e = checks in_a.pool.f in_a.accepts e.message (length e.output) (length e.board)

  -- The bytes that it put into its output.
  abbrev pub put_by : List Event → Event → List ℕ
  put_by life e = put (called life e).result (called life e).output

  -- What the sites did in a life.
  abbrev pub transcript : List Event → Transcript
  transcript [] = []
  transcript (e ∷ life) = then_did e.site (deeds (checked e) e.site (called life e).result (called life e).output) (transcript life)

  -- A site wrote a statement: in some call it put a record with that statement, as its signer, into the output.
  abbrev pub WroteStatement : ℕ → Statement → List Event → Type 0
  WroteStatement s statement [] = ⊥
  WroteStatement s statement (e ∷ life) =
      ((e.site ≡ s) × (statement.signer ≡ s) × ((i : ℕ) × (i < records (put_by life e)) × (statement_at (put_by life e) i ≡ statement)))
      ⊎ WroteStatement s statement life
