-- What an office is told is what the pool's book has.
use Rattle.std.specs.Prelude.{◌≡◌, ℕ, ◌≤◌, Bool, true, List, Some, MatchOption, Option}
use Rattle.object.specs.Rules.{Rules}
use Rattle.record.specs.Layout.{record_bytes}
use Rattle.record.specs.declared.fields.Record.{Record}
use Rattle.protocol.specs.Book.{Confirmed, ConfirmedReading, Begins}
use Rattle.protocol.specs.Promise.{Stands, Looked, Unanswered, OneBook}
use Rattle.protocol.specs.Quorum.{Sound}
use Rattle.protocol.specs.Words.{Claim, Question}
use Rattle.site.specs.Life.{Event, Setting, transcript, WroteStatement}
use Rattle.site.specs.OneBook.{in_records, Premises, setting}
use Rattle.office.specs.Slots.{slot_at}
use Rattle.office.specs.declared.asking.Question.{Question as Asked}
use Rattle.office.specs.declared.asking.Write.{Write}
use Rattle.office.specs.declared.desk.Desk.{Desk}
use Rattle.office.specs.declared.slots.Slot.{Slot}
use Rattle.office.specs.declared.verdict.Verdict.{Verdict}
use Rattle.office.specs.declared.verdict.Verdict.TheVariants.{Done, Certify, Back, Clash, Catch, Wait}

-- A claim is that of a client's write: it has the client, and the write's number and operation.
pub record Own (client : ℕ) (write : Write) (claim : Claim) : Type 0 where
  pub client_is : claim.client ≡ client
  pub number_is : claim.number ≡ write.number
  pub operation_is : claim.operation ≡ write.operation

-- The question that a client asks.
abbrev pub asked_by : ℕ → Asked → Question
asked_by client asked = record { client = client; operation = asked.operation; nonce = asked.nonce }

module _ {R : Rules} (in_a : Setting R) (life : List Event) where
  -- What reached the office from sound sites was written by them: each reply that is filed, that the notary accepts and whose
  -- signer is a sound site has a statement which that site wrote in the life.
  abbrev pub FiledAsWritten : List Slot → Type 0
  FiledAsWritten slots =
      (i : ℕ) (reply : Record) → (slot_at slots i).filed ≡ Some reply → in_a.accepts (record_bytes reply) ≡ true →
      Sound in_a.pool reply.statement.signer → WroteStatement in_a reply.statement.signer reply.statement life

  -- A client's write is in the book.
  pub record WriteStands (client : ℕ) (answer : ℕ) (write : Write) : Type 0 where
    -- it has a claim, to a round and a place,
    pub claim : Claim
    pub own : Own client write claim
    -- which a quorum of sites backs with this answer;
    pub confirmed : Confirmed in_a.pool (transcript in_a life) claim answer
    -- the pool keeps one book;
    pub kept : OneBook in_a.pool (in_records R) in_a.first (transcript in_a life)
    -- and the claim stands in it at its place, where this is the answer that is due after the writes before it
    pub stands : Stands (in_records R) in_a.first kept.book claim answer

  -- The answer to a question is that of the book.
  pub record ReadingStands (answer : ℕ) (question : Question) : Type 0 where
    -- a quorum of sites backs it, at one round and place;
    pub round : ℕ
    pub place : ℕ
    pub confirmed : ConfirmedReading in_a.pool (transcript in_a life) question round place answer
    -- the pool keeps one book;
    pub kept : OneBook in_a.pool (in_records R) in_a.first (transcript in_a life)
    -- the answer is what a look gives after the book's writes up to that place;
    pub looked : Looked (in_records R) in_a.first kept.book question round place answer
    -- and no write stands past that place which was confirmed at a moment when no sound site had answered the question yet
    pub not_stale : (past : List Event) → Begins past life → Unanswered (transcript in_a past) question →
        (c : Claim) (b : ℕ) → Confirmed in_a.pool (transcript in_a past) c b → c.place ≤ place

-- A write that an office is told is done stands in the book: take any pool with the office's f whose notary accepts the same records, and any
-- life of it under the premises in which sound sites wrote what the office has filed from them.
abbrev pub WriteInBook : Rules → ℕ → ℕ → (List ℕ → Bool) → Desk → ℕ → Type 0
WriteInBook R f client accepts desk answer =
    (sound : ℕ → Bool) (first : R.Value) (before : ℕ → Option R.Value) (life : List Event) →
    Premises (setting R f sound accepts first before) life → FiledAsWritten (setting R f sound accepts first before) life desk.replies.at →
    MatchOption desk.write ⊥ (WriteStands (setting R f sound accepts first before) life client answer)

-- And an answer that it is told to its question is that of the book.
abbrev pub ReadingInBook : Rules → ℕ → ℕ → (List ℕ → Bool) → Desk → ℕ → Type 0
ReadingInBook R f client accepts desk answer =
    (sound : ℕ → Bool) (first : R.Value) (before : ℕ → Option R.Value) (life : List Event) →
    Premises (setting R f sound accepts first before) life → FiledAsWritten (setting R f sound accepts first before) life desk.readings.at →
    MatchOption desk.question ⊥ (λ asked. ReadingStands (setting R f sound accepts first before) life answer (asked_by client asked))

-- The same of a verdict: it tells an answer where it is DONE.
abbrev pub VerdictInBook : (ℕ → Type 0) → Verdict → Type 0
VerdictInBook In-book (Done answer) = In-book answer
VerdictInBook In-book Certify = Unit {0}
VerdictInBook In-book Back = Unit {0}
VerdictInBook In-book Clash = Unit {0}
VerdictInBook In-book (Catch site) = Unit {0}
VerdictInBook In-book Wait = Unit {0}
