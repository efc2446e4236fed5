-- The promise: what holds of every life of a pool's real calls, and under which premises.
use Rattle.std.specs.Prelude.{◌≡◌, ℕ, ◌%◌, ◌^◌, ◌<◌, Bool, true, List, [], ◌∷◌, Ok, Err, Result, ◌≢◌, Option}
use Rattle.std.proofs.Math.Option.{some}
use Rattle.object.specs.Rules.{Rules}
use Rattle.record.specs.RoundTrip.{Bytes}
use Rattle.message.specs.Records.{records, record_at, statement_at}
use Rattle.message.specs.Said.{round}
use Rattle.message.specs.declared.refusal.Refusal.{Refusal}
use Rattle.message.specs.declared.request.Request.{Request}
use Rattle.protocol.specs.Book.{Begins}
use Rattle.protocol.specs.Promise.{Few, OneBook}
use Rattle.protocol.specs.Quorum.{Sound}
use Rattle.protocol.specs.Words.{Word}
use Rattle.site.specs.Ledgers.{Kept}
use Rattle.site.specs.Life.{Event, word_of, Setting, copy_after, called, checked, transcript, WroteStatement}
use Rattle.site.specs.declared.state.State.{State}

-- An object's rules, with the answers as a record has them, in eight bytes. Objects of the code answer by numbers of 64 bits, so that it is all the same for them.
abbrev pub in_records : Rules → Rules
in_records R = record {
  Value = R.Value;
  next = R.next;
  answer = λ value client operation. R.answer value client operation % 2 ^ 64;
  look = λ value operation. R.look value operation % 2 ^ 64;
  highest = R.highest;
}

-- Two messages are equal, seals aside.
pub record EqualButSeals (m n : List ℕ) : Type 0 where
  pub as_long : records m ≡ records n
  pub alike : (i : ℕ) → i < records m → statement_at m i ≡ statement_at n i

module _ {R : Rules} (in_a : Setting R) where
  -- Every record in the event's message that the notary accepts, that is a word of a site and whose signer is a sound site
  -- has a statement which that site wrote in an earlier event.
  abbrev pub WrittenBefore : List Event → Event → Type 0
  WrittenBefore life e =
      (i : ℕ) (w : Word) → i < records e.message → in_a.accepts (record_at e.message i) ≡ true → word_of (statement_at e.message i) ≡ some w →
      Sound in_a.pool (statement_at e.message i).signer → WroteStatement in_a (statement_at e.message i).signer (statement_at e.message i) life

  -- A life: each event is a call at a sound site, with a message of bytes, whose records from sound sites were written before.
  abbrev pub Happens : List Event → Type 0
  Happens [] = Unit {0}
  Happens (e ∷ life) = Sound in_a.pool e.site × Bytes e.message × WrittenBefore life e × Happens life

  -- Any two ROUNDs of a life that pass the ten checks and whose STARTs name one round are equal, seals aside, whether the sites then accept them or not.
  abbrev pub RoundsAgree : List Event → Type 0
  RoundsAgree life =
      (x y : Event) (here there : List Event) (named t u : ℕ) (rs ss : List Request) → Begins (x ∷ here) life → Begins (y ∷ there) life →
      checked in_a x ≡ Ok (round named t rs) → checked in_a y ≡ Ok (round named u ss) → EqualButSeals x.message y.message

  -- The premises: at most f sites are not sound, words of sound sites were written before, and ROUNDs agree.
  pub record Premises (life : List Event) : Type 0 where
    pub few : Few in_a.pool
    pub happens : Happens life
    pub agree : RoundsAgree life

  -- The promise, at every moment of the life.
  pub record KeptPromise (life : List Event) : Type 0 where
    -- the pool keeps one book, of what its sites wrote to their outputs
    pub one_book : (past : List Event) → Begins past life → OneBook in_a.pool (in_records R) in_a.first (transcript in_a past)
    -- and no call is refused as TOO FAR
    pub never_too_far : (past : List Event) (e : Event) (refusal : Refusal) → Begins (e ∷ past) life → (called in_a past e).result ≡ Err refusal → refusal.number ≢ 20

  -- An event after a life: how it left its site, what it wrote, and that the promise is kept with it.
  pub record Went (life : List Event) (e : Event) (exit : State) (after : Kept R) (written : List ℕ) (result : Result ℕ Refusal) : Type 0 where
    pub site : copy_after in_a (e ∷ life) e.site ≡ record { state = exit; kept = after }
    pub others : (s : ℕ) → (s ≢ e.site) → copy_after in_a (e ∷ life) s ≡ copy_after in_a life s
    pub output : (called in_a life e).output ≡ written
    pub returned : (called in_a life e).result ≡ result
    pub promise : KeptPromise (e ∷ life)

-- It is kept in every life of every pool, over every notary, from every first value.
abbrev pub PromiseKept : Rules → Type 0
PromiseKept R = (in_a : Setting R) (life : List Event) → Premises in_a life → KeptPromise in_a life

-- A pool of 3f + 1 sites, with its sound sites, its notary, and the objects' first values.
abbrev pub setting : (R : Rules) → ℕ → (ℕ → Bool) → (List ℕ → Bool) → R.Value → (ℕ → Option R.Value) → Setting R
setting R f sound accepts first before = record { pool = record { f = f; sound = sound }; accepts = accepts; first = first; before = before }

-- A call that left these is part of lives: take any pool of sites with its notary, whose first value is any, and any life in which the site came to be as
-- it was when the call began, and which goes on by this call under the premises. Then after the call the site is as the call left it, its output and
-- result are those that the transcript reads, and the promise is kept.
abbrev pub InEveryLife : (R : Rules) → ℕ → ℕ → (List ℕ → Bool) → State → Kept R → List ℕ → List ℕ → List ℕ → State → Kept R → List ℕ → Result ℕ Refusal → Type 0
InEveryLife R f number accepts entry object message output board exit after written result =
    (sound : ℕ → Bool) (first : R.Value) (before : ℕ → Option R.Value) (life : List Event) →
    copy_after (setting R f sound accepts first before) life number ≡ record { state = entry; kept = object } →
    Premises (setting R f sound accepts first before) (record { site = number; message = message; output = output; board = board } ∷ life) →
    Went (setting R f sound accepts first before) life (record { site = number; message = message; output = output; board = board }) exit after written result
