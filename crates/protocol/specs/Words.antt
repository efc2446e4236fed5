-- What sites write, and the transcript of what they did.
use Rattle.std.specs.Prelude.{ℕ, List}

-- A claim: a client's numbered operation, for one place of one round.
pub record Claim : Type 0 where
  pub client : ℕ
  pub number : ℕ
  pub round : ℕ
  pub place : ℕ
  pub operation : List ℕ

-- A question: a reading that a client asks for. The nonce tells it from the client's other questions.
pub record Question : Type 0 where
  pub client : ℕ
  pub operation : List ℕ
  pub nonce : ℕ

-- What a site can write.
pub data Word : Type 0 where
  -- GRANT: the site gives the claim's place, in the claim's round, to this claim
  grant : Claim → Word
  -- ANSWER: the site did the claim's write, which the number answers
  answer : Claim → ℕ → Word
  -- START: the site gave up this round, standing at this place
  start : ℕ → ℕ → Word
  -- READ-ANSWER: to the question, after the write of this round and place, the answer is this number
  reading : Question → ℕ → ℕ → ℕ → Word

-- What a sound site did in one call, as seen from outside.
pub data Deed : Type 0 where
  -- it answered a WRITE-2 message, which asks for a certified write to be done, by this ANSWER, new or stored
  answered : Claim → ℕ → Deed
  -- it took the ROUND of this round, with this target, and went on to this next round
  took : ℕ → ℕ → ℕ → Deed
  -- it took another message, and wrote this word
  said : Word → Deed
  -- it refused, or wrote no word of its own
  silent : Deed

-- One call at a sound site.
pub data Event : Type 0 where
  did : ℕ → Deed → Event

-- What the sound sites did up to a moment, newest first. What is left of an event is the transcript before it.
abbrev pub Transcript : Type 0
Transcript = List Event
