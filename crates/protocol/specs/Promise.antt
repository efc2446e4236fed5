-- The promise: what holds of every life of a pool.
use Rattle.std.specs.Prelude.{◌≡◌, ℕ, ◌+◌, ◌≤◌, not, List, [], ◌∷◌, length}
use Rattle.object.specs.Rules.{Rules}
use Rattle.protocol.specs.Words.{Claim, Question, reading, Deed, took, did, Transcript}
use Rattle.protocol.specs.Quorum.{Pool, Sound, sites, count}
use Rattle.protocol.specs.Book.{Happened, Wrote, Certified, Confirmed, ConfirmedReading, Passing, Counts, Line, Book, Begins, but_last, writes, round_of, due, play}
use Rattle.protocol.specs.Moves.{Site, Move, History, last_round}

-- At most f of the 3f + 1 sites are not sound.
abbrev pub Few : Pool → Type 0
Few pool = count (λ s. not (pool.sound s)) (sites pool) ≤ pool.f

-- All ROUNDs that sound sites took of one round have one target and one next round.
abbrev pub Agreed : Transcript → Type 0
Agreed T = (x y r t u next other : ℕ) → Happened x (took r t next) T → Happened y (took r u other) T → (t ≡ u) × (next ≡ other)

-- A life: a transcript that the pool can come to, with every site fresh at one value first. Few and Agreed are its premises. The third is in the
-- calls that sites take: where a call needs a quorum's words, those of the quorum that are sound wrote them before.
pub record Life (pool : Pool) (R : Rules) (first : R.Value) (T : Transcript) : Type 0 where
  pub few : Few pool
  pub agreed : Agreed T
  -- it tells of sound sites of the pool only
  pub ours : (s : ℕ) (d : Deed) → Happened s d T → Sound pool s
  -- each sound site has a history in it, and so a state
  pub each : (s : ℕ) → Sound pool s → (st : Site) × History pool R first s T st

-- Lives begin with nothing, go on by one call at one sound site, and what was a life's transcript at an earlier moment is a life.
pub record Lives (pool : Pool) (R : Rules) (first : R.Value) : Type 0 where
  pub begin : Few pool → Life pool R first []
  pub go_on : (T : Transcript) (life : Life pool R first T) (s : ℕ) (i : Sound pool s) (d : Deed) (st : Site) →
      Move pool R first s T (life.each s i).0 d st → Agreed (did s d ∷ T) → Life pool R first (did s d ∷ T)
  pub moments : (past T : Transcript) → Begins past T → Life pool R first T → Life pool R first past

-- The claim stands in the book at its place, and the number is the answer due to it after the writes before it.
pub record Stands (R : Rules) (first : R.Value) (book : List Claim) (c : Claim) (a : ℕ) : Type 0 where
  pub older : List Claim
  pub there : Begins (c ∷ older) book
  pub at_place : length (c ∷ older) ≡ c.place
  pub is_due : a ≡ due R (play R first older) c

-- The number is what a look gives after the book's writes up to a place; the round is that of the last of them, or 0.
pub record Looked (R : Rules) (first : R.Value) (book : List Claim) (q : Question) (r p a : ℕ) : Type 0 where
  pub older : List Claim
  pub there : Begins older book
  pub at_place : length older ≡ p
  pub of_round : last_round older ≡ r
  pub is_look : a ≡ R.look (play R first older) q.operation

-- No sound site has answered the question yet.
abbrev pub Unanswered : Transcript → Question → Type 0
Unanswered T q = (s r p a : ℕ) → Wrote s (reading q r p a) T → ⊥

-- The pool keeps one book.
pub record OneBook (pool : Pool) (R : Rules) (first : R.Value) (T : Transcript) : Type 0 where
  -- no two claims are certified for one round and place
  pub one_claim : (c d : Claim) → Certified pool T c → Certified pool T d → c.round ≡ d.round → c.place ≡ d.place → c ≡ d
  -- no sound site stands more than one place past the target of a ROUND for its round
  pub not_too_far : (s t : ℕ) → Sound pool s → Passing pool T (round_of s T) t → length (writes s T) ≤ t + 1
  -- there is one book, and every run of counting claims begins it
  pub book : List Claim
  pub is_book : Book pool T book
  pub only_book : (other : List Claim) → Book pool T other → other ≡ book
  pub runs : (w : List Claim) → Line (Counts pool T) 0 w → Begins w book
  -- each sound site's writes, but for at most the last, begin it
  pub begun : (s : ℕ) → Sound pool s → Begins (but_last (writes s T)) book
  -- every confirmed write stands in it, with the answer due
  pub stands : (c : Claim) (a : ℕ) → Confirmed pool T c a → Stands R first book c a
  -- every confirmed reading is of it,
  pub looked : (q : Question) (r p a : ℕ) → ConfirmedReading pool T q r p a → Looked R first book q r p a
  -- and its place is not below that of a write that was confirmed before a sound site answered the question
  pub in_order : (q : Question) (r p a : ℕ) → ConfirmedReading pool T q r p a →
      (past : Transcript) → Begins past T → Unanswered past q →
      (c : Claim) (b : ℕ) → Confirmed pool past c b → c.place ≤ p

-- It does so in every life, of any pool, from any first value. A life's earlier moments are lives too: so it does at every moment.
abbrev pub KeepsOneBook : Rules → Type 0
KeepsOneBook R = (pool : Pool) (first : R.Value) (T : Transcript) → Life pool R first T → OneBook pool R first T

abbrev pub LivesGoOn : Rules → Type 0
LivesGoOn R = (pool : Pool) (first : R.Value) → Lives pool R first
