-- The words of the promise, all of them over a transcript: certified, closed, counting, the book, a site's writes.
-- Every list of claims is newest first, as the transcript is: a list that begins another is an older part of it.
use Rattle.std.specs.Prelude.{◌≡◌, ℕ, suc, ◌+◌, ◌<◌, ◌≤◌, true, cond, ◌⊎◌, ◌↔◌, List, [], ◌∷◌, length, ◌==◌, ◌≢◌}
use Rattle.object.specs.Rules.{Rules, fit}
use Rattle.protocol.specs.Words.{Claim, Question, Word, grant, answer, start, reading, Deed, answered, took, said, silent, Event, did, Transcript}
use Rattle.protocol.specs.Quorum.{Pool, Quorum, Signers}

-- The site did this, at some time.
pub data Happened (s : ℕ) (d : Deed) : Transcript → Type 0 where
  happened_now : {T : Transcript} → Happened s d (did s d ∷ T)
  happened_before : {e : Event} {T : Transcript} → Happened s d T → Happened s d (e ∷ T)

-- The site wrote this word, at some time.
pub data Wrote (s : ℕ) : Word → Transcript → Type 0 where
  saying : {w : Word} {T : Transcript} → Wrote s w (did s (said w) ∷ T)
  answering : {c : Claim} {a : ℕ} {T : Transcript} → Wrote s (answer c a) (did s (answered c a) ∷ T)
  earlier : {w : Word} {e : Event} {T : Transcript} → Wrote s w T → Wrote s w (e ∷ T)

-- A site backs a word: it wrote it, or it is not sound.
abbrev pub Backs : Pool → Transcript → Word → ℕ → Type 0
Backs pool T w s = pool.sound s ≡ true → Wrote s w T

-- That a quorum backs a word is that there is such a list of signers.
abbrev pub QuorumsAreSigners : Type 0
QuorumsAreSigners = (pool : Pool) (T : Transcript) (w : Word) → Quorum pool (Backs pool T w) ↔ Signers pool (Backs pool T w)

-- Certified claims, confirmed writes and confirmed readings: a quorum backs the word.
abbrev pub Certified : Pool → Transcript → Claim → Type 0
Certified pool T c = Quorum pool (Backs pool T (grant c))

abbrev pub Confirmed : Pool → Transcript → Claim → ℕ → Type 0
Confirmed pool T c a = Quorum pool (Backs pool T (answer c a))

abbrev pub ConfirmedReading : Pool → Transcript → Question → (round place answer : ℕ) → Type 0
ConfirmedReading pool T q r p a = Quorum pool (Backs pool T (reading q r p a))

-- A quorum backs STARTs of the round r, each at a place not above t.
abbrev pub Started : Pool → Transcript → (round target : ℕ) → Type 0
Started pool T r t = Quorum pool (λ s. pool.sound s ≡ true → (k : ℕ) × Wrote s (start r k) T × (k ≤ t))

-- What a ROUND for the round r with target t has to show: such STARTs, and a certified claim of that round at the target, unless that is 0.
pub record Passing (pool : Pool) (T : Transcript) (r t : ℕ) : Type 0 where
  pub starts : Started pool T r t
  pub target : (t ≡ 0) ⊎ ((c : Claim) × Certified pool T c × (c.round ≡ r) × (c.place ≡ t))

-- The round r is closed, at target t: a sound site took a ROUND for it.
abbrev pub Closed : Transcript → (round target : ℕ) → Type 0
Closed T r t = (s : ℕ) × (next : ℕ) × Happened s (took r t next) T

-- The closed round next below r: the highest of those that are closed and below r.
pub record NextBelow (T : Transcript) (r u t : ℕ) : Type 0 where
  pub closed : Closed T u t
  pub lower : u < r
  pub highest : (x y : ℕ) → Closed T x y → x < r → x ≤ u

-- A certified claim counts: its place is above the target of the closed round next below its own, and not above that of its own, if these are closed.
pub record Counts (pool : Pool) (T : Transcript) (c : Claim) : Type 0 where
  pub certified : Certified pool T c
  pub above : (u t : ℕ) → NextBelow T c.round u t → t < c.place
  pub within : (t : ℕ) → Closed T c.round t → c.place ≤ t

-- The claims of a list are P and stand, from its oldest on, at the places t + 1, t + 2 and so on.
pub data Line (P : Claim → Type 0) (t : ℕ) : List Claim → Type 0 where
  line_none : Line P t []
  line_more : {c : Claim} {w : List Claim} → c.place ≡ suc (t + length w) → P c → Line P t w → Line P t (c ∷ w)

-- The book: a run of counting claims at the places 1, 2, 3 and on, the longest, since no claim counts at the place after it.
pub record Book (pool : Pool) (T : Transcript) (book : List Claim) : Type 0 where
  pub run : Line (Counts pool T) 0 book
  pub longest : (c : Claim) → Counts pool T c → c.place ≢ suc (length book)

-- One list begins another: it is an older part of it, or all of it.
pub data Begins {A : Type 0} (w : List A) : List A → Type 0 where
  whole : Begins w w
  more : {c : A} {l : List A} → Begins w l → Begins w (c ∷ l)

-- All of a list but its last claim.
abbrev pub but_last : List Claim → List Claim
but_last [] = []
but_last (c ∷ w) = w

-- What a deed does to its site's writes: an ANSWER to a WRITE-2 message with the place one above their number adds its claim,
-- and a ROUND with a target one below their number strikes the last.
abbrev pub rewritten : Deed → List Claim → List Claim
rewritten (answered c a) w = cond (c.place == suc (length w)) (c ∷ w) w
rewritten (took r t next) w = cond (suc t == length w) (but_last w) w
rewritten (said word) w = w
rewritten silent w = w

-- A site's writes.
abbrev pub writes : ℕ → Transcript → List Claim
writes s [] = []
writes s (did x d ∷ T) = cond (x == s) (rewritten d (writes s T)) (writes s T)

-- The round that a deed leaves its site in, from the one before.
abbrev pub moved_on : Deed → ℕ → ℕ
moved_on (answered c a) r = r
moved_on (took r t next) _ = next
moved_on (said word) r = r
moved_on silent r = r

-- A site's round: 0, until a ROUND takes it to the next.
abbrev pub round_of : ℕ → Transcript → ℕ
round_of s [] = 0
round_of s (did x d ∷ T) = cond (x == s) (moved_on d (round_of s T)) (round_of s T)

-- The client's number in the mark of a round, a claim that asks for nothing.
abbrev pub mark : ℕ
mark = 16

-- The number that answers a write that the object is not asked for, since its code is unfit.
abbrev pub unfit : ℕ
unfit = 9_999_999

module _ (R : Rules) where
  -- The answer due to a claim at a value. The object is asked only for clients' operations that are fit.
  abbrev pub due : R.Value → Claim → ℕ
  due v c = cond (c.client == mark) 0 (cond (fit R.highest c.operation) (R.answer v c.client c.operation) unfit)

  -- The value after a claim's write.
  abbrev pub next : R.Value → Claim → R.Value
  next v c = cond (c.client == mark) v (cond (fit R.highest c.operation) (R.next v c.client c.operation) v)

  -- The value after the writes of a list, played from a first value.
  abbrev pub play : R.Value → List Claim → R.Value
  play first [] = first
  play first (c ∷ w) = next (play first w) c
