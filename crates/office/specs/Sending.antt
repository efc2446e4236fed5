-- What the verdicts of a sound desk are worth: the bytes that they write pass at every site, an answer is that of a quorum, and the site
-- that is named has the latest reply.
use Rattle.std.specs.Prelude.{◌≡◌, ℕ, ◌+◌, ◌*◌, ◌<◌, ◌≤◌, Bool, true, false, List, ◌++◌, length, Ok, Option, MatchOption, ◌≢◌}
use Rattle.std.specs.List.{AllByRecursion}
use Rattle.finder.specs.Law.{Pairs}
use Rattle.message.specs.Checks.{checks}
use Rattle.message.specs.Forms.{quorum}
use Rattle.message.specs.Limits.{least_room, board_size}
use Rattle.message.specs.Said.{write_2, resolve, request_of}
use Rattle.record.specs.Claims.{answer as answers, read_answer}
use Rattle.record.specs.Kinds.{kind_number}
use Rattle.record.specs.Layout.{statement_of}
use Rattle.record.specs.Ranges.{in_range}
use Rattle.record.specs.declared.fields.Claim.{Claim}
use Rattle.record.specs.declared.fields.Statement.{Statement}
use Rattle.record.specs.declared.kind.Kind.TheVariants.{Request}
use Rattle.office.specs.Judging.{is_ours}
use Rattle.office.specs.Latest.{Latest}
use Rattle.office.specs.declared.asking.Question.{Question}
use Rattle.office.specs.declared.asking.Write.{Write}
use Rattle.office.specs.declared.desk.Desk.{Desk}
use Rattle.office.specs.declared.verdict.Verdict.{Verdict}
use Rattle.office.specs.declared.verdict.Verdict.TheVariants.{Done, Certify, Back, Clash, Catch, Wait}

-- The bytes are a certificate of a claim: a WRITE-2 that passes the checks, whatever the room for the reply.
abbrev pub Certificate : ℕ → (List ℕ → Bool) → Claim → List ℕ → Type 0
Certificate f accepts claim bytes = (room : ℕ) → least_room ≤ room → checks f accepts bytes room board_size ≡ Ok (write_2 claim bytes)

-- One REQUEST in range that the notary accepts.
pub record Asked (f : ℕ) (accepts : List ℕ → Bool) (asked : List ℕ) : Type 0 where
  pub size : length asked ≡ 80
  pub kind : (statement_of asked).kind ≡ kind_number Request
  pub ranged : in_range f (statement_of asked) ≡ true
  pub vouched : accepts asked ≡ true

-- The bytes are a clash: with any such REQUEST behind them, a RESOLVE that passes the checks.
abbrev pub Clashing : ℕ → (List ℕ → Bool) → List ℕ → Type 0
Clashing f accepts bytes =
    (round place : ℕ)
    × ((asked : List ℕ) → Asked f accepts asked → (room : ℕ) → least_room ≤ room → checks f accepts (bytes ++ asked) room board_size ≡ Ok (resolve round place (request_of (statement_of asked))))

-- Site i of the pool says this in 80 bytes that the notary accepts.
abbrev pub Says : ℕ → (List ℕ → Bool) → (ℕ → Statement) → ℕ → Type 0
Says f accepts said i = (i < 3 * f + 1) × ((bytes : List ℕ) × (length bytes ≡ 80) × (accepts bytes ≡ true) × (statement_of bytes ≡ said i))

-- A quorum of different sites say it, each under its own number.
pub record Backed (f : ℕ) (accepts : List ℕ → Bool) (said : ℕ → Statement) : Type 0 where
  pub sites : List ℕ
  pub enough : length sites ≡ quorum f
  pub different : Pairs (λ i j. i ≢ j) sites
  pub each : AllByRecursion (Says f accepts said) sites

-- A quorum answered the open write, at one claim.
abbrev pub WriteConfirmed : ℕ → ℕ → (List ℕ → Bool) → Option Write → ℕ → Type 0
WriteConfirmed f client accepts write answer =
    (claim : Claim) × (is_ours client write claim ≡ true) × Backed f accepts (λ i. answers i claim answer)

-- A quorum answered the open question, at one round and place.
abbrev pub ReadingConfirmed : ℕ → ℕ → (List ℕ → Bool) → Option Question → ℕ → Type 0
ReadingConfirmed f client accepts question answer =
    (round place : ℕ) × MatchOption question ⊥ (λ asked. Backed f accepts (λ i. read_answer i client asked.operation asked.nonce round place answer))

-- What each verdict over a write is worth, with the bytes that it wrote.
abbrev pub Worth : ℕ → ℕ → (List ℕ → Bool) → Desk → Verdict → List ℕ → Type 0
Worth f client accepts desk (Done answer) bytes = WriteConfirmed f client accepts desk.write answer
Worth f client accepts desk Certify bytes = (claim : Claim) × (is_ours client desk.write claim ≡ true) × Certificate f accepts claim bytes
Worth f client accepts desk Back bytes = (claim : Claim) × (is_ours client desk.write claim ≡ false) × Certificate f accepts claim bytes
Worth f client accepts desk Clash bytes = Clashing f accepts bytes
Worth f client accepts desk (Catch site) bytes = Latest desk.replies.at site
Worth f client accepts desk Wait bytes = Unit {0}

-- The same over a question.
abbrev pub ReadingWorth : ℕ → ℕ → (List ℕ → Bool) → Desk → Verdict → Type 0
ReadingWorth f client accepts desk (Done answer) = ReadingConfirmed f client accepts desk.question answer
ReadingWorth f client accepts desk Certify = Unit {0}
ReadingWorth f client accepts desk Back = Unit {0}
ReadingWorth f client accepts desk Clash = Unit {0}
ReadingWorth f client accepts desk (Catch site) = Latest desk.readings.at site
ReadingWorth f client accepts desk Wait = Unit {0}
