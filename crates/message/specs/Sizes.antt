-- What the checks of one layer leave known to the next.
use Rattle.std.specs.Prelude.{◌≡◌, ℕ, ◌+◌, ◌<◌, ◌≤◌, List}
use Rattle.message.specs.Forms.{quorum}
use Rattle.message.specs.Limits.{most_records, board_size}
use Rattle.message.specs.Records.{records, statement_at}
use Rattle.message.specs.declared.form.Form.{Form}
use Rattle.message.specs.declared.form.Form.TheVariants.{Write1, Read, Write2, Resolve, Round, ShowGrant, ShowCert}

-- Each signer has a byte of the board.
abbrev pub SmallSigners : List ℕ → Type 0
SmallSigners part = (k : ℕ) → k < records part → (statement_at part k).signer < board_size

-- How many records a message of each form has.
abbrev pub size : ℕ → Form → ℕ
size f Write1 = 1
size f Read = 1
size f Write2 = quorum f
size f Resolve = quorum f + 1
size f (Round grants requests) = quorum f + grants + requests
size f ShowGrant = 1
size f ShowCert = 1

-- A message whose form is told and whose fields are in range.
pub record Readable (f : ℕ) (m : List ℕ) (form : Form) : Type 0 where
  pub few : records m ≤ most_records
  pub long : records m ≡ size f form
  pub signers : SmallSigners m
