-- A whole call: bytes in, bytes out.
use Rattle.std.specs.Prelude.{◌≡◌, ℕ, ◌*◌, Bool, cond, List, [], ◌++◌, length, take, drop, replicate, Some, None, Ok, Err, Option, Result}
use Rattle.object.specs.Rules.{Rules}
use Rattle.message.specs.Checks.{checks, buffers_fit}
use Rattle.message.specs.Forms.{quorum}
use Rattle.message.specs.Refusals.{refusal_of}
use Rattle.message.specs.Said.{Said}
use Rattle.message.specs.declared.faults.CertificateFault.{CertificateFault}
use Rattle.message.specs.declared.faults.SiteFault.{SiteFault}
use Rattle.message.specs.declared.faults.SiteFault.TheVariants.{Certificate}
use Rattle.message.specs.declared.refusal.Refusal.{Refusal}
use Rattle.record.specs.Layout.{record_bytes}
use Rattle.site.specs.Ledgers.{Kept}
use Rattle.site.specs.Rules.{nobody_asked, Outcome, step}
use Rattle.site.specs.Tables.{no_entries}
use Rattle.site.specs.declared.reply.Reply.{Reply}
use Rattle.site.specs.declared.reply.Reply.TheVariants.{Silent, Says, Shows}
use Rattle.site.specs.declared.state.Current.{Current}
use Rattle.site.specs.declared.state.Stage.TheVariants.{Open}
use Rattle.site.specs.declared.state.State.{State}

-- A fresh site: OPEN in round 0, at place 0.
abbrev pub fresh : State
fresh = record {
  stage = Open;
  round = 0;
  settlement = None;
  asked = nobody_asked;
  ledger = record { place = 0; current = None; done = no_entries; backup = None };
}

-- The bytes of the current certificate.
abbrev pub certificate_bytes : ℕ → Option Current → List ℕ
certificate_bytes f None = []
certificate_bytes f (Some current) = take (80 * quorum f) current.certificate

-- The bytes of a reply. A site's own record has a zero seal.
abbrev pub reply_bytes : ℕ → State → Reply → List ℕ
reply_bytes f st Silent = []
reply_bytes f st (Says statement) = record_bytes (record { statement = statement; seal = replicate 32 0 })
reply_bytes f st Shows = certificate_bytes f st.ledger.current

-- The board is zero after every call, but for one whose buffers do not fit.
abbrev pub board_after : ℕ → List ℕ → List ℕ
board_after room board = cond (buffers_fit room (length board)) (replicate 16 0) board

module _ (R : Rules) where
  -- What a call leaves: the state, the object, both buffers, and the number of bytes written or the refusal.
  pub record Called : Type 0 where
    pub state : State
    pub kept : Kept R
    pub output : List ℕ
    pub board : List ℕ
    pub result : Result ℕ Refusal

  -- A call left what it should.
  pub record Leaves (called : Called) (after : State) (object : Kept R) (out : List ℕ) (cleared : List ℕ) (returned : Result ℕ Refusal) : Type 0 where
    pub state : after ≡ called.state
    pub kept : object ≡ called.kept
    pub output : out ≡ called.output
    pub board : cleared ≡ called.board
    pub result : returned ≡ called.result

  -- A refusal changes neither state nor output.
  abbrev pub refused : State → Kept R → List ℕ → List ℕ → SiteFault → Called
  refused st kept output board fault = record { state = st; kept = kept; output = output; board = board; result = Err (refusal_of fault) }

  -- A reply fills the output's first bytes; the rest stays.
  abbrev pub replied : State → Kept R → List ℕ → List ℕ → List ℕ → Called
  replied st kept output board bytes = record { state = st; kept = kept; output = bytes ++ drop (length bytes) output; board = board; result = Ok (length bytes) }

  abbrev pub finished : ℕ → State → Kept R → List ℕ → List ℕ → Outcome R → Result Reply SiteFault → Called
  finished f st kept output board outcome (Err fault) = refused st kept output board fault
  finished f st kept output board outcome (Ok reply) = replied outcome.state outcome.kept output board (reply_bytes f outcome.state reply)

  abbrev pub stepped : ℕ → State → Kept R → List ℕ → List ℕ → Outcome R → Called
  stepped f st kept output board outcome = finished f st kept output board outcome outcome.reply

  -- What the checks and the step make of a message: a fault of the checks changes nothing.
  abbrev pub accepted : ℕ → ℕ → State → Kept R → Result Said CertificateFault → Outcome R
  accepted f site st kept (Err fault) = record { state = st; kept = kept; reply = Err (Certificate fault) }
  accepted f site st kept (Ok said) = step R site (quorum f) st kept said

  -- A call at a site of a pool of 3f+1, over the records that its notary accepts.
  abbrev pub call : ℕ → ℕ → (List ℕ → Bool) → State → Kept R → List ℕ → List ℕ → List ℕ → Called
  call f site accepts st kept message output board =
      stepped f st kept output (board_after (length output) board) (accepted f site st kept (checks f accepts message (length output) (length board)))
