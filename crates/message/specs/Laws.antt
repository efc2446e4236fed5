-- What the checks establish, in the words of the format: when a message passes, and which fault is named when it does not.
use Rattle.std.specs.Prelude.{◌≡◌, ℕ, ◌+◌, ◌-◌, ◌*◌, ◌<◌, ◌≤◌, Bool, true, false, ◌⊎◌, List, length, Some, Ok, Err}
use Rattle.record.specs.Claims.{claim_of}
use Rattle.record.specs.Kinds.{kind_number}
use Rattle.record.specs.Ranges.{in_range}
use Rattle.record.specs.declared.fields.Claim.{Claim}
use Rattle.record.specs.declared.kind.Kind.{Kind}
use Rattle.record.specs.declared.kind.Kind.TheVariants as kind
use Rattle.message.specs.Checks.{checks}
use Rattle.message.specs.Forms.{quorum, form_of}
use Rattle.message.specs.Limits.{highest_faulty, most_records, most_requests, least_room, board_size}
use Rattle.message.specs.Records.{records, record_at, statement_at}
use Rattle.message.specs.Refusals.{refusal_of_certificate}
use Rattle.message.specs.Said.{Said}
use Rattle.message.specs.Saying.{said_of, target}
use Rattle.message.specs.declared.faults.CertificateFault.{CertificateFault}
use Rattle.message.specs.declared.faults.CertificateFault.TheVariants.{Message, Mixed, Same, Twice, Unvouched, Low, Order}
use Rattle.message.specs.declared.faults.MessageFault.TheVariants.{Short, Length, Kind as No-form, Field}
use Rattle.message.specs.declared.form.Form.{Form}
use Rattle.message.specs.declared.form.Form.TheVariants.{Write1, Read, Write2, Resolve, Round, ShowGrant, ShowCert}

-- The claim, round, place, signer and client of record i.
abbrev pub claim_at : List ℕ → ℕ → Claim
claim_at m i = claim_of (statement_at m i)

abbrev pub round_at : List ℕ → ℕ → ℕ
round_at m i = (statement_at m i).round

abbrev pub place_at : List ℕ → ℕ → ℕ
place_at m i = (statement_at m i).place

abbrev pub signer_at : List ℕ → ℕ → ℕ
signer_at m i = (statement_at m i).signer

abbrev pub client_at : List ℕ → ℕ → ℕ
client_at m i = (statement_at m i).client

-- The buffers fit, and the message is 1 to 38 whole records.
abbrev pub Fit : ℕ → ℕ → Type 0
Fit room board = (least_room ≤ room) × (board ≡ board_size)

abbrev pub Whole : List ℕ → Type 0
Whole m = (1 ≤ records m) × (records m ≤ most_records) × (length m ≡ 80 * records m)

-- Each record from index i up to, and without, index j is of a kind.
abbrev pub Kinds : Kind → List ℕ → ℕ → ℕ → Type 0
Kinds kind m i j = (k : ℕ) → i ≤ k → k < j → (statement_at m k).kind ≡ kind_number kind

-- The records that a message of each form has.
abbrev pub HasForm : ℕ → List ℕ → Form → Type 0
HasForm f m Write1 = (records m ≡ 1) × Kinds kind.Request m 0 1
HasForm f m Read = (records m ≡ 1) × Kinds kind.Question m 0 1
HasForm f m Write2 = (f ≤ highest_faulty) × (records m ≡ quorum f) × Kinds kind.Grant m 0 (quorum f)
HasForm f m Resolve = (f ≤ highest_faulty) × (records m ≡ quorum f + 1) × Kinds kind.Grant m 0 (quorum f) × Kinds kind.Request m (quorum f) (quorum f + 1)
HasForm f m (Round grants requests) =
    (f ≤ highest_faulty) × ((grants ≡ 0) ⊎ (grants ≡ quorum f)) × (requests ≤ most_requests) × (records m ≡ quorum f + grants + requests)
    × Kinds kind.Start m 0 (quorum f)
    × Kinds kind.Grant m (quorum f) (quorum f + grants)
    × Kinds kind.Request m (quorum f + grants) (quorum f + grants + requests)
HasForm f m ShowGrant = (records m ≡ 1) × Kinds kind.ShowGrant m 0 1
HasForm f m ShowCert = (records m ≡ 1) × Kinds kind.ShowCert m 0 1

-- A form is given to a message exactly where the message has it.
abbrev pub FormsTold : Type 0
FormsTold = (f : ℕ) (m : List ℕ) (form : Form) → (form_of f m ≡ Some form → HasForm f m form) × (HasForm f m form → form_of f m ≡ Some form)

-- The groups of a form: records that belong together lie from index `first` up to, and without, index `first + n`.
abbrev pub Group : ℕ → Form → ℕ → ℕ → Type 0
Group f Write1 first n = ⊥
Group f Read first n = ⊥
Group f Write2 first n = (first ≡ 0) × (n ≡ quorum f)
Group f Resolve first n = (first ≡ 0) × (n ≡ quorum f)
Group f (Round grants requests) first n = ((first ≡ 0) × (n ≡ quorum f)) ⊎ ((first ≡ quorum f) × (n ≡ grants))
Group f ShowGrant first n = ⊥
Group f ShowCert first n = ⊥

-- What record i must have in common with others of its group.
abbrev pub Agrees : ℕ → List ℕ → Form → ℕ → Type 0
Agrees f m Write1 i = Unit {0}
Agrees f m Read i = Unit {0}
Agrees f m Write2 i = claim_at m i ≡ claim_at m 0
Agrees f m Resolve i = i < quorum f → (round_at m i ≡ round_at m 0) × (place_at m i ≡ place_at m 0)
Agrees f m (Round grants requests) i =
    (i < quorum f → round_at m i ≡ round_at m 0)
    × (quorum f ≤ i → i < quorum f + grants → (claim_at m i ≡ claim_at m (quorum f)) × (round_at m i ≡ round_at m 0))
Agrees f m ShowGrant i = Unit {0}
Agrees f m ShowCert i = Unit {0}

-- One claim throughout the GRANTs of a RESOLVE.
abbrev pub IsOneClaim : ℕ → List ℕ → Form → Type 0
IsOneClaim f m Write1 = ⊥
IsOneClaim f m Read = ⊥
IsOneClaim f m Write2 = ⊥
IsOneClaim f m Resolve = (i : ℕ) → i < quorum f → claim_at m i ≡ claim_at m 0
IsOneClaim f m (Round grants requests) = ⊥
IsOneClaim f m ShowGrant = ⊥
IsOneClaim f m ShowCert = ⊥

-- An earlier record of the same group has the signer of record i.
abbrev pub Again : ℕ → List ℕ → Form → ℕ → Type 0
Again f m form i =
    (first : ℕ) × (n : ℕ) × Group f form first n × (i < first + n)
    × ((j : ℕ) × (first ≤ j) × (j < i) × (signer_at m j ≡ signer_at m i))

-- Messages whose records are shown to the notary: all but the SHOWs.
abbrev pub Sealed : Form → Type 0
Sealed Write1 = Unit {0}
Sealed Read = Unit {0}
Sealed Write2 = Unit {0}
Sealed Resolve = Unit {0}
Sealed (Round grants requests) = Unit {0}
Sealed ShowGrant = ⊥
Sealed ShowCert = ⊥

-- Record i is a START above the target.
abbrev pub Above : ℕ → List ℕ → Form → ℕ → Type 0
Above f m Write1 i = ⊥
Above f m Read i = ⊥
Above f m Write2 i = ⊥
Above f m Resolve i = ⊥
Above f m (Round grants requests) i = (i < quorum f) × (target m (quorum f) grants < place_at m i)
Above f m ShowGrant i = ⊥
Above f m ShowCert i = ⊥

-- Record i is a REQUEST of a ROUND, with a REQUEST before it whose client it is not above.
abbrev pub Unordered : ℕ → List ℕ → Form → ℕ → Type 0
Unordered f m Write1 i = ⊥
Unordered f m Read i = ⊥
Unordered f m Write2 i = ⊥
Unordered f m Resolve i = ⊥
Unordered f m (Round grants requests) i = (quorum f + grants < i) × (client_at m i ≤ client_at m (i - 1))
Unordered f m ShowGrant i = ⊥
Unordered f m ShowCert i = ⊥

-- The facts that a message of a form has where it passes the checks.
pub record Passed (f : ℕ) (accepts : List ℕ → Bool) (m : List ℕ) (form : Form) : Type 0 where
  -- its records are those of the form;
  pub kinds : HasForm f m form
  -- each statement is in range;
  pub fields : (i : ℕ) → i < records m → in_range f (statement_at m i) ≡ true
  -- each record agrees with its group;
  pub alike : (i : ℕ) → i < records m → Agrees f m form i
  -- the GRANTs of a RESOLVE make two claims at least;
  pub clashing : IsOneClaim f m form → ⊥
  -- the records of a group have different signers,
  pub different
      : (first n : ℕ)
      → Group f form first n
      → (i j : ℕ)
      → first ≤ i
      → i < first + n
      → first ≤ j
      → j < first + n
      → signer_at m i ≡ signer_at m j
      → i ≡ j
  -- each of them a site of the pool;
  pub sites : (first n : ℕ) → Group f form first n → (i : ℕ) → first ≤ i → i < first + n → signer_at m i < 3 * f + 1
  -- the notary accepts each record but a SHOW;
  pub vouched : Sealed form → (i : ℕ) → i < records m → accepts (record_at m i) ≡ true
  -- no START is above the target;
  pub reached : (i : ℕ) → i < records m → Above f m form i → ⊥
  -- and the clients of the REQUESTs rise strictly.
  pub rising : (i : ℕ) → i < records m → Unordered f m form i → ⊥

-- A message is accepted exactly where the buffers fit, it is whole, and it has a form with which it passes; and then it says what its form says.
abbrev pub AcceptedWhenPassed : Type 0
AcceptedWhenPassed =
    (f : ℕ) (accepts : List ℕ → Bool) (m : List ℕ) (room board : ℕ) (said : Said)
    → (checks f accepts m room board ≡ Ok said → Fit room board × Whole m × ((form : Form) × Passed f accepts m form × (said ≡ said_of f m form)))
    × (Fit room board × Whole m × ((form : Form) × Passed f accepts m form × (said ≡ said_of f m form)) → checks f accepts m room board ≡ Ok said)

-- A fault of record i, in a message that has a form.
abbrev pub AtRecord : ℕ → List ℕ → ℕ → (Form → Type 0) → Type 0
AtRecord f m i fault = (form : Form) × HasForm f m form × (i < records m) × fault form

-- A fault is there, whatever other faults are there too.
abbrev pub Present : ℕ → (List ℕ → Bool) → List ℕ → ℕ → ℕ → CertificateFault → Type 0
Present f accepts m room board (Message Short) = Fit room board → ⊥
Present f accepts m room board (Message Length) = Whole m → ⊥
Present f accepts m room board (Message No-form) = (form : Form) → HasForm f m form → ⊥
Present f accepts m room board (Message (Field i)) = (i < records m) × (in_range f (statement_at m i) ≡ false)
Present f accepts m room board (Mixed i) = AtRecord f m i (λ form. Agrees f m form i → ⊥)
Present f accepts m room board Same = AtRecord f m 0 (λ form. IsOneClaim f m form)
Present f accepts m room board (Twice i) = AtRecord f m i (λ form. Again f m form i)
Present f accepts m room board (Unvouched i) = AtRecord f m i (λ form. Sealed form × (accepts (record_at m i) ≡ false))
Present f accepts m room board (Low i) = AtRecord f m i (λ form. Above f m form i)
Present f accepts m room board (Order i) = AtRecord f m i (λ form. Unordered f m form i)

-- One fault comes before another: its check comes before, or it is the same check and a lower index.
abbrev pub Before : CertificateFault → CertificateFault → Type 0
Before a b =
    ((refusal_of_certificate a).number < (refusal_of_certificate b).number)
    ⊎ (((refusal_of_certificate a).number ≡ (refusal_of_certificate b).number) × ((refusal_of_certificate a).index < (refusal_of_certificate b).index))

-- The fault that is named is there, and none that comes before it is.
abbrev pub FirstFaultNamed : Type 0
FirstFaultNamed =
    (f : ℕ) (accepts : List ℕ → Bool) (m : List ℕ) (room board : ℕ) (fault : CertificateFault)
    → checks f accepts m room board ≡ Err fault
    → Present f accepts m room board fault × ((other : CertificateFault) → Before other fault → Present f accepts m room board other → ⊥)
