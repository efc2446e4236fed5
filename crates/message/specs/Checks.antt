-- The ten checks of a message, in their order. Each looks at the whole message and names the lowest index that offends.
use Rattle.std.specs.Prelude.{ℕ, zero, suc, ◌+◌, ◌-◌, ◌%◌, Bool, false, cond, not, ◌&&◌, ◌||◌, leb, List, length, Some, None, Ok, Err, Option, Result, ◌==◌, nat_le, nat_lt}
use Rattle.record.specs.Claims.{claim_of, same_claim}
use Rattle.record.specs.Ranges.{in_range}
use Rattle.record.specs.declared.fields.Statement.{Statement}
use Rattle.message.specs.Forms.{quorum, form_of}
use Rattle.message.specs.Limits.{most_records, least_room, board_size}
use Rattle.message.specs.Records.{records, record_at, statement_at, group, lowest}
use Rattle.message.specs.Said.{Said}
use Rattle.message.specs.Saying.{said_of, target}
use Rattle.message.specs.declared.agreement.Agreement.{Agreement}
use Rattle.message.specs.declared.agreement.Agreement.TheVariants.{OneClaim, OneClaimIn, OnePlace, OneRound}
use Rattle.message.specs.declared.faults.CertificateFault.{CertificateFault}
use Rattle.message.specs.declared.faults.CertificateFault.TheVariants.{Message, Mixed, Same, Twice, Unvouched, Low, Order}
use Rattle.message.specs.declared.faults.MessageFault.{MessageFault}
use Rattle.message.specs.declared.faults.MessageFault.TheVariants.{Short, Length, Kind, Field}
use Rattle.message.specs.declared.form.Form.{Form}
use Rattle.message.specs.declared.form.Form.TheVariants.{Write1, Read, Write2, Resolve, Round, ShowGrant, ShowCert}

-- 1. The output has room for the longest reply, and the board has its sixteen bytes.
abbrev pub buffers_fit : ℕ → ℕ → Bool
buffers_fit room board = nat_le least_room room && board == board_size

abbrev pub fitted : ℕ → ℕ → Result (Unit {0}) MessageFault
fitted room board = cond (buffers_fit room board) (Ok tt) (Err Short)

-- 2. The message is 1 to 38 whole records.
abbrev pub whole : List ℕ → Bool
whole m = length m % 80 == 0 && nat_le 1 (records m) && nat_le (records m) most_records

-- 4. The first record with a field out of range.
abbrev pub first_outside : ℕ → List ℕ → Option ℕ
first_outside f m = lowest (λ i. not (in_range f (statement_at m i))) 0 (records m)

abbrev pub in_fields : Form → Option ℕ → Result Form MessageFault
in_fields form None = Ok form
in_fields form (Some i) = Err (Field i)

-- 3. The message has a form.
abbrev pub known_form : ℕ → List ℕ → Option Form → Result Form MessageFault
known_form f m None = Err Kind
known_form f m (Some form) = in_fields form (first_outside f m)

-- Checks 2 to 4: the form of a message whose records are each in range.
abbrev pub read_form : ℕ → List ℕ → Result Form MessageFault
read_form f m = cond (whole m) (known_form f m (form_of f m)) (Err Length)

-- Whether a record of a group is unlike the first.
abbrev pub unlike : Agreement → Statement → Statement → Bool
unlike OneClaim first other = not (same_claim (claim_of first) (claim_of other))
unlike (OneClaimIn round) first other = not (same_claim (claim_of first) (claim_of other) && other.round == round)
unlike OnePlace first other = not (first.round == other.round && first.place == other.place)
unlike OneRound first other = not (first.round == other.round)

-- The first record of a group that is unlike the group's first.
abbrev pub first_unlike : Agreement → List ℕ → Option ℕ
first_unlike agreement part = lowest (λ k. unlike agreement (statement_at part 0) (statement_at part k)) 0 (records part)

-- Whether one of the first n records of a group has a signer.
unfoldable pub signed_among : ℕ → List ℕ → ℕ → Bool
signed_among signer part zero = false
signed_among signer part (suc n) = signed_among signer part n || (statement_at part n).signer == signer

-- The first record of a group whose signer has signed an earlier one of it.
abbrev pub first_again : List ℕ → Option ℕ
first_again part = lowest (λ k. signed_among (statement_at part k).signer part k) 0 (records part)

-- The first record that is not among those that the notary accepts.
abbrev pub first_unvouched : (List ℕ → Bool) → List ℕ → Option ℕ
first_unvouched accepts part = lowest (λ k. not (accepts (record_at part k))) 0 (records part)

-- The first START whose place is above the target.
abbrev pub first_above : ℕ → List ℕ → Option ℕ
first_above target part = lowest (λ k. nat_lt target (statement_at part k).place) 0 (records part)

-- The first REQUEST, after the first, whose client is not above the one before.
abbrev pub first_unordered : List ℕ → Option ℕ
first_unordered part = lowest (λ k. leb (statement_at part k).client (statement_at part (k - 1)).client) 1 (records part - 1)

-- Passed, or refused at the record found in a part whose first record has index `first` in the message.
abbrev pub refuse : (ℕ → CertificateFault) → ℕ → Option ℕ → Result (Unit {0}) CertificateFault
refuse fault first None = Ok tt
refuse fault first (Some k) = Err (fault (first + k))

-- What comes next where a check has passed.
abbrev pub after : {T E : Type 0} → Result (Unit {0}) E → Result T E → Result T E
after (Ok _) next = next
after (Err fault) next = Err fault

-- 5. MIXED. Of a ROUND the STARTs come before the GRANTs.
abbrev pub agreed : ℕ → List ℕ → Form → Result (Unit {0}) CertificateFault
agreed f m Write1 = Ok tt
agreed f m Read = Ok tt
agreed f m Write2 = refuse Mixed 0 (first_unlike OneClaim (group m 0 (quorum f)))
agreed f m Resolve = refuse Mixed 0 (first_unlike OnePlace (group m 0 (quorum f)))
agreed f m (Round grants requests) =
    after (refuse Mixed 0 (first_unlike OneRound (group m 0 (quorum f))))
    (refuse Mixed (quorum f) (first_unlike (OneClaimIn (statement_at m 0).round) (group m (quorum f) grants)))
agreed f m ShowGrant = Ok tt
agreed f m ShowCert = Ok tt

-- A clash is of two claims at least: one claim throughout is none.
abbrev pub clash : Option ℕ → Result (Unit {0}) CertificateFault
clash None = Err Same
clash (Some k) = Ok tt

-- 6. SAME.
abbrev pub clashing : ℕ → List ℕ → Form → Result (Unit {0}) CertificateFault
clashing f m Write1 = Ok tt
clashing f m Read = Ok tt
clashing f m Write2 = Ok tt
clashing f m Resolve = clash (first_unlike OneClaim (group m 0 (quorum f)))
clashing f m (Round grants requests) = Ok tt
clashing f m ShowGrant = Ok tt
clashing f m ShowCert = Ok tt

-- 7. TWICE. The STARTs and the GRANTs of a ROUND are two groups.
abbrev pub distinct : ℕ → List ℕ → Form → Result (Unit {0}) CertificateFault
distinct f m Write1 = Ok tt
distinct f m Read = Ok tt
distinct f m Write2 = refuse Twice 0 (first_again (group m 0 (quorum f)))
distinct f m Resolve = refuse Twice 0 (first_again (group m 0 (quorum f)))
distinct f m (Round grants requests) =
    after (refuse Twice 0 (first_again (group m 0 (quorum f))))
    (refuse Twice (quorum f) (first_again (group m (quorum f) grants)))
distinct f m ShowGrant = Ok tt
distinct f m ShowCert = Ok tt

-- 8. UNVOUCHED. A SHOW needs no seal.
abbrev pub vouched : (List ℕ → Bool) → List ℕ → Form → Result (Unit {0}) CertificateFault
vouched accepts m Write1 = refuse Unvouched 0 (first_unvouched accepts m)
vouched accepts m Read = refuse Unvouched 0 (first_unvouched accepts m)
vouched accepts m Write2 = refuse Unvouched 0 (first_unvouched accepts m)
vouched accepts m Resolve = refuse Unvouched 0 (first_unvouched accepts m)
vouched accepts m (Round grants requests) = refuse Unvouched 0 (first_unvouched accepts m)
vouched accepts m ShowGrant = Ok tt
vouched accepts m ShowCert = Ok tt

-- 9. LOW.
abbrev pub reached : ℕ → List ℕ → Form → Result (Unit {0}) CertificateFault
reached f m Write1 = Ok tt
reached f m Read = Ok tt
reached f m Write2 = Ok tt
reached f m Resolve = Ok tt
reached f m (Round grants requests) = refuse Low 0 (first_above (target m (quorum f) grants) (group m 0 (quorum f)))
reached f m ShowGrant = Ok tt
reached f m ShowCert = Ok tt

-- 10. ORDER.
abbrev pub ordered : ℕ → List ℕ → Form → Result (Unit {0}) CertificateFault
ordered f m Write1 = Ok tt
ordered f m Read = Ok tt
ordered f m Write2 = Ok tt
ordered f m Resolve = Ok tt
ordered f m (Round grants requests) = refuse Order (quorum f + grants) (first_unordered (group m (quorum f + grants) requests))
ordered f m ShowGrant = Ok tt
ordered f m ShowCert = Ok tt

-- Checks 5 to 10 of a message that has a form.
abbrev pub certified : ℕ → (List ℕ → Bool) → List ℕ → Result Form MessageFault → Result Said CertificateFault
certified f accepts m (Err fault) = Err (Message fault)
certified f accepts m (Ok form) =
    after (agreed f m form)
    (after (clashing f m form)
    (after (distinct f m form)
    (after (vouched accepts m form) (after (reached f m form) (after (ordered f m form) (Ok (said_of f m form)))))))

-- All ten checks: what a message says, or why it is refused. Given are f, the records that the notary accepts, the message,
-- the length of the output and that of the board.
abbrev pub checks : ℕ → (List ℕ → Bool) → List ℕ → ℕ → ℕ → Result Said CertificateFault
checks f accepts m room board = cond (buffers_fit room board) (certified f accepts m (read_form f m)) (Err (Message Short))
