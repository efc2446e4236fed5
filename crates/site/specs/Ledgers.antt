-- Doing a write and taking it back.
use Rattle.std.specs.Prelude.{ℕ, ◌-◌, min, Bool, true, false, cond, List, ◌++◌, length, take, replicate, Some, None, Option, ◌==◌, slice_set, unwrap_or}
use Rattle.object.specs.Rules.{Rules, Moment, fit}
use Rattle.record.specs.Limits.{mark}
use Rattle.record.specs.declared.fields.Claim.{Claim}
use Rattle.site.specs.Tables.{entry}
use Rattle.site.specs.declared.state.Backup.{Backup}
use Rattle.site.specs.declared.state.Current.{Current}
use Rattle.site.specs.declared.state.Ledger.{Ledger}

-- A certificate as it is kept: its bytes, at most 880, then zeros.
abbrev pub kept_bytes : List ℕ → List ℕ
kept_bytes certificate = take (min (length certificate) 880) certificate ++ replicate (880 - min (length certificate) 880) 0

-- The ledger after a write: its claim and certificate are current, there is one write more, the client's entry is
-- this write, mark apart, and the backup has what these replaced.
abbrev pub noted : Ledger → Claim → List ℕ → ℕ → Bool → Ledger
noted ledger claim certificate answer called = record {
  place = claim.place;
  current = Some (record { claim = claim; certificate = kept_bytes certificate });
  done = slice_set ledger.done claim.client (Some (record { claim = claim; answer = answer }));
  backup = Some (record { current = ledger.current; entry = entry ledger.done claim.client; called = called });
}

-- The client whose write is current; with none there is none to restore.
abbrev pub current_client : Option Current → ℕ
current_client None = mark
current_client (Some current) = current.claim.client

-- The ledger after its last write is taken back.
abbrev pub taken_back : Ledger → Option Backup → Ledger
taken_back ledger None = ledger
taken_back ledger (Some backup) = record {
  place = ledger.place - 1;
  current = backup.current;
  done = slice_set ledger.done (current_client ledger.current) backup.entry;
  backup = None;
}

-- Whether taking the last write back calls the object.
abbrev pub calls_back : Option Backup → Bool
calls_back None = false
calls_back (Some backup) = backup.called

module _ (R : Rules) where
  -- What an object of these rules holds.
  abbrev pub Kept : Type 0
  Kept = Moment R.Value

  -- Whether a write calls the object: not for the mark, nor for an unfit code.
  abbrev pub calls : Claim → Bool
  calls claim = cond (claim.client == mark) false (fit R.highest claim.operation)

  -- The answer to a write.
  abbrev pub answer_to : Kept → Claim → ℕ
  answer_to kept claim =
      cond (calls claim) (R.answer kept.value claim.client claim.operation) (cond (claim.client == mark) 0 9999999)

  -- The object after a write.
  abbrev pub performed : Kept → Claim → Kept
  performed kept claim =
      cond (calls claim) (record { value = R.next kept.value claim.client claim.operation; before = Some kept.value }) kept

  -- The object after a take-back.
  abbrev pub restored : Kept → Bool → Kept
  restored kept true = record { value = unwrap_or kept.before kept.value; before = None }
  restored kept false = kept
