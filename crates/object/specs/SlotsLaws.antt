-- What holds of slots, whatever is done with them.
use Rattle.std.specs.Prelude.{◌≡◌, ℕ, ◌<◌, List, length}
use Rattle.object.specs.Accounts.{holding, total}
use Rattle.object.specs.Calls.{run, Throughout}
use Rattle.object.specs.Rules.{Moment}
use Rattle.object.specs.Slots.{slots_rules, slots_next, account}
use Rattle.object.specs.declared.calls.Call.{Call}

-- Sixteen accounts that hold n slots together.
pub record AmountTo (n : ℕ) (accounts : List ℕ) : Type 0 where
  pub sixteen : length accounts ≡ 16
  pub together : total accounts ≡ n

-- The total never changes, whatever is written and taken back.
abbrev pub TotalNeverChanges : Type 0
TotalNeverChanges =
    (n : ℕ) (m : Moment (List ℕ)) (calls : List Call) →
    Throughout (AmountTo n) m →
    Throughout (AmountTo n) (run slots_rules m calls)

-- Only the writer's own account loses slots.
abbrev pub OnlyTheWriterPays : Type 0
OnlyTheWriterPays =
    (accounts : List ℕ) (client : ℕ) (operation : List ℕ) (k : ℕ) →
    holding (slots_next accounts client operation) k < holding accounts k →
    client ≡ k

-- A move to the writer's own account changes nothing.
abbrev pub MoveToOneselfChangesNothing : Type 0
MoveToOneselfChangesNothing =
    (accounts : List ℕ) (client : ℕ) (operation : List ℕ) →
    account operation ≡ client →
    slots_next accounts client operation ≡ accounts
