-- What holds of titles, whatever is done with them.
use Rattle.std.specs.Prelude.{◌≡◌, ℕ, ◌≤◌, ◌⊎◌, List, None, Ok, ◌≢◌}
use Rattle.object.specs.Calls.{run, Performs, Throughout}
use Rattle.object.specs.Rules.{Moment, code}
use Rattle.object.specs.Titles.{titles_first, titles_rules, titles_next, titles_answer, number, state, title, receiver}
use Rattle.object.specs.declared.calls.Call.{Call}
use Rattle.object.specs.declared.titles.Title.{Title}
use Rattle.object.specs.declared.titles.Title.TheVariants.{Unissued, HeldBy, Surrendered}

-- A surrendered title stays surrendered, whatever is written after.
abbrev pub SurrenderedStays : Type 0
SurrenderedStays =
    (m : Moment (List Title)) (k : ℕ) (calls : List Call) →
    Performs calls →
    state m.value k ≡ Surrendered →
    state (run titles_rules m calls).value k ≡ Surrendered

-- With take-backs among the calls it stays surrendered too, if it was so in the remembered value as well.
abbrev pub SurrenderedForGood : Type 0
SurrenderedForGood =
    (m : Moment (List Title)) (k : ℕ) (calls : List Call) →
    Throughout (λ titles. state titles k ≡ Surrendered) m →
    Throughout (λ titles. state titles k ≡ Surrendered) (run titles_rules m calls)

-- Only its holder moves a title. Where a title that h holds is another after a write, then h wrote, named
-- that title, was answered done, and transferred the title to the receiver or surrendered it.
pub record MovedBy (titles : List Title) (client : ℕ) (operation : List ℕ) (k h : ℕ) : Type 0 where
  pub writer : client ≡ h
  pub named : title operation ≡ k
  pub answered : titles_answer titles client operation ≡ number (Ok tt)
  pub how :
      ((code operation ≡ 2) × (state (titles_next titles client operation) k ≡ HeldBy (receiver operation)))
      ⊎ ((code operation ≡ 3) × (state (titles_next titles client operation) k ≡ Surrendered))

abbrev pub OnlyItsHolderMovesATitle : Type 0
OnlyItsHolderMovesATitle =
    (titles : List Title) (client : ℕ) (operation : List ℕ) (k h : ℕ) →
    state titles k ≡ HeldBy h →
    (state (titles_next titles client operation) k ≢ HeldBy h) →
    MovedBy titles client operation k h

-- Only client 0 issues a title. Where an unissued title is another after a write, then client 0 wrote,
-- named that title, was answered done, and the receiver holds it.
pub record IssuedBy (titles : List Title) (client : ℕ) (operation : List ℕ) (k : ℕ) : Type 0 where
  pub writer : client ≡ 0
  pub named : title operation ≡ k
  pub answered : titles_answer titles client operation ≡ number (Ok tt)
  pub asked : code operation ≡ 1
  pub given : state (titles_next titles client operation) k ≡ HeldBy (receiver operation)

abbrev pub OnlyClient0Issues : Type 0
OnlyClient0Issues =
    (titles : List Title) (client : ℕ) (operation : List ℕ) (k : ℕ) →
    state titles k ≡ Unissued →
    (state (titles_next titles client operation) k ≢ Unissued) →
    IssuedBy titles client operation k

-- From the first titles on, whatever is written and taken back, a holder is a client from 0 to 15. So 16
-- and 17, which a reading gives for unissued and surrendered titles, are no holder's number.
abbrev pub HoldersAreClients : Type 0
HoldersAreClients =
    (calls : List Call) (k h : ℕ) →
    state (run titles_rules (record { value = titles_first; before = None }) calls).value k ≡ HeldBy h →
    h ≤ 15
