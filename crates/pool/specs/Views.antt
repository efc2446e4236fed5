-- The sites of a pool, and what was handed to them, as the rules know them.
use Rattle.std.specs.Prelude.{ℕ, Bool, List, map, vec_items, Result}
use Rattle.object.specs.Rules.{Rules}
use Rattle.message.specs.declared.refusal.Refusal.{Refusal}
use Rattle.site.specs.Ledgers.{Kept}
use Rattle.site.specs.declared.site.Site.{Site}
use Rattle.site.specs.declared.state.State.{State}
use Rattle.pool.specs.declared.entry.Entry.{Entry}

-- One call: the site that it was made at, its message, what it returned, and the bytes that it wrote.
pub record Heard : Type 0 where
  pub site : ℕ
  pub message : List ℕ
  pub result : Result ℕ Refusal
  pub written : List ℕ

abbrev pub heard : Entry → Heard
heard e = record { site = e.site; message = vec_items e.message; result = e.result; written = vec_items e.written }

module _ (R : Rules) where
  -- A site: its figures, the records that its notary accepts, its state, and what its object holds.
  pub record View : Type 0 where
    pub f : ℕ
    pub number : ℕ
    pub accepts : List ℕ → Bool
    pub state : State
    pub kept : Kept R

  -- A site of the code, by what its notary and its object mean.
  abbrev pub view : {N O : Type 0} → (N → List ℕ → Bool) → (O → Kept R) → Site N O → View
  view means holds s = record {
    f = s.figures.f;
    number = s.figures.number;
    accepts = means s.notary;
    state = s.replica.state;
    kept = holds s.replica.object;
  }

  -- All of them, by their numbers.
  abbrev pub views : {N O : Type 0} → (N → List ℕ → Bool) → (O → Kept R) → List (Site N O) → List View
  views means holds = map (view means holds)
