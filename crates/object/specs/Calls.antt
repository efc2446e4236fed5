-- Calls of an object, one after another, and what it means after them.
use Rattle.std.specs.Prelude.{◌≡◌, ℕ, true, false, cond, List, [], ◌∷◌, Some, None, IfSome, unwrap_or, ◌≢◌}
use Rattle.object.specs.Kept.{unknown_code}
use Rattle.object.specs.Rules.{Rules, Moment, fit}
use Rattle.object.specs.declared.calls.Call.{Call}
use Rattle.object.specs.declared.calls.Call.TheVariants.{Perform, TakeBack}

-- The object after one call.
abbrev pub called : (r : Rules) → Moment r.Value → Call → Moment r.Value
called r m (Perform client operation) =
    record {
      value = r.next m.value client operation;
      before = cond (fit r.highest operation) (Some m.value) m.before;
    }
called r m TakeBack = record { value = unwrap_or m.before m.value; before = None }

-- The object after a list of calls.
abbrev pub run : (r : Rules) → Moment r.Value → List Call → Moment r.Value
run r m [] = m
run r m (c ∷ cs) = run r (called r m c) cs

-- No take-back is among the calls.
abbrev pub Performs : List Call → Type 0
Performs [] = Unit {0}
Performs (Perform client operation ∷ cs) = Performs cs
Performs (TakeBack ∷ cs) = ⊥

-- Something holds of the value, and of the remembered value where there is one.
pub record Throughout {V : Type 0} (P : V → Type 0) (m : Moment V) : Type 0 where
  pub here : P m.value
  pub earlier : IfSome m.before P

-- An operation whose code the object does not know changes neither the value nor what is remembered, and
-- gets the answer that says so.
pub record Unchanged (r : Rules) (m : Moment r.Value) (client : ℕ) (operation : List ℕ) : Type 0 where
  pub same : called r m (Perform client operation) ≡ m
  pub answered : r.answer m.value client operation ≡ unknown_code

abbrev pub UnknownCodeChangesNothing : Rules → Type 0
UnknownCodeChangesNothing r =
    (m : Moment r.Value) (client : ℕ) (operation : List ℕ) →
    fit r.highest operation ≡ false → Unchanged r m client operation

-- A write that is not answered by 0, which says done, leaves the value as it was.
abbrev pub RefusedMovesNothing : Rules → Type 0
RefusedMovesNothing r =
    (v : r.Value) (client : ℕ) (operation : List ℕ) →
    (r.answer v client operation ≢ 0) → r.next v client operation ≡ v

-- A take-back after a write of a known code restores the value, and nothing is left to take back; a second
-- take-back changes nothing.
pub record Undone (r : Rules) (m : Moment r.Value) : Type 0 where
  pub restores : (client : ℕ) (operation : List ℕ) →
      fit r.highest operation ≡ true →
      called r (called r m (Perform client operation)) TakeBack ≡ record { value = m.value; before = None }
  pub once : called r (called r m TakeBack) TakeBack ≡ called r m TakeBack

abbrev pub TakeBackUndoes : Rules → Type 0
TakeBackUndoes r = (m : Moment r.Value) → Undone r m
