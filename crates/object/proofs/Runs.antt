-- What writes keep, every list of calls keeps.
use Rattle.std.proofs.Common.{ℕ, Bool, true, false, cond, List, [], ◌∷◌, Some, None, Option, IfSome, unwrap_or}
use Rattle.object.specs.Calls.{called, run, Throughout}
use Rattle.object.specs.Rules.{Rules, Moment, fit}
use Rattle.object.specs.declared.calls.Call.{Call}
use Rattle.object.specs.declared.calls.Call.TheVariants.{Perform, TakeBack}

unwrap_keeps : {V : Type 0} (P : V → Type 0) (b : Option V) (v : V) → IfSome b P → P v → P (unwrap_or b v)
unwrap_keeps P None v earlier here = here
unwrap_keeps P (Some w) v earlier here = earlier

cond_keeps : {V : Type 0} (P : V → Type 0) (t : Bool) (v : V) (b : Option V) →
    P v → IfSome b P → IfSome (cond t (Some v) b) P
cond_keeps P true v b here earlier = here
cond_keeps P false v b here earlier = earlier

module _ (r : Rules) (P : r.Value → Type 0)
    (keeps : (v : r.Value) (client : ℕ) (operation : List ℕ) → P v → P (r.next v client operation)) where
  call_keeps : (m : Moment r.Value) (c : Call) → Throughout P m → Throughout P (called r m c)
  call_keeps m (Perform client operation) t =
      record {
        here = keeps m.value client operation t.here;
        earlier = cond_keeps P (fit r.highest operation) m.value m.before t.here t.earlier;
      }
  call_keeps m TakeBack t = record { here = unwrap_keeps P m.before m.value t.earlier t.here; earlier = tt }

  pub run_keeps : (m : Moment r.Value) (calls : List Call) → Throughout P m → Throughout P (run r m calls)
  run_keeps m [] t = t
  run_keeps m (c ∷ cs) t = run_keeps (called r m c) cs (call_keeps m c t)
