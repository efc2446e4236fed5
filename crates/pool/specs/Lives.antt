-- When a pool in one process is a pool of a life, and what is promised of it then.
use Rattle.std.specs.Prelude.{◌≡◌, ℕ, Bool, cond, List, [], ◌∷◌, ◌++◌, length, Some, filter}
use Rattle.std.specs.List.{slice_get}
use Rattle.object.specs.Rules.{Rules}
use Rattle.protocol.specs.Quorum.{Sound, sites}
use Rattle.site.specs.Ledgers.{Kept}
use Rattle.site.specs.Life.{Event, Setting, Copy, copy_after, called}
use Rattle.site.specs.OneBook.{Premises, KeptPromise, setting}
use Rattle.pool.specs.Delivering.{noted}
use Rattle.pool.specs.Views.{Heard, View}

module _ {R : Rules} (in_a : Setting R) where
  -- A site of the pool, as its copy has it.
  abbrev pub copied : ℕ → Copy in_a → View R
  copied s copy = record { f = in_a.pool.f; number = s; accepts = in_a.accepts; state = copy.state; kept = copy.kept }

  -- The calls of a life, as a transcript has them: the oldest first.
  abbrev pub heard_in : List Event → List Heard
  heard_in [] = []
  heard_in (e ∷ life) = heard_in life ++ noted e.site e.message (called in_a life e) ∷ []

  abbrev pub at_sound : Heard → Bool
  at_sound h = in_a.pool.sound h.site

  -- The pool is that of a life: it has 3f + 1 sites; each sound one is as the life leaves it; and what the transcript has of sound sites are the life's calls.
  -- Nothing is said of the sites that are not sound.
  pub record Stands (life : List Event) (all : List (View R)) (transcript : List Heard) : Type 0 where
    pub many : length all ≡ sites in_a.pool
    pub each : (s : ℕ) → Sound in_a.pool s → slice_get all s ≡ Some (copied s (copy_after in_a life s))
    pub told : filter at_sound transcript ≡ heard_in life

  -- The life with one call more. What is handed to a site that is not sound is no event.
  abbrev pub with_call : List Event → Event → List Event
  with_call life e = cond (in_a.pool.sound e.site) (e ∷ life) life

  -- After the call the pool is that of the life with it, and under the premises the promise is kept.
  pub record Goes_on (life : List Event) (e : Event) (all : List (View R)) (transcript : List Heard) : Type 0 where
    pub stands : Stands (with_call life e) all transcript
    pub promise : Premises in_a (with_call life e) → KeptPromise in_a (with_call life e)

-- Whatever life the pool is that of, with whichever sites sound, it goes on in that life.
abbrev pub InLives : (R : Rules) → List (View R) → List Heard → Event → List (View R) → List Heard → Type 0
InLives R before told e after telling = (in_a : Setting R) (life : List Event) → Stands in_a life before told → Goes_on in_a life e after telling

-- A pool that begins: whichever of its sites are sound, it is that of a life in which nothing has happened.
abbrev pub BeginsLives : (R : Rules) → ℕ → (List ℕ → Bool) → Kept R → List (View R) → List Heard → Type 0
BeginsLives R f accepts kept all transcript = (sound : ℕ → Bool) → Stands (setting R f sound accepts kept.value (λ s. kept.before)) [] all transcript
