-- What becomes of a pool when a message is handed to one of its sites.
use Rattle.std.specs.Prelude.{◌≡◌, ℕ, ◌+◌, ◌*◌, Bool, cond, List, [], ◌∷◌, ◌++◌, map, vec_items, Some, None, Ok, Err, Result, nat_lt, slice_set}
use Rattle.std.specs.List.{slice_get}
use Rattle.object.specs.Rules.{Rules}
use Rattle.message.specs.declared.refusal.Refusal.{Refusal}
use Rattle.site.specs.Call.{fresh, Called, call}
use Rattle.site.specs.Ledgers.{Kept}
use Rattle.site.specs.Life.{put}
use Rattle.pool.specs.Views.{Heard, heard, View, views}
use Rattle.pool.specs.declared.pool.Pool.{Pool}
use Rattle.pool.specs.declared.entry.Undelivered.{Undelivered}
use Rattle.pool.specs.declared.entry.Undelivered.TheVariants.{NoSite, NoMemory}

module _ (R : Rules) where
  -- A pool with the buffers of a call: its sites, its transcript, the output and the board.
  pub record Moment : Type 0 where
    pub sites : List (View R)
    pub transcript : List Heard
    pub output : List ℕ
    pub board : List ℕ

-- The moment of a pool of the code, by what its notary and its objects mean.
abbrev pub moment : (R : Rules) {N O : Type 0} → (N → List ℕ → Bool) → (O → Kept R) → Pool N O → List ℕ → List ℕ → Moment R
moment R means holds pool output board = record {
  sites = views R means holds (vec_items pool.sites);
  transcript = map heard (vec_items pool.transcript);
  output = output;
  board = board;
}

module _ {R : Rules} where
  -- A call at a site.
  abbrev pub called_by : View R → List ℕ → List ℕ → List ℕ → Called R
  called_by v message output board = call R v.f v.number v.accepts v.state v.kept message output board

  -- The site after it.
  abbrev pub stepped : View R → Called R → View R
  stepped v c = record { f = v.f; number = v.number; accepts = v.accepts; state = c.state; kept = c.kept }

  -- What the transcript keeps of it.
  abbrev pub noted : ℕ → List ℕ → Called R → Heard
  noted site message c = record { site = site; message = message; result = c.result; written = put c.result c.output }

  -- The site steps as its call says, the others stay, and the transcript is one entry longer.
  abbrev pub after_call : Moment R → ℕ → List ℕ → View R → Called R → Moment R
  after_call m site message v c = record {
    sites = slice_set m.sites site (stepped v c);
    transcript = m.transcript ++ noted site message c ∷ [];
    output = c.output;
    board = c.board;
  }

  -- The site that was called, what the pool then is, and what the call returned.
  pub record CalledAt (m : Moment R) (site : ℕ) (message : List ℕ) (after : Moment R) (result : Result ℕ Refusal) : Type 0 where
    pub at_site : View R
    pub there : slice_get m.sites site ≡ Some at_site
    pub left : after ≡ after_call m site message at_site (called_by at_site message m.output m.board)
    pub returned : result ≡ (called_by at_site message m.output m.board).result

  -- A message that is handed to a site of the pool is a call there. Where there is no such site, or no memory for the transcript, nothing changes.
  abbrev pub Delivers : Moment R → ℕ → List ℕ → Moment R → Result (Result ℕ Refusal) Undelivered → Type 0
  Delivers m site message after (Ok result) = CalledAt m site message after result
  Delivers m site message after (Err NoSite) = (slice_get m.sites site ≡ None) × (after ≡ m)
  Delivers m site message after (Err NoMemory) = after ≡ m

  -- A fresh site of a pool of 3f + 1.
  abbrev pub fresh_view : ℕ → (List ℕ → Bool) → Kept R → ℕ → View R
  fresh_view f accepts kept s = record { f = f; number = s; accepts = accepts; state = fresh; kept = kept }

  -- The first n sites of it.
  abbrev pub FreshBelow : ℕ → ℕ → (List ℕ → Bool) → Kept R → List (View R) → Type 0
  FreshBelow n f accepts kept sites = (s : ℕ) → slice_get sites s ≡ cond (nat_lt s n) (Some (fresh_view f accepts kept s)) None

  -- All of them, and no others, numbered from 0.
  abbrev pub Fresh : ℕ → (List ℕ → Bool) → Kept R → List (View R) → Type 0
  Fresh f accepts kept sites = FreshBelow (3 * f + 1) f accepts kept sites
