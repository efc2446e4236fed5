-- A site's state beside the protocol's: what each part of the one has to do with the other.
use Rattle.std.proofs.Common.{◌≡◌, ℕ, ◌+◌, ◌*◌, ◌^◌, ◌<◌, ◌≤◌, true, List, [], ◌∷◌, length, take, set, Some, None, Option}
use mathlib.Core.Option.{Option as Maybe, none, some}
use Rattle.object.specs.Rules.{Rules}
use Rattle.record.specs.Limits.{highest_round}
use Rattle.record.specs.declared.fields.Claim.{Claim as Claimed}
use Rattle.message.specs.Forms.{quorum}
use Rattle.message.specs.Records.{records, statement_at}
use Rattle.message.specs.Said.{Said, write_1, read, write_2, resolve, round, show_grant, show_cert}
use Rattle.message.specs.declared.request.Request.{Request}
use Rattle.protocol.specs.Book.{Wrote, Certified, Passing, due, play}
use Rattle.protocol.specs.Moves.{Site, standing, pulling, settling, opened, frozen}
use Rattle.protocol.specs.Quorum.{Pool}
use Rattle.protocol.specs.Words.{Claim, Word, Transcript}
use Rattle.site.specs.Ledgers.{kept_bytes, Kept, calls}
use Rattle.site.specs.Life.{word_of}
use Rattle.site.specs.Rules.{nobody_asked}
use Rattle.site.specs.Settling.{claim_for, mark_claim, last_place}
use Rattle.site.specs.Tables.{entry, no_entries}
use Rattle.site.specs.declared.state.Backup.{Backup}
use Rattle.site.specs.declared.state.Current.{Current}
use Rattle.site.specs.declared.state.Done.{Done}
use Rattle.site.specs.declared.state.Ledger.{Ledger}
use Rattle.site.specs.declared.state.Settlement.{Settlement}
use Rattle.site.specs.declared.state.Stage.TheVariants.{Open, Frozen, Pulling, Settling}
use Rattle.site.specs.declared.state.State.{State}

-- A claim in the protocol's words.
abbrev pub told : Claimed → Claim
told c = record { client = c.client; number = c.number; round = c.round; place = c.place; operation = c.operation }

abbrev pub all_told : List Claimed → List Claim
all_told [] = []
all_told (c ∷ cs) = told c ∷ all_told cs

-- Fields that records can hold.
pub record Sized (c : Claimed) : Type 0 where
  pub number : c.number < 2 ^ 32
  pub round : c.round < 2 ^ 32
  pub place : c.place < 2 ^ 32
  pub operation : length c.operation ≡ 16

pub record SizedRequest (r : Request) : Type 0 where
  pub number : r.number < 2 ^ 32
  pub operation : length r.operation ≡ 16

abbrev pub SizedTable : List (Option Request) → Type 0
SizedTable [] = Unit {0}
SizedTable (None ∷ rs) = SizedTable rs
SizedTable (Some r ∷ rs) = SizedRequest r × SizedTable rs

abbrev pub SizedRequests : List Request → Type 0
SizedRequests [] = Unit {0}
SizedRequests (r ∷ rs) = SizedRequest r × SizedRequests rs

abbrev pub SizedClaims : List Claimed → Type 0
SizedClaims [] = Unit {0}
SizedClaims (c ∷ cs) = Sized c × SizedClaims cs

-- The claims of a table's requests, newest first, after those of a list; and those of a settlement.
abbrev pub listed : List (Option Request) → ℕ → ℕ → List Claim → List Claim
listed [] v at g = g
listed (None ∷ rs) v at g = listed rs v at g
listed (Some r ∷ rs) v at g = listed rs v (at + 1) (told (claim_for r v at) ∷ g)

abbrev pub settled_list : Settlement → ℕ → List Claim
settled_list S v = listed S.requests v (S.target + 2) (told (mark_claim v (S.target + 1)) ∷ [])

pub data Settled (v : ℕ) : Option Settlement → List Claim → Type 0 where
  unsettled : Settled v None []
  by_settlement : (S : Settlement) → SizedTable S.requests → Settled v (Some S) (settled_list S v)

-- The grant that is out.
pub data Out : Option Claimed → Maybe Claim → Type 0 where
  no_out : Out None none
  an_out : (c : Claimed) → Sized c → Out (Some c) (some (told c))

-- The site wrote before what a certificate has of its own.
abbrev pub Repeatable : ℕ → Transcript → List ℕ → Type 0
Repeatable s T bytes = (i : ℕ) (w : Word) → i < records bytes → (statement_at bytes i).signer ≡ s → word_of (statement_at bytes i) ≡ some w → Wrote s w T

module _ (pool : Pool) (s : ℕ) where
  -- The current claim and certificate after a list of writes.
  pub data Latest (T : Transcript) : List Claimed → Option Current → Type 0 where
    no_write : Latest T [] None
    last_write : {c : Claimed} {cs : List Claimed} {bytes : List ℕ} → Repeatable s T (take (80 * quorum pool.f) bytes) → Latest T (c ∷ cs) (Some (record { claim = c; certificate = bytes }))

  -- What a message that passed the checks gives to go by.
  abbrev pub Telling : Transcript → Said → Type 0
  Telling T (write_1 r) = SizedRequest r
  Telling T (read q) = (q.nonce < 2 ^ 64) × (length q.operation ≡ 16)
  Telling T (write_2 c bytes) = Sized c × Certified pool T (told c) × Repeatable s T (take (80 * quorum pool.f) (kept_bytes bytes))
  Telling T (resolve named place r) = SizedRequest r
  Telling T (round named t rs) = Passing pool T named t × SizedRequests rs
  Telling T (show_grant place) = place < 2 ^ 32
  Telling T show_cert = Unit {0}

-- The last-done table after a list of writes.
abbrev pub done_of : (R : Rules) → R.Value → List Claimed → List (Option Done)
done_of R first [] = no_entries
done_of R first (c ∷ cs) = set (done_of R first cs) c.client (Some (record { claim = c; answer = due R (play R first (all_told cs)) (told c) }))

module _ (pool : Pool) (R : Rules) (first : R.Value) (s : ℕ) where
  -- The ledger and the object after a list of writes.
  pub record Ledgered (T : Transcript) (cs : List Claimed) (l : Ledger) (k : Kept R) : Type 0 where
    pub place : l.place ≡ length cs
    pub short : length cs < 2 ^ 32
    pub current : Latest pool s T cs l.current
    pub done : l.done ≡ done_of R first cs
    pub value : k.value ≡ play R first (all_told cs)
    pub sized : SizedClaims cs

  -- What the last write replaced.
  pub record Replaced (T : Transcript) (c : Claimed) (cs : List Claimed) (backup : Option Backup) (before : Option R.Value) : Type 0 where
    pub old : Option Current
    pub kept : backup ≡ Some (record { current = old; entry = entry (done_of R first cs) c.client; called = calls R c })
    pub current : Latest pool s T cs old
    pub before_it : calls R c ≡ true → before ≡ Some (play R first (all_told cs))

  abbrev pub BackedUp : Transcript → List Claimed → Option Backup → Option R.Value → Type 0
  BackedUp T [] backup before = Unit {0}
  BackedUp T (c ∷ cs) backup before = Replaced T c cs backup before

  -- The state and the object beside the protocol's state.
  pub data Like (T : Transcript) : State → Kept R → Site → Type 0 where
    like_open : {v b : ℕ} {cs : List Claimed} {out : Option Claimed} {o : Maybe Claim} {S : Option Settlement} {g : List Claim} {ws : List (Option Request)} {l : Ledger} {k : Kept R} →
        Ledgered T cs l k → BackedUp T cs l.backup k.before → Out out o → Settled v S g → v ≤ highest_round →
        Like T (record { stage = Open; round = v; settlement = S; asked = record { out = out; waiting = ws }; ledger = l }) k (standing opened v b (all_told cs) o g)
    like_frozen : {v b : ℕ} {cs : List Claimed} {out : Option Claimed} {o : Maybe Claim} {S : Option Settlement} {g : List Claim} {ws : List (Option Request)} {l : Ledger} {k : Kept R} →
        Ledgered T cs l k → BackedUp T cs l.backup k.before → Out out o → Settled v S g → v ≤ highest_round →
        Like T (record { stage = Frozen; round = v; settlement = S; asked = record { out = out; waiting = ws }; ledger = l }) k (standing frozen v b (all_told cs) o g)
    like_pulling : {u v t : ℕ} {cs : List Claimed} {rs : List (Option Request)} {l : Ledger} {k : Kept R} →
        Ledgered T cs l k → length cs < t → SizedTable rs → v ≤ highest_round →
        Like T (record { stage = Pulling u t rs; round = v; settlement = None; asked = nobody_asked; ledger = l }) k (pulling u v t (all_told cs))
    like_settling : {v : ℕ} {cs : List Claimed} {S : Settlement} {l : Ledger} {k : Kept R} →
        Ledgered T cs l k → length cs < last_place S → SizedTable S.requests → v ≤ highest_round →
        Like T (record { stage = Settling (last_place S); round = v; settlement = Some S; asked = nobody_asked; ledger = l }) k (settling v S.target (all_told cs) (settled_list S v))
