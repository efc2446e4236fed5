-- One call is one move of the protocol: what that means, and the calls that leave the state as it is.
use Rattle.std.proofs.Common.{◌≡◌, ℕ, ◌%◌, ◌^◌, Bool, true, false, cond, eqb, List, [], ◌∷◌, ◌++◌, length, take, drop, Ok, Err, Result, sym, refl, subst}
use mathlib.Core.Option.{some}
use Rattle.object.specs.Rules.{Rules, fit}
use Rattle.message.specs.Records.{records}
use Rattle.message.specs.declared.faults.SiteFault.{SiteFault}
use Rattle.record.specs.declared.fields.Claim.{Claim as Claimed}
use Rattle.record.specs.declared.fields.Statement.{Statement}
use Rattle.protocol.specs.Book.{due, mark}
use Rattle.protocol.specs.Moves.{Site, Says, says, Move, History, own}
use Rattle.protocol.specs.Quorum.{Pool}
use Rattle.protocol.specs.Words.{Word, Deed, Transcript}
use Rattle.site.specs.Call.{reply_bytes}
use Rattle.site.specs.Ledgers.{Kept}
use Rattle.site.specs.Life.{word_of, own_words, then_did}
use Rattle.site.specs.OneBook.{in_records}
use Rattle.site.specs.declared.reply.Reply.{Reply}
use Rattle.site.specs.declared.state.State.{State}
use Rattle.site.proofs.Likeness.{told, Like, like_open, like_frozen, like_pulling, like_settling}
use Rattle.site.proofs.Writes.{still_ledgered, still_backed}
use Rattle.site.proofs.ReadBack.{in_bytes, own_bytes, Fitting, one_own}

-- An answer in eight bytes is the one due by the rules for records.
pub due_in_bytes : (R : Rules) (v : R.Value) (c : Claimed) → due R v (told c) % 2 ^ 64 ≡ due (in_records R) v (told c)
due_in_bytes R v c = by (eqb c.client mark) (fit R.highest c.operation)
  where
    by : (m n : Bool) → cond m 0 (cond n (R.answer v c.client c.operation) 9999999) % 2 ^ 64 ≡ cond m 0 (cond n (R.answer v c.client c.operation % 2 ^ 64) 9999999)
    by true n = refl
    by false true = refl
    by false false = refl

-- The bytes that a reply puts into an output.
abbrev pub bytes_put : ℕ → State → Reply → List ℕ → List ℕ
bytes_put f st reply output = take (length (reply_bytes f st reply)) (reply_bytes f st reply ++ drop (length (reply_bytes f st reply)) output)

module _ (pool : Pool) (R : Rules) (first : R.Value) (s : ℕ) where
  -- Likeness stays as the transcript grows.
  pub still_like : (x : ℕ) (ds : List Deed) {T : Transcript} {st : State} {k : Kept R} {a : Site} → Like pool R first s T st k a → Like pool R first s (then_did x ds T) st k a
  still_like x ds {T} (like_open {cs = cs} {l = l} {k = k} h b o g v) = like_open (still_ledgered pool R first s x ds T h) (still_backed pool R first s x ds T cs l.backup k.before b) o g v
  still_like x ds {T} (like_frozen {cs = cs} {l = l} {k = k} h b o g v) = like_frozen (still_ledgered pool R first s x ds T h) (still_backed pool R first s x ds T cs l.backup k.before b) o g v
  still_like x ds {T} (like_pulling h e z v) = like_pulling (still_ledgered pool R first s x ds T h) e z v
  still_like x ds {T} (like_settling h e z v) = like_settling (still_ledgered pool R first s x ds T h) e z v

  -- From a state, by these deeds, to a state like the copy.
  pub record Goes (T : Transcript) (a : Site) (ds : List Deed) (st : State) (k : Kept R) : Type 0 where
    pub new : Site
    pub history : History pool (in_records R) first s T a → History pool (in_records R) first s (then_did s ds T) new
    pub like : Like pool R first s (then_did s ds T) st k new

  pub goes_by : {T : Transcript} {a : Site} {d : Deed} {st : State} {k : Kept R} (new : Site) → Move pool (in_records R) first s T a d new → Like pool R first s (then_did s (d ∷ []) T) st k new → Goes T a (d ∷ []) st k
  goes_by new m l = record { new = new; history = λ h. own h m; like = l }

  -- It stays in its state, and says something.
  pub stays : {T : Transcript} {a : Site} {d : Deed} {st : State} {k : Kept R} → Says pool (in_records R) first s T a d → Like pool R first s T st k a → Goes T a (d ∷ []) st k
  stays {a = a} {d = d} m l = goes_by a (says m) (still_like s (d ∷ []) l)

  -- A reply goes as its bytes say; a refusal needs nothing.
  abbrev pub Fine : (Word → Deed) → Transcript → Site → List ℕ → State → Kept R → Result Reply SiteFault → Type 0
  Fine deed T a output st k (Err fault) = Unit {0}
  Fine deed T a output st k (Ok reply) = Goes T a (own_words deed s (bytes_put pool.f st reply output) (records (bytes_put pool.f st reply output))) st k

  pub by_one : (deed : Word → Deed) {T : Transcript} {a : Site} {st : State} {k : Kept R} (output : List ℕ) (x : Statement) (w : Word) →
      Fitting x → x.signer ≡ s → word_of (in_bytes x) ≡ some w → Goes T a (deed w ∷ []) st k →
      Goes T a (own_words deed s (take (length (own_bytes x)) (own_bytes x ++ drop (length (own_bytes x)) output)) (records (take (length (own_bytes x)) (own_bytes x ++ drop (length (own_bytes x)) output)))) st k
  by_one deed {T} {a} {st} {k} output x w fits by is goes = subst (λ ds. Goes T a ds st k) (sym (one_own deed s x w output fits by is)) goes
