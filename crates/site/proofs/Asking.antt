-- The messages that leave the object alone are moves: WRITE-1, RESOLVE, READ and the two SHOWs.
use Rattle.std.proofs.Common.{◌≡◌, ℕ, suc, ◌+◌, ◌%◌, ◌^◌, ◌<◌, ◌≤◌, cond, ◌||◌, eqb, ltb, leb, List, [], ◌∷◌, length, Some, None, Ok, Err, Option, Result, sym, refl, ap, ◌∙◌, subst, inl, arith}
use mathlib.Core.Option.{Option as Maybe, some}
use Rattle.std.specs.Str.{bytes_eq}
use Rattle.std.proofs.lemmas.List.{length-replicate}
use Rattle.std.proofs.lemmas.Bool.{cond_both, leb-false}
use Rattle.object.specs.Rules.{Rules}
use Rattle.message.specs.declared.faults.SiteFault.{SiteFault}
use Rattle.message.specs.declared.faults.SiteFault.TheVariants.{Old, Spent, Busy, Ahead, UsedUp}
use Rattle.message.specs.declared.request.Request.{Request}
use Rattle.record.specs.Claims.{grant, answer, start}
use Rattle.record.specs.Limits.{highest_round}
use Rattle.record.specs.declared.fields.Claim.{Claim as Claimed}
use Rattle.record.specs.declared.fields.Statement.{Statement}
use Rattle.protocol.specs.Book.{Begins, due, play}
use Rattle.protocol.specs.Moves.{Site, standing, opened, frozen, shows, repeats_answer, grants, freezes}
use Rattle.protocol.specs.Quorum.{Pool}
use Rattle.protocol.specs.Words as words
use Rattle.protocol.specs.Words.{Claim, Word, Deed, Transcript}
use Rattle.site.specs.Answers.{stored, room, granting, queued}
use Rattle.site.specs.Ledgers.{Kept}
use Rattle.site.specs.OneBook.{in_records}
use Rattle.site.specs.Rules.{Turn, granted, waits, refuses, says, if_queued, if_new, requested, resolve_in, in_stage}
use Rattle.site.specs.Settling.{claim_for}
use Rattle.site.specs.Tables.{entry, same_request}
use Rattle.site.specs.declared.reply.Reply.TheVariants.{Says}
use Rattle.site.specs.declared.state.Done.{Done}
use Rattle.site.specs.declared.state.Ledger.{Ledger}
use Rattle.site.specs.declared.state.Settlement.{Settlement}
use Rattle.site.specs.declared.state.Stage.TheVariants.{Open, Frozen}
use Rattle.site.specs.declared.state.State.{State}
use Rattle.site.proofs.Going.{due_in_bytes, Goes, goes_by, stays, Fine, by_one}
use Rattle.site.proofs.Likeness.{told, all_told, Sized, SizedRequest, Settled, Out, no_out, an_out, Ledgered, BackedUp, Like, like_open, like_frozen}
use Rattle.site.proofs.Writes.{DoneOnce, done_found, still_ledgered, still_backed}
use Rattle.site.proofs.ReadBack.{Fitting}

-- Where a stored ANSWER comes from: an entry.
pub record StoredAnswer (s : ℕ) (o : Option Done) (x : Statement) : Type 0 where
  pub d : Done
  pub is : o ≡ Some d
  pub said : x ≡ answer s d.claim d.answer

module _ (s n index : ℕ) (op : List ℕ) (x : Statement) where
  abbrev Stores : Option Done → Result (Option Statement) SiteFault → Type 0
  Stores o r = r ≡ Ok (Some x) → StoredAnswer s o x

  pub stored_some : (o : Option Done) → Stores o (stored s o n op index)
  stored_some None = λ e. grind arith
  stored_some (Some d) =
      cond_both (ltb n d.claim.number) (Err (Old index))
      (cond (eqb n d.claim.number) (cond (bytes_eq op d.claim.operation) (Ok (Some (answer s d.claim d.answer))) (Err (Spent index))) (Ok None))
      (Stores (Some d)) (λ b e. grind arith)
      (λ b. cond_both (eqb n d.claim.number) (cond (bytes_eq op d.claim.operation) (Ok (Some (answer s d.claim d.answer))) (Err (Spent index))) (Ok None)
      (Stores (Some d))
      (λ c. cond_both (bytes_eq op d.claim.operation) (Ok (Some (answer s d.claim d.answer))) (Err (Spent index)) (Stores (Some d))
      (λ h e. record { d = d; is = refl; said = cc }) (λ h e. grind arith)) (λ c e. grind arith))

-- A claim's fields fit the records that name it.
pub grant_fits : (s : ℕ) (c : Claimed) → Sized c → Fitting (grant s c)
grant_fits s c z = record { number = z.number; round = z.round; place = z.place; operation = z.operation; nonce = omega arith }

pub answer_fits : (s : ℕ) (c : Claimed) (a : ℕ) → Sized c → Fitting (answer s c a)
answer_fits s c a z = record { number = z.number; round = z.round; place = z.place; operation = z.operation; nonce = omega arith }

pub start_fits : (s v p : ℕ) → v < 2 ^ 32 → p < 2 ^ 32 → Fitting (start s v p)
start_fits s v p x y = record { number = omega arith; round = x; place = y; operation = length-replicate {A = ℕ} 16 0; nonce = omega arith }

pub told_long : (cs : List Claimed) → length (all_told cs) ≡ length cs
told_long [] = refl
told_long (c ∷ cs) = ap suc (told_long cs)

-- With no grant out, one is made only below the limit of places.
room_below : (place index : ℕ) → room place index ≡ Ok tt → place < highest_round
room_below place index = cond_both (leb highest_round place) (Err (UsedUp index)) (Ok tt) (λ r. r ≡ Ok tt → place < highest_round) (λ b (e : ◌≡◌ {A = Result (Unit {0}) SiteFault} (Err (UsedUp index)) (Ok tt)). grind arith) (λ b e. leb-false highest_round place b)

queued_below : (w : Option Request) (r : Request) (place index : ℕ) → queued None w r place index ≡ Ok tt → place < highest_round
queued_below None r place index = λ e. room_below place index e
queued_below (Some w) r place index =
    cond_both (same_request w r) (granting None place index) (Err (Busy index)) (λ x. x ≡ Ok tt → place < highest_round) (λ b e. room_below place index e) (λ b e. grind arith)

module _ (pool : Pool) (R : Rules) (first : R.Value) (s : ℕ) (T : Transcript) (output : List ℕ) where
  -- The stored ANSWER: it is of one of the writes, with the answer that was due.
  pub again : (deed : Word → Deed) {st : State} {k : Kept R} {a : Site} (cs : List Claimed) (l : Ledger) → Ledgered pool R first s T cs l k →
      ((c : Claim) (w : List Claim) → Begins (c ∷ w) (all_told cs) → Goes pool R first s T a (deed (words.answer c (due (in_records R) (play R first w) c)) ∷ []) st k) →
      (x : Statement) (c : ℕ) → StoredAnswer s (entry l.done c) x → Fine pool R first s deed T a output st k (Ok (Says x))
  again deed {st} {k} {a} cs l h goes x c p =
      let d = p.d in
      let once : DoneOnce R first cs d = done_found R first cs c d h.sized (ap (λ t. entry t c) (sym h.done) ∙ p.is) in
      let as-due : d.answer % 2 ^ 64 ≡ due (in_records R) (play R first (all_told once.older)) (told d.claim) =
      ap (λ n. n % 2 ^ 64) once.is_due ∙ due_in_bytes R (play R first (all_told once.older)) d.claim in
      subst (λ y. Fine pool R first s deed T a output st k (Ok (Says y))) (sym p.said)
      (by_one pool R first s deed output (answer s d.claim d.answer) (words.answer (told d.claim) (d.answer % 2 ^ 64)) (answer_fits s d.claim d.answer once.sized) refl refl
      (subst (λ n. Goes pool R first s T a (deed (words.answer (told d.claim) n) ∷ []) st k) (sym as-due) (goes (told d.claim) (all_told once.older) once.there)))

  -- A request at an OPEN site.
  module _ (v b : ℕ) (cs : List Claimed) (out : Option Claimed) (o : Maybe Claim) (S : Option Settlement) (g : List Claim) (ws : List (Option Request)) (l : Ledger) (k : Kept R)
      (h : Ledgered pool R first s T cs l k) (back : BackedUp pool R first s T cs l.backup k.before) (gone : Out out o) (settled : Settled v S g) (small : v ≤ highest_round) where
    abbrev st : State
    st = record { stage = Open; round = v; settlement = S; asked = record { out = out; waiting = ws }; ledger = l }

    abbrev at : Site
    at = standing opened v b (all_told cs) o g

    like : Like pool R first s T st k at
    like = like_open h back gone settled small

    -- The request is new: the reply is the GRANT that is out, or one for this request.
    queue_fine : (r : Request) (index : ℕ) (x : Result (Unit {0}) SiteFault) → queued out (entry ws r.client) r l.place index ≡ x → SizedRequest r →
        Fine pool R first s words.said T at output (if_queued s st r x).state k (if_queued s st r x).reply
    queue_fine r index (Err fault) e z = tt
    queue_fine r index (Ok u) e z = from gone e
      where
        from : {out : Option Claimed} {o : Maybe Claim} → Out out o → queued out (entry ws r.client) r l.place index ≡ Ok u →
            Fine pool R first s words.said T (standing opened v b (all_told cs) o g) output
            (waits (record { stage = Open; round = v; settlement = S; asked = record { out = out; waiting = ws }; ledger = l }) r) k
            (Ok (Says (grant s (granted (record { stage = Open; round = v; settlement = S; asked = record { out = out; waiting = ws }; ledger = l }) r))))
        from no_out e =
            let c : Claimed = claim_for r v (l.place + 1) in
            let low = queued_below (entry ws r.client) r l.place index e in
            let sized : Sized c = record { number = z.number; round = omega arith; place = omega arith; operation = z.operation } in
            by_one pool R first s words.said output (grant s c) (words.grant (told c)) (grant_fits s c sized) refl refl
            (goes_by pool R first s (standing opened v b (all_told cs) (some (told c)) g) (grants refl (let p = h.place in let n = told_long cs in omega arith))
            (like_open (still_ledgered pool R first s s (words.said (words.grant (told c)) ∷ []) T h) (still_backed pool R first s s (words.said (words.grant (told c)) ∷ []) T cs l.backup k.before back) (an_out c sized) settled small))
        from (an_out c z) e =
            by_one pool R first s words.said output (grant s c) (words.grant (told c)) (grant_fits s c z) refl refl
            (stays pool R first s (shows (inl refl)) (like_open h back (an_out c z) settled small))

    new_fine : (r : Request) (index : ℕ) (x : Result (Option Statement) SiteFault) → stored s (entry l.done r.client) r.number r.operation index ≡ x → SizedRequest r →
        Fine pool R first s words.said T at output (if_new s st r index x).state k (if_new s st r index x).reply
    new_fine r index (Err fault) e z = tt
    new_fine r index (Ok (Some x)) e z =
        again words.said cs l h (λ c w there. stays pool R first s (repeats_answer there) like) x r.client (stored_some s r.number index r.operation x (entry l.done r.client) e)
    new_fine r index (Ok None) e z = queue_fine r index (queued out (entry ws r.client) r l.place index) refl z

    pub requested_fine : (r : Request) (index : ℕ) → SizedRequest r → Fine pool R first s words.said T at output (requested s st r index).state k (requested s st r index).reply
    requested_fine r index z = new_fine r index (stored s (entry l.done r.client) r.number r.operation index) refl z

    pub resolve_fine : (r : Request) (index named place : ℕ) → SizedRequest r →
        Fine pool R first s words.said T at output (resolve_in s index st named place r Open).state k (resolve_in s index st named place r Open).reply
    resolve_fine r index named place z =
        cond_both (ltb v named) (refuses st Ahead)
        (cond (ltb named v || leb place l.place) (requested s st r index) (says (in_stage st Frozen) (start s v l.place)))
        (λ (t : Turn). Fine pool R first s words.said T at output t.state k t.reply) (λ _. tt)
        (λ _. cond_both (ltb named v || leb place l.place) (requested s st r index) (says (in_stage st Frozen) (start s v l.place))
        (λ (t : Turn). Fine pool R first s words.said T at output t.state k t.reply) (λ _. requested_fine r index z) (λ _. freeze))
      where
        freeze : Fine pool R first s words.said T at output (in_stage st Frozen) k (Ok (Says (start s v l.place)))
        freeze =
            let n = told_long cs in
            let p : l.place ≡ length (all_told cs) = omega (arith, h.place) in
            by_one pool R first s words.said output (start s v l.place) (words.start v l.place) (start_fits s v l.place (omega arith) (omega (arith, h.place, h.short))) refl refl
            (subst (λ q. Goes pool R first s T at (words.said (words.start v q) ∷ []) (in_stage st Frozen) k) (sym p)
            (goes_by pool R first s (standing frozen v b (all_told cs) o g) freezes
            (like_frozen (still_ledgered pool R first s s (words.said (words.start v (length (all_told cs))) ∷ []) T h)
            (still_backed pool R first s s (words.said (words.start v (length (all_told cs))) ∷ []) T cs l.backup k.before back) gone settled small)))
