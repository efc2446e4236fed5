-- The promise: one book, and no call that is refused as TOO FAR.
use Rattle.std.proofs.Common.{◌≡◌, ℕ, Bool, cond, ◌||◌, eqb, ltb, leb, List, ◌∷◌, length, Some, None, Ok, Err, Option, Result, sym, refl, ap, ◌∙◌, subst, arith}
use Rattle.std.proofs.lemmas.Bool.{cond_both, cond-true, cond-false, eq-eqb, ne_eqb}
use Rattle.object.specs.Rules.{Rules}
use Rattle.record.specs.Claims.{start}
use Rattle.record.specs.declared.fields.Claim.{Claim as Claimed}
use Rattle.record.specs.declared.fields.Statement.{Statement}
use Rattle.message.specs.Forms.{quorum}
use Rattle.message.specs.Refusals.{refusal_of, refusal_of_certificate, refusal_of_message}
use Rattle.message.specs.Said.{Said, write_1, read, write_2, resolve, round, show_grant, show_cert}
use Rattle.message.specs.declared.faults.CertificateFault.{CertificateFault}
use Rattle.message.specs.declared.faults.CertificateFault.TheVariants as certificate
use Rattle.message.specs.declared.faults.MessageFault.{MessageFault}
use Rattle.message.specs.declared.faults.MessageFault.TheVariants as message
use Rattle.message.specs.declared.faults.SiteFault.{SiteFault}
use Rattle.message.specs.declared.faults.SiteFault.TheVariants.{Certificate, Wait, Old, Spent, Busy, Ahead, Stale, Taken, Gap, UsedUp, TooFar, Nothing}
use Rattle.message.specs.declared.refusal.Refusal.{Refusal}
use Rattle.message.specs.declared.request.Request.{Request}
use Rattle.protocol.specs.Book.{whole, more, Passing, writes, round_of}
use Rattle.protocol.specs.Moves.{Site, History, round_in, writes_in}
use Rattle.protocol.specs.Promise.{OneBook}
use Rattle.protocol.specs.Quorum.{Pool, Sound}
use Rattle.protocol.specs.Words.{Transcript}
use Rattle.protocol.proofs.OneBook.{keeps_one_book}
use Rattle.protocol.proofs.Travel.{same_writes, same_round}
use Rattle.site.specs.Answers.{stored, queued, placed, taken}
use Rattle.site.specs.Call.{board_after, accepted, finished, stepped, Called, Leaves, call}
use Rattle.site.specs.Ledgers.{Kept}
use Rattle.site.specs.Life.{Event, Setting, Copy, called_at, left, copy_after, called, checked, transcript}
use Rattle.site.specs.OneBook.{in_records, PromiseKept, setting, InEveryLife}
use Rattle.site.specs.declared.reply.Then.TheVariants.{Stay, Settle, Opens}
use Rattle.site.specs.Rules as rules
use Rattle.site.specs.Rules.{Turn, Outcome, if_queued, if_new, requested, write_1_in, resolve_in, refuses, says, in_stage, if_placed, if_fresh, written, write_2_in, if_taken, grant_shown, cert_shown, step}
use Rattle.site.specs.Settling.{settled_at, or_out}
use Rattle.site.specs.Tables.{entry}
use Rattle.site.specs.declared.reply.Reply.{Reply}
use Rattle.site.specs.declared.reply.Then.{Then}
use Rattle.site.specs.declared.state.Current.{Current}
use Rattle.site.specs.declared.state.Done.{Done}
use Rattle.site.specs.declared.state.Stage.{Stage}
use Rattle.site.specs.declared.state.Stage.TheVariants.{Open, Frozen, Pulling, Settling}
use Rattle.site.specs.declared.state.State.{State}
use Rattle.site.proofs.Asking.{told_long}
use Rattle.site.proofs.Likeness.{all_told, Telling, Like, like_open, like_frozen, like_pulling, like_settling}
use Rattle.site.proofs.Living.{alive, told_by, lives, moment}
use Rattle.site.proofs.Rounding.{taken_far}

-- Number 20 is TOO FAR's.
numbered_message : (fault : MessageFault) → (refusal_of_message fault).number ≡ 20 → ⊥
numbered_message message.Short e = omega arith
numbered_message message.Length e = omega arith
numbered_message message.Kind e = omega arith
numbered_message (message.Field i) e = omega arith

numbered_certificate : (fault : CertificateFault) → (refusal_of_certificate fault).number ≡ 20 → ⊥
numbered_certificate (certificate.Message fault) e = numbered_message fault e
numbered_certificate (certificate.Mixed i) e = omega arith
numbered_certificate certificate.Same e = omega arith
numbered_certificate (certificate.Twice i) e = omega arith
numbered_certificate (certificate.Unvouched i) e = omega arith
numbered_certificate (certificate.Low i) e = omega arith
numbered_certificate (certificate.Order i) e = omega arith

numbered : (fault : SiteFault) → (refusal_of fault).number ≡ 20 → fault ≡ TooFar
numbered (Certificate fault) e = absurd (numbered_certificate fault e)
numbered Wait e = absurd (omega arith)
numbered (Old r) e = absurd (omega arith)
numbered (Spent r) e = absurd (omega arith)
numbered (Busy r) e = absurd (omega arith)
numbered Ahead e = absurd (omega arith)
numbered Stale e = absurd (omega arith)
numbered Taken e = absurd (omega arith)
numbered Gap e = absurd (omega arith)
numbered (UsedUp r) e = absurd (omega arith)
numbered TooFar e = refl
numbered Nothing e = absurd (omega arith)

-- Only a ROUND is refused so ------------------------------------------------------------------------------------

stored_near : (s n index : ℕ) (op : List ℕ) (o : Option Done) → stored s o n op index ≡ Err TooFar → ⊥
stored_near s n index op None e = grind arith
stored_near s n index op (Some d) e = grind arith

queued_near : (out : Option Claimed) (w : Option Request) (r : Request) (place index : ℕ) → queued out w r place index ≡ Err TooFar → ⊥
queued_near None None r place index e = grind arith
queued_near (Some c) None r place index e = grind arith
queued_near None (Some w) r place index e = grind arith
queued_near (Some c) (Some w) r place index e = grind arith

placed_near : (due place : ℕ) (c : Claimed) → placed due place c ≡ Err TooFar → ⊥
placed_near due place c e = grind arith

module _ (s : ℕ) (st : State) where
  queue_near : (r : Request) (index : ℕ) (x : Result (Unit {0}) SiteFault) → (x ≡ Err TooFar → ⊥) → (if_queued s st r x).reply ≡ Err TooFar → ⊥
  queue_near r index (Err fault) n e = n (cc)
  queue_near r index (Ok u) n e = grind arith

  new_near : (r : Request) (index : ℕ) (x : Result (Option Statement) SiteFault) → (x ≡ Err TooFar → ⊥) → (if_new s st r index x).reply ≡ Err TooFar → ⊥
  new_near r index (Err fault) n e = n (cc)
  new_near r index (Ok (Some y)) n e = grind arith
  new_near r index (Ok None) n e =
      let x = queued st.asked.out (entry st.asked.waiting r.client) r st.ledger.place index in
      queue_near r index x (queued_near st.asked.out (entry st.asked.waiting r.client) r st.ledger.place index) e

  requested_near : (r : Request) (index : ℕ) → (requested s st r index).reply ≡ Err TooFar → ⊥
  requested_near r index e =
      new_near r index (stored s (entry st.ledger.done r.client) r.number r.operation index) (stored_near s r.number index r.operation (entry st.ledger.done r.client)) e

  write_1_near : (r : Request) (stage : Stage) → (write_1_in s st r stage).reply ≡ Err TooFar → ⊥
  write_1_near r Open e = requested_near r 0 e
  write_1_near r Frozen e = grind arith
  write_1_near r (Pulling u t rs) e = grind arith
  write_1_near r (Settling last) e = grind arith

  resolve_near : (index named place : ℕ) (r : Request) (stage : Stage) → (resolve_in s index st named place r stage).reply ≡ Err TooFar → ⊥
  resolve_near index named place r Open =
      cond_both (ltb st.round named) (refuses st Ahead)
      (cond (ltb named st.round || leb place st.ledger.place) (requested s st r index) (says (in_stage st Frozen) (start s st.round st.ledger.place)))
      (λ (t : Turn). t.reply ≡ Err TooFar → ⊥) (λ _ e. grind arith)
      (λ _. cond_both (ltb named st.round || leb place st.ledger.place) (requested s st r index) (says (in_stage st Frozen) (start s st.round st.ledger.place))
      (λ (t : Turn). t.reply ≡ Err TooFar → ⊥) (λ _ e. requested_near r index e) (λ _ e. grind arith))
  resolve_near index named place r Frozen = λ e. grind arith
  resolve_near index named place r (Pulling u t rs) = λ e. grind arith
  resolve_near index named place r (Settling last) = λ e. grind arith

  grant_near : (x : Option Claimed) → (grant_shown s st x).reply ≡ Err TooFar → ⊥
  grant_near None e = grind arith
  grant_near (Some c) e = grind arith

  cert_near : (x : Option Current) → (cert_shown st x).reply ≡ Err TooFar → ⊥
  cert_near None e = grind arith
  cert_near (Some c) e = grind arith

  module _ (R : Rules) (k : Kept R) (c : Claimed) (bytes : List ℕ) where
    if_placed_near : (next : Then) (x : Result (Unit {0}) SiteFault) → (x ≡ Err TooFar → ⊥) → (if_placed R s st k c bytes next x).reply ≡ Err TooFar → ⊥
    if_placed_near next (Err fault) n e = n (cc)
    if_placed_near next (Ok u) n e = grind arith

    if_fresh_near : (due : ℕ) (next : Then) (x : Result (Option Statement) SiteFault) → (x ≡ Err TooFar → ⊥) → (if_fresh R s st k c bytes due next x).reply ≡ Err TooFar → ⊥
    if_fresh_near due next (Err fault) n e = n (cc)
    if_fresh_near due next (Ok (Some y)) n e = grind arith
    if_fresh_near due next (Ok None) n e = if_placed_near next (placed due st.ledger.place c) (placed_near due st.ledger.place c) e

    written_near : (due : ℕ) (next : Then) → (written R s st k c bytes due next).reply ≡ Err TooFar → ⊥
    written_near due next e =
        if_fresh_near due next (stored s (entry st.ledger.done c.client) c.number c.operation 0) (stored_near s c.number 0 c.operation (entry st.ledger.done c.client)) e

    write_2_near : (stage : Stage) → (write_2_in R s st k c bytes stage).reply ≡ Err TooFar → ⊥
    write_2_near Open e = written_near st.round Stay e
    write_2_near Frozen e = grind arith
    write_2_near (Pulling left target requests) e = written_near left (cond (eqb c.place target) Settle Stay) e
    write_2_near (Settling last) e = written_near st.round (cond (eqb c.place last) Opens Stay) e

-- And a ROUND only where the site stands too far past its target, which no sound site does -------------------------

module _ (pool : Pool) (R : Rules) (first : R.Value) (s : ℕ) (T : Transcript) (sound : Sound pool s) (book : OneBook pool (in_records R) first T) where
  near : {a : Site} (cs : List Claimed) (v place named t : ℕ) → History pool (in_records R) first s T a → round_in a ≡ v → writes_in a ≡ all_told cs → place ≡ length cs →
      Passing pool T named t → taken v place named t ≡ Err TooFar → ⊥
  near cs v place named t h er ew ep pass e =
      let far = taken_far v place named t e in
      let at : named ≡ round_of s T = far.0 ∙ sym er ∙ sym (same_round h) in
      let low = book.not_too_far s t sound (subst (λ r. Passing pool T r t) at pass) in
      let long : length (writes s T) ≡ length (all_told cs) = ap length (same_writes h ∙ ew) in
      let n = told_long cs in
      let f = far.1 in
      omega arith

  if_taken_near : (st : State) (k : Kept R) (t : ℕ) (rs : List Request) (x : Result (Unit {0}) SiteFault) → (x ≡ Err TooFar → ⊥) → (if_taken R st k t rs x).reply ≡ Err TooFar → ⊥
  if_taken_near st k t rs (Err fault) n e = n (cc)
  if_taken_near st k t rs (Ok u) n e = grind arith

  round_near : {st : State} {k : Kept R} {a : Site} (named t : ℕ) (rs : List Request) → Like pool R first s T st k a → History pool (in_records R) first s T a → Passing pool T named t →
      (rules.round_in R st k named t rs st.stage).reply ≡ Err TooFar → ⊥
  round_near {st} {k} named t rs (like_open {v = v} {cs = cs} {l = l} h back x y small) past pass e =
      if_taken_near st k t rs (taken v l.place named t) (near cs v l.place named t past refl refl h.place pass) e
  round_near {st} {k} named t rs (like_frozen {v = v} {cs = cs} {l = l} h back x y small) past pass e =
      if_taken_near st k t rs (taken v l.place named t) (near cs v l.place named t past refl refl h.place pass) e
  round_near named t rs (like_pulling h low z small) past pass e = grind arith
  round_near named t rs (like_settling h low z small) past pass e = grind arith

  step_near : {st : State} {k : Kept R} {a : Site} (index : ℕ) (x : Said) → Like pool R first s T st k a → History pool (in_records R) first s T a → Telling pool s T x →
      (step R s index st k x).reply ≡ Err TooFar → ⊥
  step_near {st} {k} index (write_1 r) like past z e = write_1_near s st r st.stage e
  step_near {st} {k} index (read q) like past z e = grind arith
  step_near {st} {k} index (write_2 c bytes) like past z e = write_2_near s st R k c bytes st.stage e
  step_near {st} {k} index (resolve named place r) like past z e = resolve_near s st index named place r st.stage e
  step_near {st} {k} index (round named t rs) like past z e = round_near named t rs like past z.0 e
  step_near {st} {k} index (show_grant place) like past z e = grant_near s st (or_out (settled_at st.settlement st.round place) st.asked.out place) e
  step_near {st} {k} index show_cert like past z e = cert_near s st st.ledger.current e

  finished_near : (f : ℕ) (st : State) (k : Kept R) (output board : List ℕ) (o : Outcome R) (r : Result Reply SiteFault) → (r ≡ Err TooFar → ⊥) →
      (refusal : Refusal) → (finished R f st k output board o r).result ≡ Err refusal → refusal.number ≡ 20 → ⊥
  finished_near f st k output board o (Err fault) n refusal e number =
      let same : refusal_of fault ≡ refusal = cc in
      n (ap Err (numbered fault (ap (λ (x : Refusal). x.number) same ∙ number)))
  finished_near f st k output board o (Ok reply) n refusal e number = grind arith

  call_near : {st : State} {k : Kept R} {a : Site} (output board : List ℕ) (c : Result Said CertificateFault) → Like pool R first s T st k a → History pool (in_records R) first s T a →
      ((x : Said) → c ≡ Ok x → Telling pool s T x) →
      (refusal : Refusal) → (stepped R pool.f st k output board (accepted R pool.f s st k c)).result ≡ Err refusal → refusal.number ≡ 20 → ⊥
  call_near {st} {k} output board (Err fault) like past z refusal e number =
      let same : refusal_of_certificate fault ≡ refusal = cc in
      numbered_certificate fault (ap (λ (x : Refusal). x.number) same ∙ number)
  call_near {st} {k} output board (Ok x) like past z refusal e number =
      finished_near pool.f st k output board (step R s (quorum pool.f) st k x) (step R s (quorum pool.f) st k x).reply (step_near (quorum pool.f) x like past (z x refl)) refusal e number

pub promise_kept : (R : Rules) → PromiseKept R
promise_kept R in_a life premises = record {
  one_book = λ past b. keeps_one_book (lives in_a past (moment in_a b premises));
  never_too_far = λ past e refusal b is number.
      let now = moment in_a b premises in
      let before = moment in_a (more whole) now in
      let site = alive in_a past before.happens e.site now.happens.0 in
      call_near in_a.pool R in_a.first e.site (transcript in_a past) now.happens.0 (keeps_one_book (lives in_a past before))
      e.output (board_after (length e.output) e.board) (checked in_a e) site.like site.history (told_by in_a past e now.happens) refusal is number;
}

same_copies : {R : Rules} (in_a : Setting R) {x y : State} {k l : Kept R} → x ≡ y → k ≡ l → ◌≡◌ {A = Copy in_a} (record { state = x; kept = k }) (record { state = y; kept = l })
same_copies in_a e f = cc

-- A call that left what it should is part of lives.
pub in_every_life : (R : Rules) (f number : ℕ) (accepts : List ℕ → Bool) (entry : State) (object : Kept R) (message output board : List ℕ) (exit : State) (after : Kept R) (written cleared : List ℕ) (result : Result ℕ Refusal) →
    Leaves R (call R f number accepts entry object message output board) exit after written cleared result → InEveryLife R f number accepts entry object message output board exit after written result
in_every_life R f number accepts entry object message output board exit after written cleared result leaves sound first before life is premises =
    let in_a = setting R f sound accepts first before in
    let e : Event = record { site = number; message = message; output = output; board = board } in
    let same : called in_a life e ≡ call R f number accepts entry object message output board = ap (λ (c : Copy in_a). called_at in_a c e) is in
    let own : copy_after in_a (e ∷ life) number ≡ left in_a (called in_a life e) = cond-true (eqb number number) (left in_a (called in_a life e)) (copy_after in_a life number) (eq-eqb number number refl) in
    let stands : left in_a (call R f number accepts entry object message output board) ≡ record { state = exit; kept = after } = same_copies in_a (sym leaves.state) (sym leaves.kept) in
    record {
      site = own ∙ ap (left in_a) same ∙ stands;
      others = λ s n. cond-false (eqb s number) (left in_a (called in_a life e)) (copy_after in_a life s) (ne_eqb s number n);
      output = ap (λ (c : Called R). c.output) same ∙ sym leaves.output;
      returned = ap (λ (c : Called R). c.result) same ∙ sym leaves.result;
      promise = promise_kept R in_a (e ∷ life) premises;
    }
