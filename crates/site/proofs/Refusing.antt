-- A refusal leaves the state and the object as they were.
use Rattle.std.proofs.Common.{◌≡◌, ℕ, Bool, true, false, cond, ◌||◌, ltb, leb, List, length, Some, None, Ok, Err, Option, Result, sym, refl, ◌∙◌, subst, arith}
use Rattle.object.specs.Rules.{Rules}
use Rattle.message.specs.Checks.{checks}
use Rattle.message.specs.Forms.{quorum}
use Rattle.message.specs.Refusals.{refusal_of}
use Rattle.message.specs.declared.refusal.Refusal.{Refusal}
use Rattle.message.specs.Said.{Said, write_1, read, write_2, resolve, round, show_grant, show_cert}
use Rattle.message.specs.declared.faults.CertificateFault.{CertificateFault}
use Rattle.message.specs.declared.faults.SiteFault.{SiteFault}
use Rattle.message.specs.declared.faults.SiteFault.TheVariants.{Ahead}
use Rattle.message.specs.declared.request.Request.{Request}
use Rattle.record.specs.Claims.{start}
use Rattle.record.specs.declared.fields.Claim.{Claim}
use Rattle.record.specs.declared.fields.Statement.{Statement}
use Rattle.site.specs.Answers.{stored, queued, placed, taken}
use Rattle.site.specs.Call.{accepted, finished, board_after, Leaves, call}
use Rattle.site.specs.Ledgers.{Kept}
use Rattle.site.specs.Rules.{Does, Turn, refuses, says, in_stage, if_queued, if_new, requested, write_1_in, resolve_in, Outcome, without_object, if_placed, if_fresh, written, write_2_in, if_taken, round_in, grant_shown, cert_shown, step, then_at}
use Rattle.site.specs.Settling.{settled_at, or_out}
use Rattle.site.specs.Tables.{entry}
use Rattle.site.specs.declared.reply.Reply.{Reply}
use Rattle.site.specs.declared.reply.Then.{Then}
use Rattle.site.specs.declared.state.Current.{Current}
use Rattle.site.specs.declared.state.Stage.{Stage}
use Rattle.site.specs.declared.state.Stage.TheVariants.{Open, Frozen, Pulling, Settling}
use Rattle.site.specs.declared.state.State.{State}

ok_not_err : (x : Reply) (e : SiteFault) → ◌≡◌ {A = Result Reply SiteFault} (Ok x) (Err e) → ⊥
ok_not_err x e h = let z : ◌≡◌ {A = ℕ} 0 1 = cc in omega arith

module _ (st : State) where
  -- A turn that refuses keeps the state.
  abbrev Keeping : Turn → Type 0
  Keeping turn = (fault : SiteFault) → turn.reply ≡ Err fault → turn.state ≡ st

  said_keeps : (after : State) (s : Statement) → Keeping (says after s)
  said_keeps after s = λ fault e. absurd (ok_not_err _ fault e)

  either_keeps : (b : Bool) (x y : Turn) → Keeping x → Keeping y → Keeping (cond b x y)
  either_keeps true x y kx ky = kx
  either_keeps false x y kx ky = ky

  queued_keeps : (site : ℕ) (r : Request) (res : Result (Unit {0}) SiteFault) → Keeping (if_queued site st r res)
  queued_keeps site r (Err f) = λ fault e. refl
  queued_keeps site r (Ok _) = λ fault e. absurd (ok_not_err _ fault e)

  new_keeps : (site : ℕ) (r : Request) (index : ℕ) (res : Result (Option Statement) SiteFault) → Keeping (if_new site st r index res)
  new_keeps site r index (Err f) = λ fault e. refl
  new_keeps site r index (Ok (Some again)) = λ fault e. absurd (ok_not_err _ fault e)
  new_keeps site r index (Ok None) = queued_keeps site r (queued st.asked.out (entry st.asked.waiting r.client) r st.ledger.place index)

  requested_keeps : (site : ℕ) (r : Request) (index : ℕ) → Keeping (requested site st r index)
  requested_keeps site r index = new_keeps site r index (stored site (entry st.ledger.done r.client) r.number r.operation index)

  write_1_keeps : (site : ℕ) (r : Request) (stage : Stage) → Keeping (write_1_in site st r stage)
  write_1_keeps site r Open = requested_keeps site r 0
  write_1_keeps site r Frozen = λ fault e. refl
  write_1_keeps site r (Pulling left target requests) = λ fault e. refl
  write_1_keeps site r (Settling last) = λ fault e. refl

  resolve_keeps : (site index named place : ℕ) (r : Request) (stage : Stage) → Keeping (resolve_in site index st named place r stage)
  resolve_keeps site index named place r Open =
      either_keeps (ltb st.round named) (refuses st Ahead)
      (cond (ltb named st.round || leb place st.ledger.place) (requested site st r index) (says (in_stage st Frozen) (start site st.round st.ledger.place)))
      (λ fault e. refl)
      (either_keeps (ltb named st.round || leb place st.ledger.place) (requested site st r index) (says (in_stage st Frozen) (start site st.round st.ledger.place))
      (requested_keeps site r index) (said_keeps (in_stage st Frozen) (start site st.round st.ledger.place)))
  resolve_keeps site index named place r Frozen = said_keeps st (start site st.round st.ledger.place)
  resolve_keeps site index named place r (Pulling left target requests) = λ fault e. refl
  resolve_keeps site index named place r (Settling last) = λ fault e. refl

  shown_keeps : (site : ℕ) (c : Option Claim) → Keeping (grant_shown site st c)
  shown_keeps site None = λ fault e. refl
  shown_keeps site (Some c) = λ fault e. absurd (ok_not_err _ fault e)

  cert_keeps : (c : Option Current) → Keeping (cert_shown st c)
  cert_keeps None = λ fault e. refl
  cert_keeps (Some c) = λ fault e. absurd (ok_not_err _ fault e)

  module _ (R : Rules) (kept : Kept R) where
    -- An outcome that refuses keeps the state and the object.
    abbrev pub Unchanged : Outcome R → Type 0
    Unchanged o = (fault : SiteFault) → o.reply ≡ Err fault → (o.state ≡ st) × (o.kept ≡ kept)

    turn_keeps : (turn : Turn) → Keeping turn → Unchanged (without_object R kept turn)
    turn_keeps turn keeps fault e = (keeps fault e, refl)

    placed_keeps : (site : ℕ) (c : Claim) (cert : List ℕ) (next : Then) (res : Result (Unit {0}) SiteFault) → Unchanged (if_placed R site st kept c cert next res)
    placed_keeps site c cert next (Err f) = λ fault e. (refl, refl)
    placed_keeps site c cert next (Ok _) = λ fault e. absurd (ok_not_err _ fault e)

    fresh_keeps : (site : ℕ) (c : Claim) (cert : List ℕ) (due : ℕ) (next : Then) (res : Result (Option Statement) SiteFault) →
        Unchanged (if_fresh R site st kept c cert due next res)
    fresh_keeps site c cert due next (Err f) = λ fault e. (refl, refl)
    fresh_keeps site c cert due next (Ok (Some again)) = λ fault e. absurd (ok_not_err _ fault e)
    fresh_keeps site c cert due next (Ok None) = placed_keeps site c cert next (placed due st.ledger.place c)

    written_keeps : (site : ℕ) (c : Claim) (cert : List ℕ) (due : ℕ) (next : Then) → Unchanged (written R site st kept c cert due next)
    written_keeps site c cert due next = fresh_keeps site c cert due next (stored site (entry st.ledger.done c.client) c.number c.operation 0)

    write_2_keeps : (site : ℕ) (c : Claim) (cert : List ℕ) (stage : Stage) → Unchanged (write_2_in R site st kept c cert stage)
    write_2_keeps site c cert Open = written_keeps site c cert st.round (then_at Open c.place)
    write_2_keeps site c cert Frozen = λ fault e. (refl, refl)
    write_2_keeps site c cert (Pulling left target requests) = written_keeps site c cert left (then_at (Pulling left target requests) c.place)
    write_2_keeps site c cert (Settling last) = written_keeps site c cert st.round (then_at (Settling last) c.place)

    taken_keeps : (target : ℕ) (requests : List Request) (res : Result (Unit {0}) SiteFault) → Unchanged (if_taken R st kept target requests res)
    taken_keeps target requests (Err f) = λ fault e. (refl, refl)
    taken_keeps target requests (Ok _) = λ fault e. absurd (ok_not_err _ fault e)

    round_keeps : (named target : ℕ) (requests : List Request) (stage : Stage) → Unchanged (round_in R st kept named target requests stage)
    round_keeps named target requests Open = taken_keeps target requests (taken st.round st.ledger.place named target)
    round_keeps named target requests Frozen = taken_keeps target requests (taken st.round st.ledger.place named target)
    round_keeps named target requests (Pulling left old olds) = λ fault e. (refl, refl)
    round_keeps named target requests (Settling last) = λ fault e. (refl, refl)

    step_keeps : (site index : ℕ) (said : Said) → Unchanged (step R site index st kept said)
    step_keeps site index (write_1 r) = turn_keeps (write_1_in site st r st.stage) (write_1_keeps site r st.stage)
    step_keeps site index (read q) = λ fault e. absurd (ok_not_err _ fault e)
    step_keeps site index (write_2 c cert) = write_2_keeps site c cert st.stage
    step_keeps site index (resolve named place r) = turn_keeps (resolve_in site index st named place r st.stage) (resolve_keeps site index named place r st.stage)
    step_keeps site index (round named target requests) = round_keeps named target requests st.stage
    step_keeps site index (show_grant place) =
        turn_keeps (grant_shown site st (or_out (settled_at st.settlement st.round place) st.asked.out place))
        (shown_keeps site (or_out (settled_at st.settlement st.round place) st.asked.out place))
    step_keeps site index show_cert = turn_keeps (cert_shown st st.ledger.current) (cert_keeps st.ledger.current)

    pub accepted_keeps : (f site : ℕ) (res : Result Said CertificateFault) → Unchanged (accepted R f site st kept res)
    accepted_keeps f site (Err fault) = λ other e. (refl, refl)
    accepted_keeps f site (Ok said) = step_keeps site (quorum f) said

-- A call that is refused leaves what it should.
module _ (R : Rules) (f site : ℕ) (accepts : List ℕ → Bool) (st : State) (kept : Kept R) (m output board : List ℕ) where
  pub refused_leaves : (after : State) (object : Kept R) (cleared : List ℕ) (fault : SiteFault) (returned : Result ℕ Refusal) →
      Does R (accepted R f site st kept (checks f accepts m (length output) (length board))) after object (Err fault) →
      cleared ≡ board_after (length output) board → returned ≡ Err (refusal_of fault) →
      Leaves R (call R f site accepts st kept m output board) after object output cleared returned
  refused_leaves after object cleared fault returned does is-cleared is-returned =
      let o = accepted R f site st kept (checks f accepts m (length output) (length board)) in
      let same = accepted_keeps st R kept f site (checks f accepts m (length output) (length board)) fault (sym does.reply) in
      subst (λ (x : Result Reply SiteFault). Leaves R (finished R f st kept output (board_after (length output) board) o x) after object output cleared returned) does.reply
      (record { state = does.state ∙ same.0; kept = does.kept ∙ same.1; output = refl; board = is-cleared; result = is-returned })
