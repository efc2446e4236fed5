-- An answer that a verdict gives is that of a quorum of sites, each with a record that the notary accepts.
use Rattle.std.proofs.Common.{◌≡◌, ℕ, ◌+◌, ◌*◌, ◌<◌, Bool, true, false, cond, ◌&&◌, ◌||◌, eqb, List, [], ◌∷◌, Some, None, Option, sym, refl, ap, ◌∙◌, subst, inl, inr, arith, MatchOption}
use Rattle.std.specs.List.{AllByRecursion as All}
use Rattle.std.specs.Str.{bytes_eq}
use Rattle.std.proofs.lemmas.Slice.Eq.{bytes_eq-Decides}
use Rattle.std.proofs.lemmas.Bool.{and_parts, eqb-true, or_cases}
use Rattle.message.specs.Forms.{quorum}
use Rattle.record.proofs.Facts.{alike_but_signer, alike_equivalence, nothing_else}
use Rattle.record.specs.Claims.{claim_of, alike, signed_by, answer as answers, read_answer}
use Rattle.record.specs.Kinds.{kind_of, kind_number}
use Rattle.record.specs.Layout.{record_bytes}
use Rattle.record.specs.declared.fields.Claim.{Claim}
use Rattle.record.specs.declared.fields.Record.{Record}
use Rattle.record.specs.declared.fields.Statement.{Statement}
use Rattle.record.specs.declared.kind.Kind.TheVariants.{Answer, ReadAnswer}
use Rattle.office.proofs.Keeping.{beside_the_write, beside_the_question}
use Rattle.office.proofs.Members.{Has, each_has, same_reply}
use Rattle.office.proofs.Pieces.{good_says, good_long, answer_site, read_answer_site, all_different}
use Rattle.office.specs.Filed.{Good, Sound, is_write_reply}
use Rattle.office.specs.Judging.{is_ours, claims_write}
use Rattle.office.specs.Laws.{Gave, Answered}
use Rattle.office.specs.Sending.{Says, Backed, WriteConfirmed, ReadingConfirmed}
use Rattle.office.specs.Slots.{slot_at}
use Rattle.office.specs.Taking.{is_grant, is_read_answer, beside_write, beside_question, answers_asked}
use Rattle.office.specs.declared.asking.Question.{Question}
use Rattle.office.specs.declared.asking.Write.{Write}
use Rattle.office.specs.declared.desk.Desk.{Desk}
use Rattle.office.specs.declared.desk.Standing.TheVariants.{Unasked, Unlike, Like}
use Rattle.office.specs.declared.slots.Slot.{Slot}

-- Statements that are alike have all but the signer in common.
pub same_but_signer : (a b : Statement) → alike a b ≡ true → signed_by 0 a ≡ signed_by 0 b
same_but_signer a b e = (alike_but_signer 0 a b).0 e

pub like_only : (b : Bool) → cond b Like Unlike ≡ Like → b ≡ true
like_only true e = refl
like_only false e = let z : ◌≡◌ {A = ℕ} 0 1 = cc in absurd (omega arith)

-- An ANSWER that replies to the open write claims it.
pub claimed : (client : ℕ) (write : Option Write) (s : Statement) → s.kind ≡ kind_number Answer → beside_write client write s ≡ Like → is_ours client write (claim_of s) ≡ true
claimed client None s kind e = let z : ◌≡◌ {A = ℕ} 0 1 = cc in absurd (omega arith)
claimed client (Some write) s kind e =
    let either = like_only (is_grant s || claims_write client write (claim_of s)) e in
    elim (or_cases (is_grant s) (claims_write client write (claim_of s)) either) [
      | inl grant ↦ (let k : s.kind ≡ 2 = eqb-true s.kind 2 grant in absurd (omega arith))
      | inr ours ↦ ours
    ]

module _ (f client : ℕ) (accepts : List ℕ → Bool) (desk : Desk) (sound : Sound f client accepts desk) where
  abbrev slots : List Slot
  slots = desk.replies.at

  -- A good ANSWER is that of its site at its claim.
  answered_so : (i : ℕ) (reply : Record) → reply.statement.kind ≡ kind_number Answer → Good f client accepts desk i reply → reply.statement ≡ answers i (claim_of reply.statement) reply.statement.answer
  answered_so i reply kind good =
      nothing_else f reply.statement Answer (ap kind_of kind) good.ranged
      ∙ ap (λ (k : ℕ). answers k (claim_of reply.statement) reply.statement.answer) good.signer

  each_says : (first : Record) (answer : ℕ) (sites : List ℕ) → All (Has Answer alike slots first) sites → All (Gave slots answer) sites → All (Says f accepts (λ i. answers i (claim_of first.statement) answer)) sites
  each_says first answer [] has gave = tt
  each_says first answer (i ∷ sites) (here, has) (gives, gave) =
      let reply = here.reply in
      let s = reply.statement in
      let good = (sound.replies i reply here.filed).1 in
      let same = same_but_signer first.statement s here.like_first in
      let claim : claim_of s ≡ claim_of first.statement = ap claim_of (sym same) in
      let value : s.answer ≡ answer = gives reply here.filed in
      let says : s ≡ answers i (claim_of first.statement) answer =
      answered_so i reply here.of_the_kind good ∙ ap (λ (c : Claim). answers i c s.answer) claim ∙ ap (answers i (claim_of first.statement)) value in (
        (
          subst (λ (k : ℕ). k < 3 * f + 1) good.signer (answer_site f s good.ranged here.of_the_kind),
          (record_bytes reply, good_long f client accepts desk is_write_reply slots sound.replies Answer alike first i reply good, good.vouched, good_says f client accepts desk is_write_reply slots sound.replies Answer alike first i reply good ∙ says),
        ),
        each_says first answer sites has gave,
      )

  pub write_confirmed : (answer : ℕ) → Answered Answer (quorum f) slots answer → WriteConfirmed f client accepts desk.write answer
  write_confirmed answer ([], quorate, gave) = let z : 0 ≡ quorum f = quorate.size in absurd (omega arith)
  write_confirmed answer (i ∷ rest, quorate, gave) =
      let h = each_has Answer alike alike_equivalence.reflexive slots (quorum f) i rest quorate in
      let first = h.0 in
      let known = sound.replies i first h.1 in
      let here = h.2.0 in
      let kind : first.statement.kind ≡ kind_number Answer = ap (λ (r : Record). r.statement.kind) (same_reply (slot_at slots i).filed first here.reply h.1 here.filed) ∙ here.of_the_kind in (
        claim_of first.statement,
        claimed client desk.write first.statement kind (sym (beside_the_write f client accepts desk first.statement known.0) ∙ known.1.like),
        record { sites = i ∷ rest; enough = quorate.size; different = all_different (i ∷ rest) quorate.ordered; each = each_says first answer (i ∷ rest) h.2 gave },
      )

  -- A good READ-ANSWER is that of its site to the open question.
  reading_so
      : (question : Question) (i : ℕ) (reply : Record)
      → desk.question ≡ Some question
      → is_read_answer reply.statement ≡ true
      → Good f client accepts desk i reply
      → reply.statement ≡ read_answer i client question.operation question.nonce reply.statement.round reply.statement.place reply.statement.answer
  reading_so question i reply asked reads good =
      let s = reply.statement in
      let kind : s.kind ≡ kind_number ReadAnswer = eqb-true s.kind 5 reads in
      let stands : beside_question client (Some question) s ≡ Like = ap (λ (q : Option Question). beside_question client q s) (sym asked) ∙ sym (beside_the_question f client accepts desk s reads) ∙ good.like in
      let fits = like_only (answers_asked client question s) stands in
      let p = and_parts (eqb s.client client && eqb s.nonce question.nonce) (bytes_eq s.operation question.operation) fits in
      let r = and_parts (eqb s.client client) (eqb s.nonce question.nonce) p.0 in
      let ec : s.client ≡ client = eqb-true s.client client r.0 in
      let en : s.nonce ≡ question.nonce = eqb-true s.nonce question.nonce r.1 in
      let eo : s.operation ≡ question.operation = (bytes_eq-Decides s.operation question.operation).0 p.1 in
      nothing_else f s ReadAnswer (ap kind_of kind) good.ranged
      ∙ ap (λ (k : ℕ). read_answer k s.client s.operation s.nonce s.round s.place s.answer) good.signer
      ∙ ap (λ (k : ℕ). read_answer i k s.operation s.nonce s.round s.place s.answer) ec
      ∙ ap (λ (o : List ℕ). read_answer i client o s.nonce s.round s.place s.answer) eo
      ∙ ap (λ (k : ℕ). read_answer i client question.operation k s.round s.place s.answer) en

  abbrev readings : List Slot
  readings = desk.readings.at

  each_reads
      : (question : Question) (first : Record) (answer : ℕ) (sites : List ℕ)
      → desk.question ≡ Some question
      → All (Has ReadAnswer alike readings first) sites
      → All (Gave readings answer) sites
      → All (Says f accepts (λ i. read_answer i client question.operation question.nonce first.statement.round first.statement.place answer)) sites
  each_reads question first answer [] asked has gave = tt
  each_reads question first answer (i ∷ sites) asked (here, has) (gives, gave) =
      let reply = here.reply in
      let s = reply.statement in
      let known = sound.readings i reply here.filed in
      let good = known.1 in
      let same = same_but_signer first.statement s here.like_first in
      let round : s.round ≡ first.statement.round = ap (λ (x : Statement). x.round) (sym same) in
      let place : s.place ≡ first.statement.place = ap (λ (x : Statement). x.place) (sym same) in
      let value : s.answer ≡ answer = gives reply here.filed in
      let o = question.operation in
      let n = question.nonce in
      let says : s ≡ read_answer i client o n first.statement.round first.statement.place answer =
      reading_so question i reply asked known.0 good
      ∙ ap (λ (k : ℕ). read_answer i client o n k s.place s.answer) round
      ∙ ap (λ (k : ℕ). read_answer i client o n first.statement.round k s.answer) place
      ∙ ap (read_answer i client o n first.statement.round first.statement.place) value in (
        (
          subst (λ (k : ℕ). k < 3 * f + 1) good.signer (read_answer_site f s good.ranged here.of_the_kind),
          (record_bytes reply, good_long f client accepts desk is_read_answer readings sound.readings ReadAnswer alike first i reply good, good.vouched, good_says f client accepts desk is_read_answer readings sound.readings ReadAnswer alike first i reply good ∙ says),
        ),
        each_reads question first answer sites asked has gave,
      )

  -- With no question open nothing is filed for one.
  unasked : (i : ℕ) (reply : Record) → desk.question ≡ None → (slot_at readings i).filed ≡ Some reply → ⊥
  unasked i reply none e =
      let known = sound.readings i reply e in
      let s = reply.statement in
      let clash : Like ≡ Unasked = sym known.1.like ∙ beside_the_question f client accepts desk s known.0 ∙ ap (λ (q : Option Question). beside_question client q s) none in
      let z : ◌≡◌ {A = ℕ} 0 1 = cc in omega arith

  confirmed_as
      : (question : Option Question) (answer : ℕ)
      → desk.question ≡ question
      → Answered ReadAnswer (quorum f) readings answer
      → (round place : ℕ) × MatchOption question ⊥ (λ asked. Backed f accepts (λ i. read_answer i client asked.operation asked.nonce round place answer))
  confirmed_as question answer asked ([], quorate, gave) = let z : 0 ≡ quorum f = quorate.size in absurd (omega arith)
  confirmed_as None answer asked (i ∷ rest, quorate, gave) =
      let h = each_has ReadAnswer alike alike_equivalence.reflexive readings (quorum f) i rest quorate in absurd (unasked i h.0 asked h.1)
  confirmed_as (Some question) answer asked (i ∷ rest, quorate, gave) =
      let h = each_has ReadAnswer alike alike_equivalence.reflexive readings (quorum f) i rest quorate in
      let first = h.0 in (
        first.statement.round,
        first.statement.place,
        record { sites = i ∷ rest; enough = quorate.size; different = all_different (i ∷ rest) quorate.ordered; each = each_reads question first answer (i ∷ rest) asked h.2 gave },
      )

  pub reading_confirmed : (answer : ℕ) → Answered ReadAnswer (quorum f) readings answer → ReadingConfirmed f client accepts desk.question answer
  reading_confirmed answer answered = confirmed_as desk.question answer refl answered
