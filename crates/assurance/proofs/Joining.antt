-- From the replies that an office has filed to the pool's book.
use Rattle.std.proofs.Common.{◌≡◌, ℕ, ◌+◌, ◌*◌, ◌<◌, Bool, true, ◌&&◌, eqb, List, [], ◌∷◌, length, IfOk, Some, None, Ok, Err, Option, Result, sym, refl, ap, ◌∙◌, subst, arith, MatchOption}
use mathlib.Core.Option.{some}
use Rattle.std.specs.List.{AllByRecursion as All}
use Rattle.std.specs.Str.{bytes_eq}
use Rattle.std.proofs.lemmas.Slice.Eq.{bytes_eq-Decides}
use Rattle.std.proofs.lemmas.Bool.{false≢true, and_parts, eqb-true}
use Rattle.finder.specs.Law.{Pairs}
use Rattle.object.specs.Rules.{Rules}
use Rattle.message.specs.Forms.{quorum}
use Rattle.message.specs.declared.refusal.Refusal.{Refusal}
use Rattle.record.proofs.Facts.{alike_equivalence}
use Rattle.record.specs.Claims.{claim_of, alike, signed_by}
use Rattle.record.specs.Kinds.{kind_number}
use Rattle.record.specs.Layout.{record_bytes}
use Rattle.record.specs.Ranges.{in_range}
use Rattle.record.specs.declared.fields.Record.{Record}
use Rattle.record.specs.declared.fields.Statement.{Statement}
use Rattle.record.specs.declared.kind.Kind.{Kind}
use Rattle.record.specs.declared.kind.Kind.TheVariants.{Answer, ReadAnswer}
use Rattle.protocol.proofs.Signers.{quorum_signers}
use Rattle.protocol.specs.Book.{Wrote, Backs, Confirmed, ConfirmedReading, Begins, whole, more}
use Rattle.protocol.specs.Promise.{OneBook}
use Rattle.protocol.specs.Quorum.{Pool, sites, Quorum, In, here, there, Different, different_none, different_more}
use Rattle.protocol.specs.Words as words
use Rattle.protocol.specs.Words.{Question, Word, Deed, Transcript}
use Rattle.site.proofs.Promised.{promise_kept}
use Rattle.site.proofs.Telling.{wrote_word}
use Rattle.site.specs.Life.{Event, Setting, claim_in, question_in, word_of, deeds, then_did, called, checked, transcript}
use Rattle.site.specs.OneBook.{in_records, Premises, setting}
use Rattle.office.proofs.Confirming.{same_but_signer, claimed, like_only}
use Rattle.office.proofs.Keeping.{beside_the_write, beside_the_question}
use Rattle.office.proofs.Members.{Has, each_has, same_reply}
use Rattle.office.proofs.Pieces.{answer_site, read_answer_site, all_different}
use Rattle.office.specs.Calls.{close_call}
use Rattle.office.specs.Filed.{Filed, Sound, is_write_reply}
use Rattle.office.specs.Judging.{claims_write, is_ours}
use Rattle.office.specs.Laws.{Gave, Answered, Exact}
use Rattle.office.specs.Slots.{slot_at}
use Rattle.office.specs.Taking.{is_read_answer, beside_question, answers_asked}
use Rattle.office.specs.declared.asking.Question.{Question as Asked}
use Rattle.office.specs.declared.asking.Write.{Write}
use Rattle.office.specs.declared.desk.Desk.{Desk}
use Rattle.office.specs.declared.desk.Standing.TheVariants.{Like}
use Rattle.office.specs.declared.slots.Slot.{Slot}
use Rattle.office.specs.declared.ticket.Ticket.{Ticket}
use Rattle.office.specs.declared.ticket.Unspent.{Unspent}
use Rattle.office.specs.declared.verdict.Judged.{Judged}
use Rattle.office.specs.declared.verdict.Verdict.{Verdict}
use Rattle.office.specs.declared.verdict.Verdict.TheVariants.{Done, Certify, Back, Clash, Catch, Wait}
use Rattle.assurance.proofs.Deciding.{close_answered}
use Rattle.assurance.specs.InBook.{Own, asked_by, FiledAsWritten, WriteStands, ReadingStands, WriteInBook, ReadingInBook, VerdictInBook}

-- Lists of different sites ---------------------------------------------------------------------------------------

of_all : (P : ℕ → Type 0) (l : List ℕ) (s : ℕ) → All P l → In s l → P s
of_all P [] s all h = elim h [ ]
of_all P (x ∷ l) s (first, all) here = first
of_all P (x ∷ l) s (first, all) (there h) = of_all P l s all h

apart : (l : List ℕ) → Pairs (λ i j. i ≡ j → ⊥) l → Different l
apart [] pairs = different_none
apart (x ∷ l) (first, pairs) = different_more (λ h. of_all (λ j. x ≡ j → ⊥) l x first h refl) (apart l pairs)

-- The word of a statement, by its kind ---------------------------------------------------------------------------

-- A statement with another kind.
abbrev of_kind : ℕ → Statement → Statement
of_kind kind s = record {
  kind = kind;
  signer = s.signer;
  client = s.client;
  spare = s.spare;
  number = s.number;
  round = s.round;
  place = s.place;
  operation = s.operation;
  answer = s.answer;
  nonce = s.nonce;
}

answer_word : (s : Statement) → s.kind ≡ kind_number Answer → word_of s ≡ some (words.answer (claim_in s) s.answer)
answer_word s e = ap (λ (k : ℕ). word_of (of_kind k s)) e

reading_word : (s : Statement) → s.kind ≡ kind_number ReadAnswer → word_of s ≡ some (words.reading (question_in s) s.round s.place s.answer)
reading_word s e = ap (λ (k : ℕ). word_of (of_kind k s)) e

-- Statements that are alike but for the signer are one word.
one_answer : (lead : Statement) (answer : ℕ) (s : Statement) → s.kind ≡ kind_number Answer → signed_by 0 lead ≡ signed_by 0 s → s.answer ≡ answer → word_of s ≡ some (words.answer (claim_in lead) answer)
one_answer lead answer s kind same value =
    answer_word s kind ∙ ap (λ (x : Statement). some (words.answer (claim_in x) x.answer)) (sym same) ∙ ap (λ (a : ℕ). some (words.answer (claim_in lead) a)) (ap (λ (x : Statement). x.answer) same ∙ value)

one_reading : (lead : Statement) (answer : ℕ) (s : Statement) → s.kind ≡ kind_number ReadAnswer → signed_by 0 lead ≡ signed_by 0 s → s.answer ≡ answer →
    word_of s ≡ some (words.reading (question_in lead) lead.round lead.place answer)
one_reading lead answer s kind same value =
    reading_word s kind ∙ ap (λ (x : Statement). some (words.reading (question_in x) x.round x.place x.answer)) (sym same)
    ∙ ap (λ (a : ℕ). some (words.reading (question_in lead) lead.round lead.place a)) (ap (λ (x : Statement). x.answer) same ∙ value)

-- A claim of the open write.
own_claim : (client : ℕ) (write : Write) (s : Statement) → claims_write client write (claim_of s) ≡ true → Own client write (claim_in s)
own_claim client write s e =
    let p = and_parts (eqb s.client client && eqb s.number write.number) (bytes_eq s.operation write.operation) e in
    let r = and_parts (eqb s.client client) (eqb s.number write.number) p.0 in
    record {
      client_is = eqb-true s.client client r.0;
      number_is = eqb-true s.number write.number r.1;
      operation_is = (bytes_eq-Decides s.operation write.operation).0 p.1;
    }

-- A statement that answers the open question.
own_question : (client : ℕ) (asked : Asked) (s : Statement) → answers_asked client asked s ≡ true → question_in s ≡ asked_by client asked
own_question client asked s e =
    let p = and_parts (eqb s.client client && eqb s.nonce asked.nonce) (bytes_eq s.operation asked.operation) e in
    let r = and_parts (eqb s.client client) (eqb s.nonce asked.nonce) p.0 in
    let ec : s.client ≡ client = eqb-true s.client client r.0 in
    let en : s.nonce ≡ asked.nonce = eqb-true s.nonce asked.nonce r.1 in
    let eo : s.operation ≡ asked.operation = (bytes_eq-Decides s.operation asked.operation).0 p.1 in
    cc

-- A moment of a life has a moment of its transcript ---------------------------------------------------------------

before_did : {past T : Transcript} (s : ℕ) (ds : List Deed) → Begins past T → Begins past (then_did s ds T)
before_did s [] b = b
before_did s (d ∷ ds) b = more (before_did s ds b)

transcript_begins : {R : Rules} (in_a : Setting R) {past life : List Event} → Begins past life → Begins (transcript in_a past) (transcript in_a life)
transcript_begins in_a whole = whole
transcript_begins in_a (more {c = e} {l = life} b) =
    before_did e.site (deeds (checked in_a e) e.site (called in_a life e).result (called in_a life e).output) (transcript_begins in_a b)

-- From slots to words --------------------------------------------------------------------------------------------

module _ (R : Rules) (f client : ℕ) (accepts : List ℕ → Bool) (desk : Desk) (sound_desk : Sound f client accepts desk)
    (sound : ℕ → Bool) (first : R.Value) (before : ℕ → Option R.Value) (life : List Event) where
  abbrev in_a : Setting R
  in_a = setting R f sound accepts first before

  abbrev pool : Pool
  pool = in_a.pool

  abbrev T : Transcript
  T = transcript in_a life

  -- Site i has filed a reply of its own, which the notary accepts and which is this word.
  record FiledWord (slots : List Slot) (w : Word) (i : ℕ) : Type 0 where
    reply : Record
    filed : (slot_at slots i).filed ≡ Some reply
    signer : reply.statement.signer ≡ i
    below : reply.statement.signer < 3 * f + 1
    vouched : accepts (record_bytes reply) ≡ true
    word : word_of reply.statement ≡ some w

  backs : (slots : List Slot) (w : Word) → FiledAsWritten in_a life slots → (i : ℕ) → FiledWord slots w i → (i < sites pool) × Backs pool T w i
  backs slots w written i h =
      let s = h.reply.statement in (
        subst (λ (k : ℕ). k < 3 * f + 1) h.signer h.below,
        λ is. subst (λ (k : ℕ). Wrote k w T) h.signer
            (wrote_word in_a s.signer s w life h.word
            (written i h.reply h.filed h.vouched (record { below = h.below; is_sound = subst (λ (k : ℕ). sound k ≡ true) (sym h.signer) is }))),
      )

  backed : (slots : List Slot) (w : Word) → FiledAsWritten in_a life slots → (l : List ℕ) → length l ≡ quorum f → Pairs (λ i j. i ≡ j → ⊥) l → All (FiledWord slots w) l → Quorum pool (Backs pool T w)
  backed slots w written l size pairs all = quorum_signers.1 (record {
    signers = l;
    different = apart l pairs;
    enough = omega (arith, size);
    each = λ s h. backs slots w written s (of_all (FiledWord slots w) l s all h);
  })

  kept_book : Premises in_a life → OneBook pool (in_records R) first T
  kept_book premises = (promise_kept R in_a life premises).one_book life whole

  -- Sites whose replies of a kind are like that of the first, and give one answer, have filed one word.
  filed_words : (kind : Kind) (wanted : Statement → Bool) (slots : List Slot) → Filed f client accepts desk wanted slots →
      ((s : Statement) → in_range f s ≡ true → s.kind ≡ kind_number kind → s.signer < 3 * f + 1) →
      (lead : Record) (answer : ℕ) (w : Word) →
      ((s : Statement) → s.kind ≡ kind_number kind → signed_by 0 lead.statement ≡ signed_by 0 s → s.answer ≡ answer → word_of s ≡ some w) →
      (l : List ℕ) → All (Has kind alike slots lead) l → All (Gave slots answer) l → All (FiledWord slots w) l
  filed_words kind wanted slots filed in_pool lead answer w one_word [] has gave = tt
  filed_words kind wanted slots filed in_pool lead answer w one_word (i ∷ l) (mine, has) (gives, gave) =
      let reply = mine.reply in
      let s = reply.statement in
      let good = (filed i reply mine.filed).1 in (
        record {
          reply = reply;
          filed = mine.filed;
          signer = good.signer;
          below = in_pool s good.ranged mine.of_the_kind;
          vouched = good.vouched;
          word = one_word s mine.of_the_kind (same_but_signer lead.statement s mine.like_first) (gives reply mine.filed);
        },
        filed_words kind wanted slots filed in_pool lead answer w one_word l has gave,
      )

  -- A write --------------------------------------------------------------------------------------------------------

  abbrev replies : List Slot
  replies = desk.replies.at

  stands_as : (write : Option Write) (lead : Record) (answer : ℕ) → is_ours client write (claim_of lead.statement) ≡ true → Confirmed pool T (claim_in lead.statement) answer →
      Premises in_a life → MatchOption write ⊥ (WriteStands in_a life client answer)
  stands_as None lead answer ours confirmed premises = false≢true ours
  stands_as (Some write) lead answer ours confirmed premises =
      let book = kept_book premises in
      record {
        claim = claim_in lead.statement;
        own = own_claim client write lead.statement ours;
        confirmed = confirmed;
        kept = book;
        stands = book.stands (claim_in lead.statement) answer confirmed;
      }

  write_stands : (answer : ℕ) → Answered Answer (quorum f) replies answer → Premises in_a life → FiledAsWritten in_a life replies → MatchOption desk.write ⊥ (WriteStands in_a life client answer)
  write_stands answer ([], quorate, gave) premises written = let z : 0 ≡ quorum f = quorate.size in absurd (omega arith)
  write_stands answer (i ∷ l, quorate, gave) premises written =
      let h = each_has Answer alike alike_equivalence.reflexive replies (quorum f) i l quorate in
      let lead = h.0 in
      let known = sound_desk.replies i lead h.1 in
      let own = h.2.0 in
      let kind : lead.statement.kind ≡ kind_number Answer = ap (λ (r : Record). r.statement.kind) (same_reply (slot_at replies i).filed lead own.reply h.1 own.filed) ∙ own.of_the_kind in
      let ours = claimed client desk.write lead.statement kind (sym (beside_the_write f client accepts desk lead.statement known.0) ∙ known.1.like) in
      stands_as desk.write lead answer ours
      (backed replies (words.answer (claim_in lead.statement) answer) written (i ∷ l) quorate.size (all_different (i ∷ l) quorate.ordered) (filed_words Answer is_write_reply replies sound_desk.replies (λ s ok. answer_site f s ok) lead answer (words.answer (claim_in lead.statement) answer) (one_answer lead.statement answer) (i ∷ l) h.2 gave))
      premises

  -- A reading -----------------------------------------------------------------------------------------------------

  abbrev readings : List Slot
  readings = desk.readings.at

  looked_as : (question : Question) (round place answer : ℕ) → ConfirmedReading pool T question round place answer → Premises in_a life → ReadingStands in_a life answer question
  looked_as question round place answer confirmed premises =
      let book = kept_book premises in
      record {
        round = round;
        place = place;
        confirmed = confirmed;
        kept = book;
        looked = book.looked question round place answer confirmed;
        not_stale = λ past b none c x before. book.in_order question round place answer confirmed (transcript in_a past) (transcript_begins in_a b) none c x before;
      }

  asked_as : (asked : Option Asked) (lead : Record) (answer : ℕ) → beside_question client asked lead.statement ≡ Like →
      ConfirmedReading pool T (question_in lead.statement) lead.statement.round lead.statement.place answer → Premises in_a life →
      MatchOption asked ⊥ (λ x. ReadingStands in_a life answer (asked_by client x))
  asked_as None lead answer like confirmed premises = let z : ◌≡◌ {A = ℕ} 0 1 = cc in omega arith
  asked_as (Some asked) lead answer like confirmed premises =
      let s = lead.statement in
      looked_as (asked_by client asked) s.round s.place answer
      (subst (λ (q : Question). ConfirmedReading pool T q s.round s.place answer) (own_question client asked s (like_only (answers_asked client asked s) like)) confirmed) premises

  pub reading_stands : (answer : ℕ) → Answered ReadAnswer (quorum f) readings answer → Premises in_a life → FiledAsWritten in_a life readings →
      MatchOption desk.question ⊥ (λ x. ReadingStands in_a life answer (asked_by client x))
  reading_stands answer ([], quorate, gave) premises written = let z : 0 ≡ quorum f = quorate.size in absurd (omega arith)
  reading_stands answer (i ∷ l, quorate, gave) premises written =
      let h = each_has ReadAnswer alike alike_equivalence.reflexive readings (quorum f) i l quorate in
      let lead = h.0 in
      let s = lead.statement in
      let known = sound_desk.readings i lead h.1 in
      let w = words.reading (question_in s) s.round s.place answer in
      asked_as desk.question lead answer (sym (beside_the_question f client accepts desk s known.0) ∙ known.1.like)
      (backed readings w written (i ∷ l) quorate.size (all_different (i ∷ l) quorate.ordered)
      (filed_words ReadAnswer is_read_answer readings sound_desk.readings (λ x ok. read_answer_site f x ok) lead answer w (one_reading s answer) (i ∷ l) h.2 gave))
      premises

pub close_in_book : (R : Rules) (f client : ℕ) (accepts : List ℕ → Bool) (desk : Desk) (ticket : Ticket) (r : Result ℕ Unspent) → r ≡ (close_call f client desk ticket).result →
    Sound f client accepts desk → IfOk r (λ a. WriteInBook R f client accepts desk a)
close_in_book R f client accepts desk ticket (Err unspent) e sound_desk = tt
close_in_book R f client accepts desk ticket (Ok answer) e sound_desk = λ sound first before life premises written.
    write_stands R f client accepts desk sound_desk sound first before life answer (close_answered f client desk ticket answer (sym e)) premises written

-- Verdicts that are exact.
module _ (R : Rules) (f client : ℕ) (accepts : List ℕ → Bool) (desk : Desk) where
  told_write : (verdict : Verdict) → Exact Answer (quorum f) desk.replies.at verdict → Sound f client accepts desk → VerdictInBook (WriteInBook R f client accepts desk) verdict
  told_write (Done answer) exact sound_desk = λ sound first before life premises written.
      write_stands R f client accepts desk sound_desk sound first before life answer (exact.done answer refl) premises written
  told_write Certify exact sound_desk = tt
  told_write Back exact sound_desk = tt
  told_write Clash exact sound_desk = tt
  told_write (Catch site) exact sound_desk = tt
  told_write Wait exact sound_desk = tt

  told_reading : (verdict : Verdict) → Exact ReadAnswer (quorum f) desk.readings.at verdict → Sound f client accepts desk → VerdictInBook (ReadingInBook R f client accepts desk) verdict
  told_reading (Done answer) exact sound_desk = λ sound first before life premises written.
      reading_stands R f client accepts desk sound_desk sound first before life answer (exact.done answer refl) premises written
  told_reading Certify exact sound_desk = tt
  told_reading Back exact sound_desk = tt
  told_reading Clash exact sound_desk = tt
  told_reading (Catch site) exact sound_desk = tt
  told_reading Wait exact sound_desk = tt

  pub judge_in_book : (r : Result Judged Refusal) → IfOk r (λ j. Exact Answer (quorum f) desk.replies.at j.verdict) →
      Sound f client accepts desk → IfOk r (λ j. VerdictInBook (WriteInBook R f client accepts desk) j.verdict)
  judge_in_book (Ok j) exact sound_desk = told_write j.verdict exact sound_desk
  judge_in_book (Err refusal) exact sound_desk = tt

  pub judge_reading_in_book : (r : Result Judged Refusal) → IfOk r (λ j. Exact ReadAnswer (quorum f) desk.readings.at j.verdict) →
      Sound f client accepts desk → IfOk r (λ j. VerdictInBook (ReadingInBook R f client accepts desk) j.verdict)
  judge_reading_in_book (Ok j) exact sound_desk = told_reading j.verdict exact sound_desk
  judge_reading_in_book (Err refusal) exact sound_desk = tt
