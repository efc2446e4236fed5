-- Over a sound desk there is one answer at most that a quorum gives.
use Rattle.std.proofs.Common.{◌≡◌, ℕ, ◌+◌, ◌*◌, ◌<◌, Bool, true, List, [], ◌∷◌, length, Some, sym, ap, ◌∙◌, subst, arith}
use Rattle.std.specs.List.{AllByRecursion as All}
use Rattle.std.proofs.ByRecursion.{All-weaker}
use Rattle.message.specs.Forms.{quorum}
use Rattle.record.proofs.Facts.{alike_equivalence}
use Rattle.record.specs.Claims.{alike}
use Rattle.record.specs.Kinds.{kind_number}
use Rattle.record.specs.Ranges.{in_range}
use Rattle.record.specs.declared.fields.Record.{Record}
use Rattle.record.specs.declared.fields.Statement.{Statement}
use Rattle.record.specs.declared.kind.Kind.{Kind}
use Rattle.record.specs.declared.kind.Kind.TheVariants.{Answer, ReadAnswer}
use Rattle.office.proofs.Members.{Has, each_has}
use Rattle.office.proofs.Pieces.{answer_site, read_answer_site, all_different}
use Rattle.office.proofs.Sharing.{shared}
use Rattle.office.specs.Filed.{Filed, Sound, is_write_reply}
use Rattle.office.specs.Laws.{Gave, AlikeQuorum, Answered, Exact, OneAnswer}
use Rattle.office.specs.Slots.{slot_at}
use Rattle.office.specs.Taking.{is_read_answer}
use Rattle.office.specs.declared.desk.Desk.{Desk}
use Rattle.office.specs.declared.slots.Slot.{Slot}
use Rattle.office.specs.declared.verdict.Verdict.{Verdict}
use Rattle.office.specs.declared.verdict.Verdict.TheVariants.{Done}

module _ (f client : ℕ) (accepts : List ℕ → Bool) (desk : Desk) (kind : Kind) (wanted : Statement → Bool) (slots : List Slot) (filed : Filed f client accepts desk wanted slots)
    (in_pool : (s : Statement) → in_range f s ≡ true → s.kind ≡ kind_number kind → s.signer < 3 * f + 1) where
  -- A site of the pool that has filed a reply.
  abbrev HeardOf : ℕ → Type 0
  HeardOf i = (i < 3 * f + 1) × ((reply : Record) × ((slot_at slots i).filed ≡ Some reply))

  heard_of : (first : Record) (i : ℕ) → Has kind alike slots first i → HeardOf i
  heard_of first i has =
      let good = (filed i has.reply has.filed).1 in
      (subst (λ (k : ℕ). k < 3 * f + 1) good.signer (in_pool has.reply.statement good.ranged has.of_the_kind), (has.reply, has.filed))

  all_heard_of : (sites : List ℕ) → AlikeQuorum kind (quorum f) slots sites → All HeardOf sites
  all_heard_of [] quorate = tt
  all_heard_of (i ∷ rest) quorate =
      let h = each_has kind alike alike_equivalence.reflexive slots (quorum f) i rest quorate in
      All-weaker (Has kind alike slots h.0) HeardOf (heard_of h.0) (i ∷ rest) h.2

  low : (sites : List ℕ) → All HeardOf sites → All (λ i. i < 3 * f + 1) sites
  low sites all = All-weaker HeardOf (λ i. i < 3 * f + 1) (λ i h. h.0) sites all

  both : (sites : List ℕ) (answer : ℕ) → All HeardOf sites → All (Gave slots answer) sites → All (λ i. HeardOf i × Gave slots answer i) sites
  both [] answer hs gs = tt
  both (i ∷ sites) answer (h, hs) (g, gs) = ((h, g), both sites answer hs gs)

  one_answer : (a b : ℕ) → Answered kind (quorum f) slots a → Answered kind (quorum f) slots b → a ≡ b
  one_answer a b (xs, qx, gx) (ys, qy, gy) =
      let hx = all_heard_of xs qx in
      let hy = all_heard_of ys qy in
      let many : 3 * f + 1 < length xs + length ys = omega (arith, qx.size, qy.size) in
      let s = shared (3 * f + 1) xs ys (λ i. HeardOf i × Gave slots a i) (Gave slots b) (all_different xs qx.ordered) (all_different ys qy.ordered) (low xs hx) (low ys hy) many (both xs a hx gx) gy in
      let reply = s.1.0.1 in
      sym (s.1.1 reply.0 reply.1) ∙ s.2 reply.0 reply.1

  pub decides : (verdict : Verdict) → Exact kind (quorum f) slots verdict → OneAnswer kind (quorum f) slots verdict
  decides verdict exact answer answered =
      let d = exact.due answered.0 answered.1 in
      let e = one_answer d.0 answer (exact.done d.0 d.1) answered in
      d.1 ∙ ap Done e

pub decided : (f client : ℕ) (accepts : List ℕ → Bool) (desk : Desk) → Sound f client accepts desk → (verdict : Verdict) → Exact Answer (quorum f) desk.replies.at verdict → OneAnswer Answer (quorum f) desk.replies.at verdict
decided f client accepts desk sound = decides f client accepts desk Answer is_write_reply desk.replies.at sound.replies (λ s ok kind. answer_site f s ok kind)

pub decided_reading
    : (f client : ℕ) (accepts : List ℕ → Bool) (desk : Desk) → Sound f client accepts desk → (verdict : Verdict) → Exact ReadAnswer (quorum f) desk.readings.at verdict → OneAnswer ReadAnswer (quorum f) desk.readings.at verdict
decided_reading f client accepts desk sound = decides f client accepts desk ReadAnswer is_read_answer desk.readings.at sound.readings (λ s ok kind. read_answer_site f s ok kind)
