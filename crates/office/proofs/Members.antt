-- What the sites of a quorum have filed.
use Rattle.std.proofs.Common.{◌≡◌, ℕ, zero, suc, Bool, true, eqb, List, [], ◌∷◌, Some, None, Option, sym, refl, ap, ◌∙◌, subst, arith}
use Rattle.std.specs.List.{slice_get, AllByRecursion as All}
use Rattle.std.proofs.lemmas.Bool.{false≢true, eqb-true}
use Rattle.finder.specs.Law.{Quorum, Sent, Agree}
use Rattle.record.proofs.Facts.{alike_but_signer, alike_equivalence}
use Rattle.record.specs.Claims.{alike}
use Rattle.record.specs.Kinds.{kind_number}
use Rattle.record.specs.declared.fields.Record.{Record}
use Rattle.record.specs.declared.fields.Statement.{Statement}
use Rattle.record.specs.declared.kind.Kind.{Kind}
use Rattle.office.specs.Judging.{lead, stated_in}
use Rattle.office.specs.Laws.{Gave, AlikeQuorum}
use Rattle.office.specs.Likenesses.{both_held, filed_kind}
use Rattle.office.specs.Slots.{slot_at}
use Rattle.office.specs.declared.slots.Slot.{Slot}

-- A slot that is there is the slot at its place.
pub slot_there : (slots : List Slot) (i : ℕ) (x : Slot) → slice_get slots i ≡ Some x → slot_at slots i ≡ x
slot_there [] i x e = let z : ◌≡◌ {A = ℕ} 0 1 = cc in absurd (omega arith)
slot_there (y ∷ slots) zero x e = cc
slot_there (y ∷ slots) (suc i) x e = slot_there slots i x e

-- A slot that counts holds a reply of the kind.
kept : (kind : Kind) (o : Option Record) → filed_kind kind o ≡ true → (reply : Record) × (o ≡ Some reply) × (eqb reply.statement.kind (kind_number kind) ≡ true)
kept kind None e = elim (false≢true e) [ ]
kept kind (Some reply) e = (reply, refl, e)

-- Site j has filed a reply of a kind, which is like that of the first.
pub record Has (kind : Kind) (like : Statement → Statement → Bool) (slots : List Slot) (first : Record) (j : ℕ) : Type 0 where
  pub reply : Record
  pub filed : (slot_at slots j).filed ≡ Some reply
  pub of_the_kind : reply.statement.kind ≡ kind_number kind
  pub like_first : like first.statement reply.statement ≡ true

module _ (kind : Kind) (like : Statement → Statement → Bool) (reflexive : (s : Statement) → like s s ≡ true) (slots : List Slot) where
  abbrev Wants : Slot → Bool
  Wants s = filed_kind kind s.filed

  abbrev Likens : Slot → Slot → Bool
  Likens a b = both_held like a.filed b.filed

  -- What a site that has sent a reply of the kind has filed.
  sent_by : (i : ℕ) → Sent Wants slots i → (x : Slot) × (reply : Record) × (slice_get slots i ≡ Some x) × ((slot_at slots i).filed ≡ Some reply) × (x.filed ≡ Some reply) × (reply.statement.kind ≡ kind_number kind)
  sent_by i (x, there, counts) =
      let k = kept kind x.filed counts in
      (x, k.0, there, ap (λ (s : Slot). s.filed) (slot_there slots i x there) ∙ k.1, k.1, eqb-true _ _ k.2)

  likened : (a b : Slot) (r s : Record) → a.filed ≡ Some r → b.filed ≡ Some s → Likens a b ≡ true → like r.statement s.statement ≡ true
  likened a b r s ea eb e =
      sym (ap (λ (o : Option Record). both_held like o (Some s)) ea) ∙ sym (ap (λ (o : Option Record). both_held like a.filed o) eb) ∙ e

  beside_first
      : (i : ℕ) (x : Slot) (first : Record)
      → slice_get slots i ≡ Some x
      → x.filed ≡ Some first
      → (rest : List ℕ)
      → All (Sent Wants slots) rest
      → All (Agree Likens slots i) rest
      → All (Has kind like slots first) rest
  beside_first i x first ex ef [] sent agree = tt
  beside_first i x first ex ef (j ∷ rest) (here, sent) (agrees, agree) =
      let h = sent_by j here in (
        record { reply = h.1; filed = h.3; of_the_kind = h.5; like_first = likened x h.0 first h.1 ef h.4 (agrees x h.0 ex h.2) },
        beside_first i x first ex ef rest sent agree,
      )

  -- Each site of a quorum has filed a reply of the kind, like that of the first.
  pub each_has
      : (q i : ℕ) (rest : List ℕ) → Quorum Wants Likens slots q (i ∷ rest) → (first : Record) × ((slot_at slots i).filed ≡ Some first) × All (Has kind like slots first) (i ∷ rest)
  each_has q i rest quorum =
      let h = sent_by i quorum.sent.0 in (
        h.1,
        h.3,
        (
          record { reply = h.1; filed = h.3; of_the_kind = h.5; like_first = reflexive h.1.statement },
          beside_first i h.0 h.1 h.2 h.4 rest quorum.sent.1 quorum.agree.0,
        ),
      )

pub same_reply : (o : Option Record) (a b : Record) → o ≡ Some a → o ≡ Some b → a ≡ b
same_reply o a b ea eb = cc

all_gave
    : (kind : Kind) (slots : List Slot) (first : Record) (sites : List ℕ) → All (Has kind alike slots first) sites → All (Gave slots first.statement.answer) sites
all_gave kind slots first [] all = tt
all_gave kind slots first (j ∷ sites) (here, all) = (
  λ reply e.
      let same = same_reply (slot_at slots j).filed here.reply reply here.filed e in
      let equal = (alike_but_signer 0 first.statement here.reply.statement).0 here.like_first in
      sym (ap (λ (s : Statement). s.answer) equal ∙ ap (λ (r : Record). r.statement.answer) same),
  all_gave kind slots first sites all,
)

-- The sites of a quorum of alike replies all gave the answer of the first.
pub gave_lead : (kind : Kind) (q : ℕ) (slots : List Slot) (sites : List ℕ) → AlikeQuorum kind q slots sites → All (Gave slots (lead slots sites).answer) sites
gave_lead kind q slots [] quorum = tt
gave_lead kind q slots (i ∷ rest) quorum =
    let h = each_has kind alike alike_equivalence.reflexive slots q i rest quorum in
    let e : (lead slots (i ∷ rest)).answer ≡ h.0.statement.answer = ap (λ (o : Option Record). (stated_in o).answer) h.1 in
    subst (λ (a : ℕ). All (Gave slots a) (i ∷ rest)) (sym e) (all_gave kind slots h.0 (i ∷ rest) h.2)
