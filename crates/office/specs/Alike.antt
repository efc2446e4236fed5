-- Each likeness of slots is reflexive, symmetric and transitive.
use Rattle.std.specs.Prelude.{◌≡◌, Bool, true, Some, None, Option, ◌==◌, refl}
use Rattle.std.proofs.Common.{sym, ◌∙◌}
use Rattle.std.proofs.lemmas.Bool.{false≢true, eqb-true, eq-eqb, and_parts, and_from}
use Rattle.record.proofs.Facts.{claims_compared}
use Rattle.record.specs.Claims.{claim_of}
use Rattle.record.specs.declared.fields.Record.{Record}
use Rattle.record.specs.declared.fields.Statement.{Statement}
use Rattle.office.specs.Likenesses.{both_held, one_claim, one_place}

module _ (like : Statement → Statement → Bool) where
  pub held_reflexive : ((s : Statement) → like s s ≡ true) → (o : Option Record) → both_held like o o ≡ true
  held_reflexive law None = refl
  held_reflexive law (Some a) = law a.statement

  pub held_symmetric
      : ((a b : Statement) → like a b ≡ true → like b a ≡ true) → (a b : Option Record) → both_held like a b ≡ true → both_held like b a ≡ true
  held_symmetric law None None e = refl
  held_symmetric law None (Some b) e = e
  held_symmetric law (Some a) None e = e
  held_symmetric law (Some a) (Some b) e = law a.statement b.statement e

  pub held_transitive
      : ((a b c : Statement) → like a b ≡ true → like b c ≡ true → like a c ≡ true)
      → (a b c : Option Record)
      → both_held like a b ≡ true
      → both_held like b c ≡ true
      → both_held like a c ≡ true
  held_transitive law None None None e d = refl
  held_transitive law None None (Some c) e d = d
  held_transitive law None (Some b) None e d = refl
  held_transitive law None (Some b) (Some c) e d = e
  held_transitive law (Some a) None None e d = e
  held_transitive law (Some a) None (Some c) e d = elim (false≢true e) [ ]
  held_transitive law (Some a) (Some b) None e d = d
  held_transitive law (Some a) (Some b) (Some c) e d = law a.statement b.statement c.statement e d

pub claim_reflexive : (a : Statement) → one_claim a a ≡ true
claim_reflexive a = (claims_compared (claim_of a) (claim_of a)).1 refl

pub claim_symmetric : (a b : Statement) → one_claim a b ≡ true → one_claim b a ≡ true
claim_symmetric a b e = (claims_compared (claim_of b) (claim_of a)).1 (sym ((claims_compared (claim_of a) (claim_of b)).0 e))

pub claim_transitive : (a b c : Statement) → one_claim a b ≡ true → one_claim b c ≡ true → one_claim a c ≡ true
claim_transitive a b c e d =
    (claims_compared (claim_of a) (claim_of c)).1 ((claims_compared (claim_of a) (claim_of b)).0 e ∙ (claims_compared (claim_of b) (claim_of c)).0 d)

pub place_parts : (a b : Statement) → one_place a b ≡ true → (a.round ≡ b.round) × (a.place ≡ b.place)
place_parts a b e =
    let p = and_parts (a.round == b.round) (a.place == b.place) e in
    (eqb-true _ _ p.0, eqb-true _ _ p.1)

place_from : (a b : Statement) → a.round ≡ b.round → a.place ≡ b.place → one_place a b ≡ true
place_from a b r p = and_from (a.round == b.round) (a.place == b.place) (eq-eqb _ _ r) (eq-eqb _ _ p)

pub place_reflexive : (a : Statement) → one_place a a ≡ true
place_reflexive a = place_from a a refl refl

pub place_symmetric : (a b : Statement) → one_place a b ≡ true → one_place b a ≡ true
place_symmetric a b e = let p = place_parts a b e in place_from b a (sym p.0) (sym p.1)

pub place_transitive : (a b c : Statement) → one_place a b ≡ true → one_place b c ≡ true → one_place a c ≡ true
place_transitive a b c e d =
    let p = place_parts a b e in
    let q = place_parts b c d in
    place_from a c (p.0 ∙ q.0) (p.1 ∙ q.1)
