-- What each test of a record says.
use Rattle.std.proofs.Common.{◌≡◌, ℕ, zero, suc, ◌<◌, true, false, eqb, List, sym, ap, ◌∙◌, ⊎_elim, arith}
use Rattle.std.proofs.lemmas.Bool.{not-true, not-false, eqb-true, eqb-false, eq-eqb, and_parts, and_from, or_cases, or_parts, both_ways, cases_eq}
use Rattle.record.specs.Claims.{claim_of, same_claim}
use Rattle.record.specs.declared.fields.Statement.{Statement}
use Rattle.record.proofs.Facts.{claims_compared}
use Rattle.message.specs.Checks.{unlike, signed_among}
use Rattle.message.specs.Records.{statement_at}
use Rattle.message.specs.declared.agreement.Agreement.TheVariants.{OneClaim, OneClaimIn, OnePlace, OneRound}

module _ (a b : Statement) where
  pub claim_alike : unlike OneClaim a b ≡ false → claim_of b ≡ claim_of a
  claim_alike e = sym ((claims_compared (claim_of a) (claim_of b)).0 (not-false _ e))

  pub claim_unlike : unlike OneClaim a b ≡ true → claim_of b ≡ claim_of a → ⊥
  claim_unlike e same = both_ways _ (not-true _ e) ((claims_compared (claim_of a) (claim_of b)).1 (sym same))

  pub place_alike : unlike OnePlace a b ≡ false → (b.round ≡ a.round) × (b.place ≡ a.place)
  place_alike e =
      let p = and_parts (eqb a.round b.round) (eqb a.place b.place) (not-false _ e) in
      (sym (eqb-true _ _ p.0), sym (eqb-true _ _ p.1))

  pub place_unlike : unlike OnePlace a b ≡ true → (b.round ≡ a.round) × (b.place ≡ a.place) → ⊥
  place_unlike e same = both_ways _ (not-true _ e) (and_from (eqb a.round b.round) (eqb a.place b.place) (eq-eqb _ _ (sym same.0)) (eq-eqb _ _ (sym same.1)))

  pub round_alike : unlike OneRound a b ≡ false → b.round ≡ a.round
  round_alike e = sym (eqb-true _ _ (not-false _ e))

  pub round_unlike : unlike OneRound a b ≡ true → b.round ≡ a.round → ⊥
  round_unlike e same = both_ways _ (not-true _ e) (eq-eqb _ _ (sym same))

  pub claim_in_alike : (round : ℕ) → unlike (OneClaimIn round) a b ≡ false → (claim_of b ≡ claim_of a) × (b.round ≡ round)
  claim_in_alike round e =
      let p = and_parts (same_claim (claim_of a) (claim_of b)) (eqb b.round round) (not-false _ e) in
      (sym ((claims_compared (claim_of a) (claim_of b)).0 p.0), eqb-true _ _ p.1)

  pub claim_in_unlike : (round : ℕ) → unlike (OneClaimIn round) a b ≡ true → (claim_of b ≡ claim_of a) × (b.round ≡ round) → ⊥
  claim_in_unlike round e same =
      both_ways _ (not-true _ e) (and_from (same_claim (claim_of a) (claim_of b)) (eqb b.round round) ((claims_compared (claim_of a) (claim_of b)).1 (sym same.0)) (eq-eqb _ _ same.1))

-- One of the first n records of a part has a signer.
pub among_some : (signer : ℕ) (part : List ℕ) (n : ℕ) → signed_among signer part n ≡ true → (j : ℕ) × (j < n) × ((statement_at part j).signer ≡ signer)
unfolding signed_among
among_some signer part zero e = let z : ◌≡◌ {A = ℕ} 0 1 = cc in absurd (omega arith)
among_some signer part (suc n) e =
    ⊎_elim
    (λ before. let p = among_some signer part n before in let less : p.0 < n = p.1 in (p.0, omega arith, p.2))
    (λ here. (n, omega arith, eqb-true _ _ here))
    (or_cases (signed_among signer part n) (eqb (statement_at part n).signer signer) e)

pub among_none : (signer : ℕ) (part : List ℕ) (n : ℕ) → signed_among signer part n ≡ false → (j : ℕ) → j < n → (statement_at part j).signer ≡ signer → ⊥
unfolding signed_among
among_none signer part zero e j less same = omega arith
among_none signer part (suc n) e j less same =
    let p = or_parts (signed_among signer part n) (eqb (statement_at part n).signer signer) e in
    ⊎_elim
    (λ last. eqb-false _ _ p.1 (ap (λ i. (statement_at part i).signer) (sym last) ∙ same))
    (λ ne. among_none signer part n p.0 j (omega arith) same)
    (cases_eq j n)
