-- The signers of records in range have a byte of the board each.
use Rattle.std.proofs.Common.{◌≡◌, ℕ, ◌+◌, ◌*◌, ◌<◌, ◌≤◌, true, eqb, Some, None, Option, sym, refl, ap, ◌∙◌, arith}
use Rattle.std.proofs.lemmas.Bool.{and_parts, true≢false}
use Rattle.std.proofs.lemmas.Bool.Decides.{nat_tests}
use Rattle.record.specs.Kinds.{kind_of, kind_number}
use Rattle.record.specs.Ranges.{in_range, in_range_as, in_range_if}
use Rattle.record.specs.declared.fields.Statement.{Statement}
use Rattle.record.specs.declared.kind.Kind.{Kind}
use Rattle.record.specs.declared.kind.Kind.TheVariants.{Request, Grant, Question, Answer, ReadAnswer, Start, ShowGrant, ShowCert}

small_as : (f : ℕ) (s : Statement) (kind : Kind) → f ≤ 5 → in_range_as f kind s ≡ true → s.signer < 16
small_as f s Request few ok = grind (arith, nat_tests)
small_as f s Grant few ok = grind (arith, nat_tests)
small_as f s Question few ok = grind (arith, nat_tests)
small_as f s Answer few ok = grind (arith, nat_tests)
small_as f s ReadAnswer few ok = grind (arith, nat_tests)
small_as f s Start few ok = grind (arith, nat_tests)
small_as f s ShowGrant few ok = grind (arith, nat_tests)
small_as f s ShowCert few ok = grind (arith, nat_tests)

small_if : (f : ℕ) (s : Statement) (o : Option Kind) → f ≤ 5 → in_range_if f o s ≡ true → s.signer < 16
small_if f s (Some kind) few ok = small_as f s kind few ok
small_if f s None few ok = absurd (true≢false (sym ok))

-- in a pool
pub small_in_pool : (f : ℕ) (s : Statement) → f ≤ 5 → in_range f s ≡ true → s.signer < 16
small_in_pool f s few ok = small_if f s (kind_of s.kind) few (and_parts _ _ ok).1

module _ (f : ℕ) (s : Statement) (ok : in_range f s ≡ true) where
  ranged : (kind : Kind) → s.kind ≡ kind_number kind → kind_of (kind_number kind) ≡ Some kind → in_range_as f kind s ≡ true
  ranged kind e known = let p = (and_parts (eqb s.spare 0) (in_range_if f (kind_of s.kind) s) ok).1 in ap (λ o. in_range_if f o s) (sym (ap kind_of e ∙ known)) ∙ p

  pub small_request : s.kind ≡ kind_number Request → s.signer < 16
  small_request e = let p : in_range_as f Request s ≡ true = ranged Request e refl in grind (arith, nat_tests)

  pub small_question : s.kind ≡ kind_number Question → s.signer < 16
  small_question e = let p : in_range_as f Question s ≡ true = ranged Question e refl in grind (arith, nat_tests)

  pub small_show_grant : s.kind ≡ kind_number ShowGrant → s.signer < 16
  small_show_grant e = let p : in_range_as f ShowGrant s ≡ true = ranged ShowGrant e refl in grind (arith, nat_tests)

  pub small_show_cert : s.kind ≡ kind_number ShowCert → s.signer < 16
  small_show_cert e = let p : in_range_as f ShowCert s ≡ true = ranged ShowCert e refl in grind (arith, nat_tests)

  -- of the kinds that sites sign
  pub site_grant : s.kind ≡ kind_number Grant → s.signer < 3 * f + 1
  site_grant e = let p : in_range_as f Grant s ≡ true = ranged Grant e refl in grind (arith, nat_tests)

  pub site_start : s.kind ≡ kind_number Start → s.signer < 3 * f + 1
  site_start e = let p : in_range_as f Start s ≡ true = ranged Start e refl in grind (arith, nat_tests)
