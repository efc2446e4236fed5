-- The laws of kinds, claims, statements and likeness.
use Rattle.std.proofs.Common.{◌≡◌, ℕ, zero, suc, ◌+◌, ◌≤◌, true, eqb, List, length, get_or, take, drop, Some, sym, refl, ap, ◌∙◌, arith}
use Rattle.std.specs.Str.{bytes_eq}
use Rattle.std.proofs.lemmas.Bool.{eqb-true, and_parts}
use Rattle.std.proofs.lemmas.Bool.Decides.{nat_tests}
use Rattle.std.proofs.lemmas.Slice.Eq.{bytes_eq-Decides}
use Rattle.std.proofs.lemmas.List.{get_or-take, take_at, take-take, drop-take, length-append}
use Rattle.record.proofs.Digits.{length-bytes_of_number}
use Rattle.record.proofs.Same.{same_statements}
use Rattle.record.specs.Claims.{no_operation}
use Rattle.record.specs.Kinds.{kind_number, kind_of}
use Rattle.record.specs.Laws.{KindsNumbered, ClaimsCompared, AlikeButSigner, AlikeEquivalence, NothingElse, StatementFirst, as_kind}
use Rattle.record.specs.Layout.{statement_bytes}
use Rattle.record.specs.Numbers.{number_at, bytes_at}
use Rattle.record.specs.Ranges.{in_range_as, in_range_if}
use Rattle.record.specs.declared.fields.Claim.{Claim}
use Rattle.record.specs.declared.fields.Statement.{Statement}
use Rattle.record.specs.declared.kind.Kind.{Kind}
use Rattle.record.specs.declared.kind.Kind.TheVariants.{Request, Grant, Question, Answer, ReadAnswer, Start, ShowGrant, ShowCert}

kind_back : (n : ℕ) (k : Kind) → kind_of n ≡ Some k → n ≡ kind_number k
kind_back n k e = grind (arith, nat_tests)

pub kinds_numbered : KindsNumbered
kinds_numbered = record {
  there = λ k. elim k as (λ k. kind_of (kind_number k) ≡ Some k) [ Request ↦ refl | Grant ↦ refl | Question ↦ refl | Answer ↦ refl | ReadAnswer ↦ refl | Start ↦ refl | ShowGrant ↦ refl | ShowCert ↦ refl ];
  back = kind_back;
}

pub claims_compared : ClaimsCompared
claims_compared a b =
    let o = bytes_eq-Decides a.operation b.operation in (
      λ same.
          let eo : a.operation ≡ b.operation = o.0 (grind (arith, nat_tests)) in
          grind (arith, nat_tests),
      λ equal.
          let eo : bytes_eq a.operation b.operation ≡ true = o.1 (ap (λ (x : Claim). x.operation) equal) in
          grind (arith, nat_tests),
    )

pub alike_but_signer : AlikeButSigner
alike_but_signer site a b =
    let o = bytes_eq-Decides a.operation b.operation in (
      λ same.
          let eo : a.operation ≡ b.operation = o.0 (grind (arith, nat_tests)) in
          grind (arith, nat_tests),
      λ equal.
          let eo : bytes_eq a.operation b.operation ≡ true = o.1 (ap (λ (x : Statement). x.operation) equal) in
          grind (arith, nat_tests),
    )

pub alike_equivalence : AlikeEquivalence
alike_equivalence = record {
  reflexive = λ a. (alike_but_signer 0 a a).1 refl;
  symmetric = λ a b h. (alike_but_signer 0 b a).1 (sym ((alike_but_signer 0 a b).0 h));
  transitive = λ a b c h k. (alike_but_signer 0 a c).1 ((alike_but_signer 0 a b).0 h ∙ (alike_but_signer 0 b c).0 k);
}

module _ (f : ℕ) (s : Statement) where
  -- where the kind has no operation
  no_operation_there : bytes_eq s.operation no_operation ≡ true → s.operation ≡ no_operation
  no_operation_there = (bytes_eq-Decides s.operation no_operation).0

  only : (k : Kind) → s.kind ≡ kind_number k → s.spare ≡ 0 → in_range_as f k s ≡ true → s ≡ as_kind k s
  only Request ek es ok = grind (arith, nat_tests)
  only Grant ek es ok = grind (arith, nat_tests)
  only Question ek es ok = grind (arith, nat_tests)
  only Answer ek es ok = grind (arith, nat_tests)
  only ReadAnswer ek es ok = grind (arith, nat_tests)
  only Start ek es ok = let eo : s.operation ≡ no_operation = no_operation_there (grind (arith, nat_tests)) in grind (arith, nat_tests)
  only ShowGrant ek es ok = let eo : s.operation ≡ no_operation = no_operation_there (grind (arith, nat_tests)) in grind (arith, nat_tests)
  only ShowCert ek es ok = let eo : s.operation ≡ no_operation = no_operation_there (grind (arith, nat_tests)) in grind (arith, nat_tests)

pub nothing_else : NothingElse
nothing_else f s k known ok =
    let p = and_parts (eqb s.spare 0) (in_range_if f (kind_of s.kind) s) ok in
    let q : in_range_as f k s ≡ true = rw known at p.1 in
    only f s k (kind_back s.kind k known) (eqb-true _ _ p.0) q

statement_long : (t : Statement) → length t.operation ≡ 16 → length (statement_bytes t) ≡ 48
statement_long t long =
    simp (length-append, length-bytes_of_number) (omega arith)

-- A number that lies in the front of a list is read from the front alone.
number_in_front : (front at size : ℕ) (bytes : List ℕ) → at + size ≤ front → number_at at size (take front bytes) ≡ number_at at size bytes
unfolding number_at
number_in_front front at zero bytes within = refl
number_in_front front at (suc size) bytes within =
    let before : number_at at size (take front bytes) ≡ number_at at size bytes = number_in_front front at size bytes (omega arith) in
    let here : get_or (take front bytes) (at + size) 0 ≡ get_or bytes (at + size) 0 = get_or-take front bytes (at + size) 0 (omega arith) in
    cc

operation_in_front : (bytes : List ℕ) → bytes_at 16 16 (take 48 bytes) ≡ bytes_at 16 16 bytes
operation_in_front bytes = ap (λ l. take 16 l) (drop-take 16 32 bytes) ∙ take-take 16 32 (drop 16 bytes) (omega arith)

pub statement_first : StatementFirst
statement_first = record {
  written = λ r fits. take_at (statement_bytes r.statement) r.seal 48 (statement_long r.statement fits.operation);
  read = λ bytes. same_statements
      (get_or-take 48 bytes 0 0 (omega arith)) (get_or-take 48 bytes 1 0 (omega arith)) (get_or-take 48 bytes 2 0 (omega arith)) (get_or-take 48 bytes 3 0 (omega arith))
      (number_in_front 48 4 4 bytes (omega arith)) (number_in_front 48 8 4 bytes (omega arith)) (number_in_front 48 12 4 bytes (omega arith))
      (operation_in_front bytes) (number_in_front 48 32 8 bytes (omega arith)) (number_in_front 48 40 8 bytes (omega arith));
}
