-- Loops over tables by client.
use Rattle.std.proofs.Common.{◌≡◌, ℕ, zero, suc, ◌+◌, ◌-◌, ◌<◌, ◌≤◌, cond, eqb, ltb, List, [], ◌∷◌, length, get_or, drop, set, Some, None, Option, sym, refl, ap, ◌∙◌, arith}
use Rattle.std.proofs.lemmas.List.{at_drop_more, ext_get_or}
use Rattle.std.proofs.lemmas.Bool.{cond-true, cond-false, eq-eqb, ne_eqb, lt-ltb}
use Rattle.message.specs.Records.{records, statement_at, stated, no_statement}
use Rattle.message.specs.Said.{request_of}
use Rattle.message.specs.Saying.{requests_from}
use Rattle.message.specs.declared.request.Request.{Request}
use Rattle.record.specs.declared.fields.Claim.{Claim}
use Rattle.site.specs.Settling.{claim_for, pending, all_pending, request_at}
use Rattle.site.specs.Tables.{tabled}
use Rattle.site.specs.declared.state.Done.{Done}

-- One entry more is looked at.
module _ (rs : List (Option Request)) (i round at place : ℕ) (within : i < length rs) where
  looked_none : get_or rs i None ≡ None → request_at (drop i rs) round at place ≡ request_at (drop (i + 1) rs) round at place
  looked_none e =
      let next : request_at (drop i rs) round at place ≡ request_at (get_or rs i None ∷ drop (i + 1) rs) round at place = at_drop_more (λ l. request_at l round at place) rs i None within in
      next ∙ ap (λ x. request_at (x ∷ drop (i + 1) rs) round at place) e

  looked_some : (r : Request) → get_or rs i None ≡ Some r →
      request_at (drop i rs) round at place ≡ cond (eqb at place) (Some (claim_for r round place)) (request_at (drop (i + 1) rs) round (at + 1) place)
  looked_some r e =
      let next : request_at (drop i rs) round at place ≡ request_at (get_or rs i None ∷ drop (i + 1) rs) round at place = at_drop_more (λ l. request_at l round at place) rs i None within in
      next ∙ ap (λ x. request_at (x ∷ drop (i + 1) rs) round at place) e

  pub passed_none : get_or rs i None ≡ None → {whole : Option Claim} → request_at (drop i rs) round at place ≡ whole → request_at (drop (i + 1) rs) round at place ≡ whole
  passed_none e so_far = sym (looked_none e) ∙ so_far

  pub passed_some : (r : Request) → get_or rs i None ≡ Some r → (at ≡ place → ⊥) → {whole : Option Claim} →
      request_at (drop i rs) round at place ≡ whole → request_at (drop (i + 1) rs) round (at + 1) place ≡ whole
  passed_some r e other so_far =
      sym (cond-false (eqb at place) (Some (claim_for r round place)) (request_at (drop (i + 1) rs) round (at + 1) place) (ne_eqb at place other)) ∙ sym (looked_some r e) ∙ so_far

  pub found_some : (r : Request) → get_or rs i None ≡ Some r → at ≡ place → {whole : Option Claim} →
      request_at (drop i rs) round at place ≡ whole → Some (claim_for r round place) ≡ whole
  found_some r e same so_far =
      sym (cond-true (eqb at place) (Some (claim_for r round place)) (request_at (drop (i + 1) rs) round (at + 1) place) (eq-eqb at place same)) ∙ sym (looked_some r e) ∙ so_far

-- The entries of a table of pending requests.
pub pending_at : (rs : List (Option Request)) (ds : List (Option Done)) (k : ℕ) → get_or (all_pending rs ds) k None ≡ pending (get_or rs k None) (get_or ds k None)
pending_at [] ds k = refl
pending_at (r ∷ rs) [] zero = refl
pending_at (r ∷ rs) (d ∷ ds) zero = refl
pending_at (r ∷ rs) [] (suc k) = pending_at rs [] k
pending_at (r ∷ rs) (d ∷ ds) (suc k) = pending_at rs ds k

pub pending_long : (rs : List (Option Request)) (ds : List (Option Done)) → length (all_pending rs ds) ≡ length rs
pending_long [] ds = refl
pending_long (r ∷ rs) [] = ap suc (pending_long rs [])
pending_long (r ∷ rs) (d ∷ ds) = ap suc (pending_long rs ds)

-- A table that has at each entry what is still to be done there has all that is.
pub filled_in : (out rs : List (Option Request)) (ds : List (Option Done)) → length out ≡ length rs →
    ((k : ℕ) → k < length rs → get_or out k None ≡ pending (get_or rs k None) (get_or ds k None)) → out ≡ all_pending rs ds
filled_in out rs ds long each =
    ext_get_or None out (all_pending rs ds) (long ∙ sym (pending_long rs ds)) (λ k within. each k (omega (arith, long)) ∙ sym (pending_at rs ds k))

-- One request more is entered.
next_request : (m : List ℕ) (i n : ℕ) → i < n → requests_from m i (n - i) ≡ request_of (statement_at m i) ∷ requests_from m (i + 1) (n - (i + 1))
unfolding requests_from
next_request m i n within =
    let one : n - i ≡ suc (n - (i + 1)) = omega arith in
    ap (requests_from m i) one

pub entered : (m : List ℕ) (i : ℕ) (table : List (Option Request)) (whole : List (Option Request)) (r : Request) → i < records m → r ≡ request_of (stated m i) →
    tabled (requests_from m i (records m - i)) table ≡ whole →
    tabled (requests_from m (i + 1) (records m - (i + 1))) (set table r.client (Some r)) ≡ whole
entered m i table whole r within is so_far =
    let there : stated m i ≡ statement_at m i = cond-true (ltb i (records m)) (statement_at m i) no_statement (lt-ltb i (records m) within) in
    let next = next_request m i (records m) within in
    let same : r ≡ request_of (statement_at m i) = is ∙ ap request_of there in
    let all : tabled (request_of (statement_at m i) ∷ requests_from m (i + 1) (records m - (i + 1))) table ≡ whole = ap (λ l. tabled l table) (sym next) ∙ so_far in
    ap (λ (x : Request). tabled (requests_from m (i + 1) (records m - (i + 1))) (set table x.client (Some x))) same ∙ all

pub none_left : (m : List ℕ) (i : ℕ) (table : List (Option Request)) → records m ≤ i → tabled (requests_from m i (records m - i)) table ≡ table
unfolding requests_from
none_left m i table past =
    let none : records m - i ≡ 0 = omega arith in
    ap (λ n. tabled (requests_from m i n) table) none
