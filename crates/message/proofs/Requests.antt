-- The requests of a part, one by one.
use Rattle.std.proofs.Common.{◌≡◌, ℕ, zero, suc, ◌+◌, ◌<◌, ltb, List, length, get_or, sym, refl, ap, ◌∙◌, arith}
use Rattle.std.proofs.lemmas.Bool.{cond-true, lt-ltb}
use Rattle.message.specs.Records.{records, statement_at, stated, no_statement}
use Rattle.message.specs.Said.{request_of}
use Rattle.message.specs.Saying.{requests_from, requests_in}
use Rattle.message.specs.declared.request.Request.{Request}

length_from : (m : List ℕ) (i n : ℕ) → length (requests_from m i n) ≡ n
unfolding requests_from
length_from m i zero = refl
length_from m i (suc n) = ap suc (length_from m (i + 1) n)

at_from : (m : List ℕ) (i n k : ℕ) (d : Request) → k < n → get_or (requests_from m i n) k d ≡ request_of (statement_at m (i + k))
unfolding requests_from
at_from m i zero k d less = absurd (omega arith)
at_from m i (suc n) zero d less = let e : i ≡ i + 0 = omega arith in ap (λ j. request_of (statement_at m j)) e
at_from m i (suc n) (suc k) d less =
    let e : i + 1 + k ≡ i + suc k = omega arith in
    at_from m (i + 1) n k d (omega arith) ∙ ap (λ j. request_of (statement_at m j)) e

-- there are as many as the part has records
pub length-requests : (part : List ℕ) → length (requests_in part) ≡ records part
length-requests part = length_from part 0 (records part)

-- request k is what record k states
pub requests_at : (part : List ℕ) (k : ℕ) (d : Request) → k < records part → get_or (requests_in part) k d ≡ request_of (stated part k)
requests_at part k d less =
    let z : 0 + k ≡ k = omega arith in
    at_from part 0 (records part) k d less
    ∙ ap (λ j. request_of (statement_at part j)) z
    ∙ ap request_of (sym (cond-true (ltb k (records part)) (statement_at part k) no_statement (lt-ltb k (records part) less)))
