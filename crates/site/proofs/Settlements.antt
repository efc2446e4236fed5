-- A settlement's table beside the list of its claims.
use Rattle.std.proofs.Common.{◌≡◌, ℕ, zero, suc, ◌+◌, ◌^◌, ◌<◌, ◌≤◌, cond, eqb, ltb, List, [], ◌∷◌, length, set, is_some, Some, None, Option, sym, refl, subst, arith}
use Rattle.std.proofs.lemmas.List.Sums.{sum_by-cons}
use Rattle.std.proofs.lemmas.List.{length-replicate}
use Rattle.std.proofs.lemmas.Bool.{cond_both, eqb-true}
use Rattle.record.specs.Limits.{highest_round}
use Rattle.record.specs.declared.fields.Claim.{Claim as Claimed}
use Rattle.message.specs.declared.request.Request.{Request}
use Rattle.protocol.specs.Book.{Begins, whole, more, Line, line_none, line_more}
use Rattle.protocol.specs.Moves as moves
use Rattle.protocol.specs.Words.{Claim}
use Rattle.protocol.proofs.Lists.{begins_trans}
use Rattle.site.specs.Settling.{claim_for, mark_claim, pending, all_pending, how_many, last_place, request_at, settled_at}
use Rattle.site.specs.Tables.{tabled, no_entries}
use Rattle.site.specs.declared.state.Done.{Done}
use Rattle.site.specs.declared.state.Settlement.{Settlement}
use Rattle.site.proofs.Likeness.{told, Sized, SizedRequest, SizedTable, SizedRequests, listed, settled_list}

-- The list of a table -------------------------------------------------------------------------------------------

listed_long : (rs : List (Option Request)) (v at : ℕ) (g : List Claim) → length (listed rs v at g) ≡ how_many rs + length g
listed_long [] v at g = omega arith
listed_long (None ∷ rs) v at g = listed_long rs v at g
listed_long (Some r ∷ rs) v at g =
    let one = sum_by-cons (λ x. cond (is_some x) 1 0) (Some r) rs in
    omega (arith, one, listed_long rs v (at + 1) (told (claim_for r v at) ∷ g))

listed_begins : (rs : List (Option Request)) (v at : ℕ) (g : List Claim) → Begins g (listed rs v at g)
listed_begins [] v at g = whole
listed_begins (None ∷ rs) v at g = listed_begins rs v at g
listed_begins (Some r ∷ rs) v at g = begins_trans (more whole) (listed_begins rs v (at + 1) (told (claim_for r v at) ∷ g))

listed_line : (rs : List (Option Request)) (v t at : ℕ) (g : List Claim) → at ≡ suc (t + length g) → Line (λ c. c.round ≡ v) t g → Line (λ c. c.round ≡ v) t (listed rs v at g)
listed_line [] v t at g e l = l
listed_line (None ∷ rs) v t at g e l = listed_line rs v t at g e l
listed_line (Some r ∷ rs) v t at g e l = listed_line rs v t (at + 1) (told (claim_for r v at) ∷ g) (omega arith) (line_more e refl l)

-- A claim that a table has for a place is in its list.
pub record Found (g : List Claim) (c : Claimed) : Type 0 where
  pub rest : List Claim
  pub there : Begins (told c ∷ rest) g
  pub sized : Sized c

request_found : (rs : List (Option Request)) (v at place : ℕ) (g : List Claim) (c : Claimed) → SizedTable rs → v ≤ highest_round → place < 2 ^ 32 →
    request_at rs v at place ≡ Some c → Found (listed rs v at g) c
request_found [] v at place g c z lv lp e = grind arith
request_found (None ∷ rs) v at place g c z lv lp e = request_found rs v at place g c z lv lp e
request_found (Some r ∷ rs) v at place g c z lv lp e =
    cond_both (eqb at place) (Some (claim_for r v place)) (request_at rs v (at + 1) place) (λ x. x ≡ Some c → Found (listed (Some r ∷ rs) v at g) c)
    (λ b. here (eqb-true at place b)) (λ b. request_found rs v (at + 1) place (told (claim_for r v at) ∷ g) c z.1 lv lp) e
  where
    here : at ≡ place → Some (claim_for r v place) ≡ Some c → Found (listed (Some r ∷ rs) v at g) c
    here p h =
        let same : c ≡ claim_for r v at = cc in
        subst (Found (listed (Some r ∷ rs) v at g)) (sym same) (record {
          rest = g;
          there = listed_begins rs v (at + 1) (told (claim_for r v at) ∷ g);
          sized = record { number = z.0.number; round = omega arith; place = omega arith; operation = z.0.operation };
        })

module _ (S : Settlement) (v : ℕ) where
  pub settled_long : S.target + length (settled_list S v) ≡ last_place S
  settled_long = let k = listed_long S.requests v (S.target + 2) (told (mark_claim v (S.target + 1)) ∷ []) in omega arith

  pub settles : moves.Settlement v S.target (settled_list S v)
  settles = record {
    some_claim = (let k = listed_long S.requests v (S.target + 2) (told (mark_claim v (S.target + 1)) ∷ []) in omega arith);
    in_line = listed_line S.requests v S.target (S.target + 2) (told (mark_claim v (S.target + 1)) ∷ []) (omega arith) (line_more (omega arith) refl line_none);
  }

  pub settled_found : (place : ℕ) (c : Claimed) → SizedTable S.requests → v ≤ highest_round → place < 2 ^ 32 → settled_at (Some S) v place ≡ Some c → Found (settled_list S v) c
  settled_found place c z lv lp e =
      cond_both (eqb place (S.target + 1)) (Some (mark_claim v place)) (request_at S.requests v (S.target + 2) place) (λ x. x ≡ Some c → Found (settled_list S v) c)
      (λ b. here (eqb-true place (S.target + 1) b)) (λ b. request_found S.requests v (S.target + 2) place (told (mark_claim v (S.target + 1)) ∷ []) c z lv lp) e
    where
      here : place ≡ S.target + 1 → Some (mark_claim v place) ≡ Some c → Found (settled_list S v) c
      here p h =
          let same : c ≡ mark_claim v (S.target + 1) = cc in
          subst (Found (settled_list S v)) (sym same) (record {
            rest = [];
            there = listed_begins S.requests v (S.target + 2) (told (mark_claim v (S.target + 1)) ∷ []);
            sized = record { number = omega arith; round = omega arith; place = omega arith; operation = length-replicate {A = ℕ} 16 0 };
          })

-- Sizes of requests in tables -----------------------------------------------------------------------------------

sized_set : (rs : List (Option Request)) (k : ℕ) (r : Request) → SizedTable rs → SizedRequest r → SizedTable (set rs k (Some r))
sized_set [] k r z x = z
sized_set (None ∷ rs) zero r z x = (x, z)
sized_set (Some p ∷ rs) zero r z x = (x, z.1)
sized_set (None ∷ rs) (suc k) r z x = sized_set rs k r z x
sized_set (Some p ∷ rs) (suc k) r z x = (z.0, sized_set rs k r z.1 x)

sized_tabled : (rs : List Request) (table : List (Option Request)) → SizedTable table → SizedRequests rs → SizedTable (tabled rs table)
sized_tabled [] table z x = z
sized_tabled (r ∷ rs) table z x = sized_tabled rs (set table r.client (Some r)) (sized_set table r.client r z x.0) x.1

pub sized_fresh : (rs : List Request) → SizedRequests rs → SizedTable (tabled rs no_entries)
sized_fresh rs x = sized_tabled rs no_entries (tt) x

sized_one : (r : Request) (d : Option Done) (rest : List (Option Request)) → SizedRequest r → SizedTable rest → SizedTable (pending (Some r) d ∷ rest)
sized_one r None rest x z = (x, z)
sized_one r (Some d) rest x z = cond_both (ltb d.claim.number r.number) (Some r) None (λ o. SizedTable (o ∷ rest)) (λ b. (x, z)) (λ b. z)

pub sized_pending : (rs : List (Option Request)) (ds : List (Option Done)) → SizedTable rs → SizedTable (all_pending rs ds)
sized_pending [] ds z = z
sized_pending (None ∷ rs) [] z = sized_pending rs [] z
sized_pending (None ∷ rs) (d ∷ ds) z = sized_pending rs ds z
sized_pending (Some r ∷ rs) [] z = sized_one r None (all_pending rs []) z.0 (sized_pending rs [] z.1)
sized_pending (Some r ∷ rs) (d ∷ ds) z = sized_one r d (all_pending rs ds) z.0 (sized_pending rs ds z.1)
