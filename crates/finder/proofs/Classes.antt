-- Sorted lists, and what a filter leaves of one.
use Rattle.std.proofs.Common.{◌≡◌, ℕ, zero, suc, ◌<◌, ◌≤◌, Bool, true, List, [], ◌∷◌, length, take, filter, sym, subst, inl, inr, arith}
use Rattle.finder.proofs.Preference.{In, before_never, before_trans}
use Rattle.finder.specs.Law.{AtMost, Pairs}
use Rattle.finder.specs.Order.{Before}
use Rattle.std.proofs.ByRecursion.{All-take, All-weaker}
use Rattle.std.proofs.lemmas.Bool.{both_ways, cond_both}
use Rattle.std.specs.List.{AllByRecursion as All}

pub all_in : (P : ℕ → Type 0) (xs : List ℕ) (i : ℕ) → All P xs → In i xs → P i
all_in P [] i all there = absurd there
all_in P (x ∷ xs) i (here, all) (inl e) = subst P (sym e) here
all_in P (x ∷ xs) i (here, all) (inr there) = all_in P xs i all there

pub all_both :
    (P Q S : ℕ → Type 0) → ((i : ℕ) → P i → Q i → S i) → (xs : List ℕ) → All P xs → All Q xs → All S xs
all_both P Q S join [] ps qs = tt
all_both P Q S join (x ∷ xs) (p, ps) (q, qs) = (join x p q, all_both P Q S join xs ps qs)

pub pairs_take : (R : ℕ → ℕ → Type 0) (n : ℕ) (xs : List ℕ) → Pairs R xs → Pairs R (take n xs)
pairs_take R zero xs pairs = tt
pairs_take R (suc n) [] pairs = tt
pairs_take R (suc n) (x ∷ xs) (here, pairs) = (All-take (R x) n xs here, pairs_take R n xs pairs)

pub pairs_from_all :
    (P : ℕ → Type 0) (R : ℕ → ℕ → Type 0) → ((i j : ℕ) → P i → P j → R i j) → (xs : List ℕ) → All P xs → Pairs R xs
pairs_from_all P R join [] all = tt
pairs_from_all P R join (x ∷ xs) (here, all) =
    (All-weaker P (R x) (λ j there. join x j here there) xs all, pairs_from_all P R join xs all)

pub kept_all : (P : ℕ → Type 0) (test : ℕ → Bool) (xs : List ℕ) → All P xs → All P (filter test xs)
kept_all P test [] all = tt
kept_all P test (x ∷ xs) (here, all) =
    let rest : All P (filter test xs) = kept_all P test xs all in
    cond_both (test x) (x ∷ filter test xs) (filter test xs) (λ l. All P l) (λ _. (here, rest)) (λ _. rest)

pub kept_passes : (test : ℕ → Bool) (xs : List ℕ) → All (λ i. test i ≡ true) (filter test xs)
kept_passes test [] = tt
kept_passes test (x ∷ xs) =
    let rest : All (λ i. test i ≡ true) (filter test xs) = kept_passes test xs in
    cond_both
    (test x)
    (x ∷ filter test xs)
    (filter test xs)
    (λ l. All (λ i. test i ≡ true) l)
    (λ passes. (passes, rest))
    (λ _. rest)

pub kept_pairs : (R : ℕ → ℕ → Type 0) (test : ℕ → Bool) (xs : List ℕ) → Pairs R xs → Pairs R (filter test xs)
kept_pairs R test [] pairs = tt
kept_pairs R test (x ∷ xs) (here, pairs) =
    let rest : Pairs R (filter test xs) = kept_pairs R test xs pairs in
    cond_both
    (test x)
    (x ∷ filter test xs)
    (filter test xs)
    (λ l. Pairs R l)
    (λ _. (kept_all (R x) test xs here, rest))
    (λ _. rest)

pub kept_in : (test : ℕ → Bool) (xs : List ℕ) (i : ℕ) → In i xs → test i ≡ true → In i (filter test xs)
kept_in test [] i there passes = absurd there
kept_in test (x ∷ xs) i (inl e) passes =
    cond_both
    (test x)
    (x ∷ filter test xs)
    (filter test xs)
    (λ l. In i l)
    (λ _. inl e)
    (λ fails. absurd (both_ways (test x) fails (subst (λ j. test j ≡ true) e passes)))
kept_in test (x ∷ xs) i (inr there) passes =
    let rest : In i (filter test xs) = kept_in test xs i there passes in
    cond_both (test x) (x ∷ filter test xs) (filter test xs) (λ l. In i l) (λ _. inr rest) (λ _. rest)

-- sites that all come after a site are not that site
not_first :
    (i : ℕ) (rest sites : List ℕ) → All (Before i) sites → All (λ j. In j (i ∷ rest)) sites → All (λ j. In j rest) sites
not_first i rest =
    all_both
    (Before i)
    (λ j. In j (i ∷ rest))
    (λ j. In j rest)
    (λ j after there. elim there [ inl e ↦ absurd (before_never i (subst (Before i) e after)) | inr later ↦ later ])

-- A sorted list whose members all stand in another sorted list is no longer than that, and the other's front of its
-- length is at most the list.
pub front_least :
    (all sites : List ℕ) → Pairs Before all → Pairs Before sites → All (λ i. In i all) sites →
    (length sites ≤ length all) × AtMost (take (length sites) all) sites
front_least [] [] sorted ordered there = (omega arith, tt)
front_least [] (i ∷ sites) sorted ordered there = absurd there.0
front_least (a ∷ all) [] sorted ordered there = (omega arith, tt)
front_least (a ∷ all) (i ∷ sites) (above, sorted) (after, ordered) (inl e, there) =
    let past : All (Before a) sites = subst (λ j. All (Before j) sites) e after in
    let rest = front_least all sites sorted ordered (not_first a all sites past there) in
    (omega (arith, rest.0), inr (sym e, rest.1))
front_least (a ∷ all) (i ∷ sites) (above, sorted) (after, ordered) (inr later, there) =
    let ai : Before a i = all_in (Before a) all i above later in
    let past : All (Before a) sites = All-weaker (Before i) (Before a) (λ j ij. before_trans a i j ai ij) sites after in
    let rest = front_least all (i ∷ sites) sorted (after, ordered) (later, not_first a all sites past there) in
    (omega (arith, rest.0), inl ai)

-- A front of a sorted list that holds i is at most any list that begins after i.
pub front_before :
    (all : List ℕ) (i j : ℕ) (n : ℕ) (sites : List ℕ) → Pairs Before all → In i all → Before i j → 0 < n →
    AtMost (take n all) (j ∷ sites)
front_before [] i j n sites sorted there ij some = absurd there
front_before (a ∷ all) i j zero sites sorted there ij some = absurd (omega arith)
front_before (a ∷ all) i j (suc n) sites sorted (inl e) ij some = inl (subst (λ k. Before k j) e ij)
front_before (a ∷ all) i j (suc n) sites (above, sorted) (inr later) ij some =
    inl (before_trans a i j (all_in (Before a) all i above later) ij)
