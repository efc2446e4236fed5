-- What the rest of the proof uses of the order of preference, and all that it uses.
use Rattle.std.proofs.Common.{◌≡◌, ℕ, ◌<◌, ◌⊎◌, List, [], ◌∷◌, arith, lit<}
use Rattle.finder.specs.Law.{Pairs}
use Rattle.finder.specs.Order.{Before, order}
use Rattle.std.specs.List.{AllByRecursion as All}

-- a site stands in a list
abbrev pub In : ℕ → List ℕ → Type 0
In i [] = ⊥
In i (j ∷ rest) = (i ≡ j) ⊎ In i rest

pub before_trans : (i j k : ℕ) → Before i j → Before j k → Before i k
before_trans i j k ij jk = omega arith

pub before_never : (i : ℕ) → Before i i → ⊥
before_never i ii = omega arith

-- each before the next
abbrev Chain : ℕ → List ℕ → Type 0
Chain i [] = Unit {0}
Chain i (j ∷ rest) = Before i j × Chain j rest

chain_lower : (i j : ℕ) (rest : List ℕ) → Before i j → Chain j rest → All (Before i) rest
chain_lower i j [] ij ordered = tt
chain_lower i j (k ∷ rest) ij (jk, ordered) =
    let ik : Before i k = before_trans i j k ij jk in (ik, chain_lower i k rest ik ordered)

chain_pairs : (i : ℕ) (rest : List ℕ) → Chain i rest → Pairs Before (i ∷ rest)
chain_pairs i [] ordered = (tt, tt)
chain_pairs i (j ∷ rest) (ij, ordered) = ((ij, chain_lower i j rest ij ordered), chain_pairs j rest ordered)

-- each site of the order goes before all that follow it
pub order_sorted : Pairs Before order
order_sorted =
    chain_pairs 0 (1 ∷ 2 ∷ 3 ∷ 4 ∷ 5 ∷ 6 ∷ 7 ∷ 8 ∷ 9 ∷ 10 ∷ 11 ∷ 12 ∷ 13 ∷ 14 ∷ 15 ∷ [])
    (lit< tt, (lit< tt, (lit< tt, (lit< tt, (lit< tt, (lit< tt, (lit< tt, (lit< tt, (lit< tt, (lit< tt, (lit< tt, (lit< tt, (lit< tt, (lit< tt, (lit< tt, tt)))))))))))))))

-- the order names only sites
pub order_sound : All (λ i. i < 16) order
order_sound = (lit< tt, (lit< tt, (lit< tt, (lit< tt, (lit< tt, (lit< tt, (lit< tt, (lit< tt, (lit< tt, (lit< tt, (lit< tt, (lit< tt, (lit< tt, (lit< tt, (lit< tt, (lit< tt, tt))))))))))))))))

-- and all of them
pub order_complete : (i : ℕ) → i < 16 → In i order
order_complete i h = grind arith
