-- What a move does to the total of the accounts.
use Rattle.std.proofs.Common.{◌≡◌, ℕ, ◌+◌, ◌-◌, ◌<◌, ◌≤◌, List, length, arith, length-set}
use Rattle.std.proofs.lemmas.List.Sums.{sum_by-set, get_or-le-sum_by}
use Rattle.object.specs.Accounts.{holding, total, less, more, moved}

-- An amount that leaves an account leaves the total.
pub less_total : (xs : List ℕ) (i n : ℕ) → i < length xs → n ≤ holding xs i → total (less xs i n) + n ≡ total xs
less_total xs i n h enough = omega (arith, sum_by-set (λ x. x) xs i (holding xs i - n) 0 h)

-- An amount that comes to an account comes to the total.
pub more_total : (xs : List ℕ) (i n : ℕ) → i < length xs → total (more xs i n) ≡ total xs + n
more_total xs i n h = omega (arith, sum_by-set (λ x. x) xs i (holding xs i + n) 0 h)

-- A move keeps the total.
pub moved_total : (xs : List ℕ) (i j n : ℕ) →
    i < length xs → j < length xs → n ≤ holding xs i → total (moved xs i j n) ≡ total xs
moved_total xs i j n hi hj enough =
    let l : j < length (less xs i n) = simp length-set hj in
    omega (arith, less_total xs i n hi enough, more_total (less xs i n) j n l)

-- An account that an amount comes to never holds more than the total.
pub moved_fits : (xs : List ℕ) (i j n : ℕ) →
    i < length xs → j < length xs → n ≤ holding xs i → holding (less xs i n) j + n ≤ total xs
moved_fits xs i j n hi hj enough =
    let l : j < length (less xs i n) = simp length-set hj in
    omega (arith, less_total xs i n hi enough, get_or-le-sum_by (λ x. x) (less xs i n) j 0 l)
