-- A certificate copied over zeros.
use Rattle.std.proofs.Common.{◌≡◌, ℕ, ◌-◌, min, List, ◌++◌, length, take, drop, replicate, arith}
use Rattle.std.proofs.lemmas.List.{drop-replicate}
use Rattle.site.specs.Ledgers.{kept_bytes}

pub over_zeros : (certificate copied : List ℕ) (n : ℕ) → n ≡ min (length certificate) 880 → copied ≡ take (n - 0) certificate →
    copied ++ drop (n - 0) (replicate 880 0) ≡ kept_bytes certificate
over_zeros certificate copied n is-n is-copied =
    let same : n - 0 ≡ n = omega arith in
    let rest = drop-replicate {X = ℕ} n 880 0 in
    rw (is-copied, same, rest, is-n)
