-- The records of a group are records of the message.
use Rattle.std.proofs.Common.{◌≡◌, ℕ, ◌+◌, ◌-◌, ◌*◌, ◌<◌, ◌≤◌, List, length, take, drop, ap, ◌∙◌, arith}
use Rattle.std.proofs.lemmas.List.{length-take-le, length-drop, drop-take, take-take, drop-drop}
use Rattle.record.specs.Layout.{statement_of}
use Rattle.message.specs.Records.{records, record_at, statement_at, group}

module _ (m : List ℕ) (first n : ℕ) (within : first + n ≤ records m) where
  pub length-group : length (group m first n) ≡ 80 * n
  length-group =
      let l : length (drop (80 * first) m) ≡ length m - 80 * first = length-drop (80 * first) m in
      length-take-le (80 * n) (drop (80 * first) m) (omega arith)

  pub records-group : records (group m first n) ≡ n
  records-group = let l = length-group in omega arith

pub record_group : (m : List ℕ) (first n k : ℕ) → k < n → record_at (group m first n) k ≡ record_at m (first + k)
record_group m first n k less =
    let rest = drop (80 * first) m in
    let e : 80 * n ≡ 80 * k + (80 * n - 80 * k) = omega arith in
    let e' : 80 * first + 80 * k ≡ 80 * (first + k) = omega arith in
    ap (λ j. take 80 (drop (80 * k) (take j rest))) e
    ∙ ap (take 80) (drop-take (80 * k) (80 * n - 80 * k) rest)
    ∙ take-take 80 (80 * n - 80 * k) (drop (80 * k) rest) (omega arith)
    ∙ ap (take 80) (drop-drop (80 * k) (80 * first) m)
    ∙ ap (λ j. take 80 (drop j m)) e'

pub statement_group : (m : List ℕ) (first n k : ℕ) → k < n → statement_at (group m first n) k ≡ statement_at m (first + k)
statement_group m first n k less = ap statement_of (record_group m first n k less)
