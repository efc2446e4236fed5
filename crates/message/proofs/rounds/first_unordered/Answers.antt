use borrow.Author.Tests.{tests}
use Rattle.std.proofs.Common.{◌≡◌, ◌-◌, ℕ, true, false, leb, rules}
use Rattle.std.proofs.lemmas.Iterator.{first_from_Range}
use Rattle.message.proofs.Found.{found_from}
use Rattle.message.specs.Records.{records, statement_at}
use Rattle.message.proofs.rounds.first_unordered.Goals as goal

pub returns-clause-value : goal.returns-clause-value
returns-clause-value c =
    let part = c.args.requests.now.bytes.now in
    let test = λ (k : ℕ). leb (statement_at part k).client (statement_at part (k - 1)).client in
    found_from test 1 _ (records part) c.find.result c.count.ensures
    (first_from_Range _ _ _ c.find.result (λ k. test k ≡ true) (λ k. test k ≡ false) c.find.ensures.ran (λ x q call. search (rules, tests)) (λ x q call. search (rules, tests)))
