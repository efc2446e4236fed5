use borrow.Author.Tests.{tests}
use Rattle.std.proofs.Common.{◌≡◌, ℕ, true, false, ltb, rules}
use Rattle.std.proofs.lemmas.Iterator.{first_from_Range}
use Rattle.message.proofs.Found.{found_first}
use Rattle.message.specs.Records.{records, statement_at}
use Rattle.message.proofs.rounds.first_above.Goals as goal

pub returns-clause-value : goal.returns-clause-value
returns-clause-value c =
    let part = c.args.starts.now.bytes.now in
    let test = λ (k : ℕ). ltb c.args.target (statement_at part k).place in
    found_first test _ (records part) c.find.result c.count.ensures
    (first_from_Range _ _ _ c.find.result (λ k. test k ≡ true) (λ k. test k ≡ false) c.find.ensures.ran (λ x q call. search (rules, tests)) (λ x q call. search (rules, tests)))
