use borrow.Author.Tests.{tests}
use Rattle.std.proofs.Common.{◌≡◌, ℕ, true, false, not, rules}
use Rattle.std.proofs.lemmas.Iterator.{first_from_Range}
use Rattle.record.specs.Ranges.{in_range}
use Rattle.message.proofs.Found.{found_first}
use Rattle.message.specs.Records.{records, statement_at}
use Rattle.message.proofs.reading.first_outside.Goals as goal

pub returns : goal.returns
returns c =
    let m = c.args.message.now in
    let test = λ (i : ℕ). not (in_range c.args.f (statement_at m i)) in
    found_first test _ (records m) c.find.result c.records.ensures
    (first_from_Range _ _ _ c.find.result (λ i. test i ≡ true) (λ i. test i ≡ false) c.find.ensures.ran (λ x q call. search (rules, tests)) (λ x q call. search (rules, tests)))
