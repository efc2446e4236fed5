use borrow.Author.Tests.{tests}
use Rattle.std.proofs.Common.{◌≡◌, ◌+◌, true, false, rules, arith}
use Rattle.std.proofs.lemmas.Iterator.{cases_from_all, YieldsList-from_range}
use Rattle.message.proofs.OneKind.{all_told}
use Rattle.message.specs.Forms.{is_kind}
use Rattle.message.proofs.telling.all_kind.Goals as goal

pub returns : goal.returns
returns c =
    let first = c.args.first in
    let test = is_kind c.args.kind c.args.message.now in
    all_told c.args.kind c.args.message.now first c.args.n c.all.result
    (cases_from_all _ _ _ (λ i. test i ≡ true) (λ i. test i ≡ false) c.all.ensures.ran (YieldsList-from_range first (first + c.args.n) c.args.n (search rules) (omega arith))
    (λ x q call. search (rules, tests)) (λ x q call. search (rules, tests)))
