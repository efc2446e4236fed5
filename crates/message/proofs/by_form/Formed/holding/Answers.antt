use Rattle.std.proofs.Common.{◌+◌, ap, ◌∙◌}
use Rattle.message.proofs.HeldParts.{held_resolve, held_round, parts_round}
use Rattle.message.specs.Records.{group}
use Rattle.message.proofs.by_form.Formed.holding.Goals as goal

pub returns-in-Resolve : goal.returns-in-Resolve
returns-in-Resolve c =
    let m = c.args.self.now.message.now in
    let q = c.quorum-q.ensures in
    let grants = c.of.ensures.bytes ∙ ap (group m 0) q in
    let request = c.of-in-Resolve.ensures.bytes ∙ ap (λ i. group m i 1) q in
    record {
      says = held_resolve c.args.self.now.f m c.args.self.now.form _ _ c.args.self.now.readable c.in-Resolve.is grants request;
      parts = ((c.of.ensures.first, grants), (c.of-in-Resolve.ensures.first ∙ q, request));
    }

pub returns-in-Round : goal.returns-in-Round
returns-in-Round c =
    let m = c.args.self.now.message.now in
    let q = c.quorum-q.ensures in
    let starts = c.of-in-Round.ensures.bytes ∙ ap (group m 0) q in
    let grants = c.of-in-Round-2.ensures.bytes ∙ ap (λ i. group m i c.in-Round.grants) q in
    let requests = c.of-in-Round-3.ensures.bytes ∙ ap (λ i. group m (i + c.in-Round.grants) c.in-Round.requests) q in
    record {
      says = held_round c.args.self.now.f m c.args.self.now.form c.in-Round.grants c.in-Round.requests _ _ _ c.args.self.now.readable c.in-Round.is starts grants requests;
      parts = parts_round c.args.self.now.f m c.args.self.now.form c.in-Round.grants c.in-Round.requests _ _ _ _ _ _ c.args.self.now.readable c.in-Round.is starts grants requests
          c.of-in-Round.ensures.first (c.of-in-Round-2.ensures.first ∙ q) (c.of-in-Round-3.ensures.first ∙ ap (λ i. i + c.in-Round.grants) q);
    }
