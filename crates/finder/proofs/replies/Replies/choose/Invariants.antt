-- The leads that are left give what all of them give.
use Rattle.finder.proofs.replies.Replies.choose.Given as goal
use Rattle.finder.specs.Groups.{led_by}
use Rattle.finder.specs.Replies.{together}
use Rattle.std.proofs.Common.{◌≡◌, drop}

abbrev pub invariant-loop-lead : goal.invariant-loop-lead
invariant-loop-lead g l =
    led_by
    (together (g.L.Likeness.counted l.self.likeness.now) (g.L.Likeness.likened l.self.likeness.now) l.self.replies.now)
    l.order
    l.q
    (drop l.lead-index l.order)
    ≡ led_by
    (together (g.L.Likeness.counted l.self.likeness.now) (g.L.Likeness.likened l.self.likeness.now) l.self.replies.now)
    l.order
    l.q
    l.order
