-- What the class has so far and what the rest of the order adds to it are the whole class.
use Rattle.std.proofs.Common.{◌≡◌, ◌≤◌, ◌++◌, drop, filter}
use Rattle.finder.proofs.replies.Replies.class.Given as goal
use Rattle.finder.specs.Members.{members}
use Rattle.finder.specs.Replies.{together}

abbrev pub invariant-loop-site : goal.invariant-loop-site
invariant-loop-site g l =
    (l.class.count ≤ l.site-index)
    × (members l.class
    ++ filter
    (together (g.L.Likeness.counted l.self.likeness.now) (g.L.Likeness.likened l.self.likeness.now) l.self.replies.now l.lead)
    (drop l.site-index l.order)
    ≡ filter
    (together (g.L.Likeness.counted l.self.likeness.now) (g.L.Likeness.likened l.self.likeness.now) l.self.replies.now l.lead)
    l.order)
