use Rattle.finder.proofs.Quorums.{finder_best}
use Rattle.finder.proofs.finding.find.Goals as goal
use Rattle.finder.specs.Groups.{best_group}
use Rattle.finder.specs.Members.{members}
use Rattle.finder.specs.Replies.{together}
use Rattle.std.specs.Option.{option_map}
use Rattle.finder.specs.Groups.{led_by}
use Rattle.finder.specs.Order.{order}
use Rattle.std.proofs.Common.{◌≡◌, ℕ, Bool, List, ap, ◌∙◌}

-- over the order of preference, the leads give the finder's group
whole_order :
    (together : ℕ → ℕ → Bool) (q : ℕ) (xs : List ℕ) → xs ≡ order → led_by together xs q xs ≡ best_group together q
unfolding best_group
whole_order together q xs is = ap (λ all. led_by together all q all) is

pub returns : goal.returns
returns g c =
    let found
    : option_map members c.choose.result
    ≡ best_group
    (together (g.L.Likeness.counted c.args.likeness.now) (g.L.Likeness.likened c.args.likeness.now) c.args.replies.now)
    c.args.q =
    c.choose.ensures
    ∙ whole_order
    (together (g.L.Likeness.counted c.args.likeness.now) (g.L.Likeness.likened c.args.likeness.now) c.args.replies.now)
    c.args.q
    c.preference.result
    c.preference.ensures
    in
    record {
      found = found;
      best =
          finder_best
          (g.L.Likeness.counted c.args.likeness.now)
          (g.L.Likeness.likened c.args.likeness.now)
          (g.met.L.Likeness.reflexive c.args.likeness.now)
          (g.met.L.Likeness.symmetric c.args.likeness.now)
          (g.met.L.Likeness.transitive c.args.likeness.now)
          c.args.replies.now
          c.args.q
          (option_map members c.choose.result)
          found;
    }
