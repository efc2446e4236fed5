-- The group that the finder gives, over `together`, which says of two sites whether their replies go together.
use Rattle.std.specs.Prelude.{ℕ, Bool, cond, List, [], ◌∷◌, length, take, Some, None, filter, Option, nat_le}
use Rattle.finder.specs.Order.{order}

-- The first q of a class, or none where it has fewer.
abbrev pub first_of : ℕ → List ℕ → Option (List ℕ)
first_of q class = cond (nat_le q (length class)) (Some (take q class)) None

-- The first that is there.
abbrev pub or_else : Option (List ℕ) → Option (List ℕ) → Option (List ℕ)
or_else None next = next
or_else (Some group) next = Some group

-- The class of a site: the sites whose replies go together with its own, in the order of `all`.
abbrev pub class_of : (ℕ → ℕ → Bool) → List ℕ → ℕ → List ℕ
class_of together all lead = filter (together lead) all

-- Asks each of the leads in turn, and takes the first q of the first class that has so many.
abbrev pub led_by : (ℕ → ℕ → Bool) → List ℕ → ℕ → List ℕ → Option (List ℕ)
led_by together all q [] = None
led_by together all q (lead ∷ leads) = or_else (first_of q (class_of together all lead)) (led_by together all q leads)

-- The group that the finder gives. Two classes may both have q members: it takes the class of the first site, in
-- the order of preference, whose class has so many, since a group of any other class begins at a later site. Of
-- that class it takes the first q members.
unfoldable pub best_group : (ℕ → ℕ → Bool) → ℕ → Option (List ℕ)
best_group together q = led_by together order q order
