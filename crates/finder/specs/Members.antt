-- What a group holds.
use Rattle.std.specs.Prelude.{ℕ, List, take}
use Rattle.finder.specs.declared.group.Group.{Group}

-- The members of a group: the first `count` of its array.
abbrev pub members : Group → List ℕ
members group = take group.count group.sites
