-- The word for each stage.
use Rattle.std.specs.Prelude.{ℕ, List, codes}
use Rattle.site.specs.declared.state.Stage.{Stage}
use Rattle.site.specs.declared.state.Stage.TheVariants.{Open, Frozen, Pulling, Settling}

abbrev pub stage_word : Stage → List ℕ
stage_word Open = codes "OPEN"
stage_word Frozen = codes "FROZEN"
stage_word (Pulling left target requests) = codes "PULLING"
stage_word (Settling last) = codes "SETTLING"
