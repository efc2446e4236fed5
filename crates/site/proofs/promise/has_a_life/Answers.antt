use Rattle.site.proofs.LifeExample.{has_a_life}
use Rattle.site.proofs.promise.has_a_life.Goals as goal

pub returns : goal.returns
returns c = has_a_life
