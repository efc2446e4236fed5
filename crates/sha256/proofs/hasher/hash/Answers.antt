use Rattle.std.proofs.Common.{◌∙◌}
use Rattle.sha256.proofs.TakingIn.{from_nothing}
use Rattle.sha256.proofs.hasher.hash.Goals as goal

pub returns : goal.returns
returns c = c.finish_from.ensures ∙ from_nothing c.args.message.now
