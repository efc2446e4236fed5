use Rattle.sha256.specs.Digest.{sha_256_from}
use Rattle.sha256.specs.InParts.{digest_with}
use Rattle.sha256.proofs.TakingIn.{from_nothing}
use Rattle.sha256.proofs.hasher.Hasher.new.Goals as goal

pub returns : goal.returns
unfolding digest_with sha_256_from
returns c more = from_nothing more
