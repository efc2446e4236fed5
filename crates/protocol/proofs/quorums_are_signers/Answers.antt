use Rattle.protocol.proofs.Signers.{quorum_signers}
use Rattle.protocol.proofs.quorums_are_signers.Goals as goal

pub returns : goal.returns
returns c pool T w = quorum_signers
