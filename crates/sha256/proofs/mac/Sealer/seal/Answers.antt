use Rattle.std.proofs.Common.{ap, ◌∙◌}
use Rattle.sha256.specs.Digest.{sha_256_from}
use Rattle.sha256.specs.Sealing.{sealed}
use Rattle.sha256.proofs.Keyed.{sealed_is_hmac}
use Rattle.sha256.proofs.mac.Sealer.seal.Goals as goal

pub returns : goal.returns
returns c =
    let s = c.args.self.now in
    let message = c.args.message.now in
    let value = c.finish_behind.ensures ∙ ap (sha_256_from s.outer 64) c.finish_behind-inner.ensures in
    record
    { value = value; under = λ key e. value ∙ ap (λ t. sealed t message) e ∙ sealed_is_hmac key message }
