-- What a message says, apart from the bytes that say it.
use Rattle.std.specs.Prelude.{ℕ, List}
use Rattle.record.specs.declared.fields.Claim.{Claim}
use Rattle.record.specs.declared.fields.Statement.{Statement}
use Rattle.message.specs.declared.request.Request.{Request}

pub data Said : Type 0 where
  -- a client asks for a write
  write_1 : Request → Said
  -- a client asks a question
  read : Statement → Said
  -- a certificate: the claim, and the bytes of its GRANTs, seals included
  write_2 : Claim → List ℕ → Said
  -- GRANTs of one round and place for different claims, and the request that met them
  resolve : ℕ → ℕ → Request → Said
  -- the round that the STARTs name, the target, and the requests to settle, in order
  round : ℕ → ℕ → List Request → Said
  -- a place
  show_grant : ℕ → Said
  show_cert : Said

-- The request that a statement makes.
abbrev pub request_of : Statement → Request
request_of s = record { client = s.client; number = s.number; operation = s.operation }
