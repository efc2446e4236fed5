-- Claims, and the statements that are made of them.
use Rattle.std.specs.Prelude.{ℕ, Bool, ◌&&◌, List, replicate, ◌==◌}
use Rattle.std.specs.Str.{bytes_eq}
use Rattle.record.specs.Kinds.{kind_number}
use Rattle.record.specs.declared.fields.Claim.{Claim}
use Rattle.record.specs.declared.fields.Statement.{Statement}
use Rattle.record.specs.declared.kind.Kind.TheVariants.{Request, Grant, Question, Answer, ReadAnswer, Start, ShowGrant, ShowCert}

-- An operation of sixteen zero bytes.
abbrev pub no_operation : List ℕ
no_operation = replicate 16 0

-- The claim that a statement makes.
abbrev pub claim_of : Statement → Claim
claim_of s = record { client = s.client; number = s.number; round = s.round; place = s.place; operation = s.operation }

-- Whether two claims are equal.
abbrev pub same_claim : Claim → Claim → Bool
same_claim a b =
    (a.client == b.client) && a.number == b.number && a.round == b.round && a.place == b.place && bytes_eq a.operation b.operation

-- A client asks for a write.
abbrev pub request : ℕ → ℕ → List ℕ → Statement
request client number operation = record {
  kind = kind_number Request;
  signer = client;
  client = client;
  spare = 0;
  number = number;
  round = 0;
  place = 0;
  operation = operation;
  answer = 0;
  nonce = 0;
}

-- A site grants a claim.
abbrev pub grant : ℕ → Claim → Statement
grant site claim = record {
  kind = kind_number Grant;
  signer = site;
  client = claim.client;
  spare = 0;
  number = claim.number;
  round = claim.round;
  place = claim.place;
  operation = claim.operation;
  answer = 0;
  nonce = 0;
}

-- A client asks a question.
abbrev pub question : ℕ → List ℕ → ℕ → Statement
question client operation nonce = record {
  kind = kind_number Question;
  signer = client;
  client = client;
  spare = 0;
  number = 0;
  round = 0;
  place = 0;
  operation = operation;
  answer = 0;
  nonce = nonce;
}

-- A site answers a claim that it has done.
abbrev pub answer : ℕ → Claim → ℕ → Statement
answer site claim result = record {
  kind = kind_number Answer;
  signer = site;
  client = claim.client;
  spare = 0;
  number = claim.number;
  round = claim.round;
  place = claim.place;
  operation = claim.operation;
  answer = result;
  nonce = 0;
}

-- A site answers a question, at the round and place of its last write.
abbrev pub read_answer : ℕ → ℕ → List ℕ → ℕ → ℕ → ℕ → ℕ → Statement
read_answer site client operation nonce round place result = record {
  kind = kind_number ReadAnswer;
  signer = site;
  client = client;
  spare = 0;
  number = 0;
  round = round;
  place = place;
  operation = operation;
  answer = result;
  nonce = nonce;
}

-- A site says at which place it stopped in a round.
abbrev pub start : ℕ → ℕ → ℕ → Statement
start site round place = record {
  kind = kind_number Start;
  signer = site;
  client = 0;
  spare = 0;
  number = 0;
  round = round;
  place = place;
  operation = no_operation;
  answer = 0;
  nonce = 0;
}

-- Asks a site for its grant at a place.
abbrev pub show_grant : ℕ → Statement
show_grant place = record {
  kind = kind_number ShowGrant;
  signer = 0;
  client = 0;
  spare = 0;
  number = 0;
  round = 0;
  place = place;
  operation = no_operation;
  answer = 0;
  nonce = 0;
}

-- Asks a site for its current certificate.
abbrev pub show_cert : Statement
show_cert = record {
  kind = kind_number ShowCert;
  signer = 0;
  client = 0;
  spare = 0;
  number = 0;
  round = 0;
  place = 0;
  operation = no_operation;
  answer = 0;
  nonce = 0;
}

-- The statement as another signer would make it.
abbrev pub signed_by : ℕ → Statement → Statement
signed_by site s = record {
  kind = s.kind;
  signer = site;
  client = s.client;
  spare = s.spare;
  number = s.number;
  round = s.round;
  place = s.place;
  operation = s.operation;
  answer = s.answer;
  nonce = s.nonce;
}

-- Whether two statements are alike but for the signer.
abbrev pub alike : Statement → Statement → Bool
alike a b =
    (a.kind == b.kind) && a.spare == b.spare && same_claim (claim_of a) (claim_of b) && a.answer == b.answer && a.nonce == b.nonce
