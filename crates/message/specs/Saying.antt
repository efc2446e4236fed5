-- What a message of each form says, and what the parts of one say.
use Rattle.std.specs.Prelude.{◌≡◌, ℕ, zero, suc, ◌+◌, cond, List, [], ◌∷◌, Ok, Err, Result, ◌==◌}
use Rattle.record.specs.Claims.{claim_of}
use Rattle.message.specs.Forms.{quorum}
use Rattle.message.specs.Records.{records, statement_at, stated, group}
use Rattle.message.specs.Said.{Said, write_1, read, write_2, resolve, round, show_grant, show_cert, request_of}
use Rattle.message.specs.declared.form.Form.{Form}
use Rattle.message.specs.declared.form.Form.TheVariants.{Write1, Read, Write2, Resolve, Round, ShowGrant, ShowCert}
use Rattle.message.specs.declared.part.Part.{Part}
use Rattle.message.specs.declared.request.Request.{Request}
use Rattle.message.specs.declared.said.Message.{Message}
use Rattle.message.specs.declared.said.Message.TheVariants as held

-- The requests of `n` records from index i on, in order.
unfoldable pub requests_from : List ℕ → ℕ → ℕ → List Request
requests_from m i zero = []
requests_from m i (suc n) = request_of (statement_at m i) ∷ requests_from m (i + 1) n

-- The target that `n` GRANTs from index i on name: their place, and 0 where there are none.
abbrev pub target : List ℕ → ℕ → ℕ → ℕ
target m i n = cond (n == 0) 0 (statement_at m i).place

-- What a message says, by its form.
abbrev pub said_of : ℕ → List ℕ → Form → Said
said_of f m Write1 = write_1 (request_of (statement_at m 0))
said_of f m Read = read (statement_at m 0)
said_of f m Write2 = write_2 (claim_of (statement_at m 0)) m
said_of f m Resolve = resolve (statement_at m 0).round (statement_at m 0).place (request_of (statement_at m (quorum f)))
said_of f m (Round grants requests) = round (statement_at m 0).round (target m (quorum f) grants) (requests_from m (quorum f + grants) requests)
said_of f m ShowGrant = show_grant (statement_at m 0).place
said_of f m ShowCert = show_cert

-- The requests of the records of a part, in order.
abbrev pub requests_in : List ℕ → List Request
requests_in bytes = requests_from bytes 0 (records bytes)

-- What the parts of a message say.
abbrev pub sent : Message → Said
sent (held.Write1 request) = write_1 (request_of (stated request.bytes.now 0))
sent (held.Read question) = read (stated question.bytes.now 0)
sent (held.Write2 certificate) = write_2 (claim_of (stated certificate.bytes.now 0)) certificate.bytes.now
sent (held.Resolve grants request) = resolve (stated grants.bytes.now 0).round (stated grants.bytes.now 0).place (request_of (stated request.bytes.now 0))
sent (held.Round starts grants requests) = round (stated starts.bytes.now 0).round (stated grants.bytes.now 0).place (requests_in requests.bytes.now)
sent (held.ShowGrant shown) = show_grant (stated shown.bytes.now 0).place
sent held.ShowCert = show_cert

-- What the outcome of the checks says.
abbrev pub sent_or : {E : Type 0} → Result Message E → Result Said E
sent_or (Ok message) = Ok (sent message)
sent_or (Err fault) = Err fault

-- A part is `n` records of the message from index `first` on, and names that index.
abbrev pub Is : Part → List ℕ → ℕ → ℕ → Type 0
Is part m first n = (part.first ≡ first) × (part.bytes.now ≡ group m first n)

-- A part is the whole message.
abbrev pub IsAll : Part → List ℕ → Type 0
IsAll part m = (part.first ≡ 0) × (part.bytes.now ≡ m)

-- How many records a part has.
abbrev pub count : Part → ℕ
count part = records part.bytes.now

-- The parts of a message are those of the input, end to end.
abbrev pub Held : ℕ → List ℕ → Message → Type 0
Held f m (held.Write1 request) = IsAll request m
Held f m (held.Read question) = IsAll question m
Held f m (held.Write2 certificate) = IsAll certificate m
Held f m (held.Resolve grants request) = Is grants m 0 (quorum f) × Is request m (quorum f) 1
Held f m (held.Round starts grants requests) =
    Is starts m 0 (quorum f) × Is grants m (quorum f) (count grants) × Is requests m (quorum f + count grants) (count requests)
    × (records m ≡ quorum f + count grants + count requests)
Held f m (held.ShowGrant shown) = IsAll shown m
Held f m held.ShowCert = Unit {0}
