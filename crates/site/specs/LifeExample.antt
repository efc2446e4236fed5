-- A small life of real bytes that meets the premises, so that what is promised of lives is promised of something. There are four sites, of which site 3 is not sound.
-- Sites 0, 1 and 2 grant a request, and site 0 does the write. Site 3 grants another claim to the same place, which makes sites 1 and 2 give up the round; the
-- ROUND that follows has the target 0, so that site 0 takes its write back. The sites show their GRANTs of the new round's mark, do its write, and answer a question; site 0 then shows its certificate.
use Rattle.std.specs.Prelude.{◌≡◌, ℕ, ◌+◌, true, List, [], ◌∷◌, ◌++◌, replicate, nat_lt, None}
use Rattle.object.specs.Rules.{Rules}
use Rattle.record.specs.Claims as record_of
use Rattle.record.specs.Claims.{no_operation}
use Rattle.record.specs.Layout.{record_bytes}
use Rattle.record.specs.declared.fields.Claim.{Claim as Claimed}
use Rattle.record.specs.declared.fields.Statement.{Statement}
use Rattle.protocol.specs.Words.{Claim, Question, grant, start, reading, answered, took, said, did, Transcript}
use Rattle.site.specs.Life.{Event, Setting, transcript}
use Rattle.site.specs.OneBook.{Premises}

-- An object that counts its writes: a write answers their number before it, and a look answers it now.
abbrev pub counter : Rules
counter = record { Value = ℕ; next = λ n client operation. n + 1; answer = λ n client operation. n; look = λ n operation. n; highest = 1 }

-- Bytes ---------------------------------------------------------------------------------------------------------

-- A record of a statement. Its seal is of no account to a notary that accepts all records.
abbrev pub sealed : Statement → List ℕ
sealed s = record_bytes (record { statement = s; seal = replicate 32 0 })

abbrev pub three : Statement → Statement → Statement → List ℕ
three a b c = sealed a ++ (sealed b ++ sealed c)

-- Client 1's claim, the one of client 2 to the same place, and the mark of round 1.
abbrev pub count_one : List ℕ
count_one = 1 ∷ replicate 15 0

abbrev pub wish : Claimed
wish = record { client = 1; number = 1; round = 0; place = 1; operation = count_one }

abbrev pub rival : Claimed
rival = record { client = 2; number = 1; round = 0; place = 1; operation = count_one }

abbrev pub mark : Claimed
mark = record { client = 16; number = 1; round = 1; place = 1; operation = no_operation }

abbrev pub granted : ℕ → Claimed → Statement
granted s c = record_of.grant s c

abbrev pub asks : List ℕ
asks = sealed (record_of.request 1 1 count_one)

abbrev pub clash : List ℕ
clash = three (granted 0 wish) (granted 1 wish) (granted 3 rival) ++ asks

abbrev pub next_round : List ℕ
next_round = three (record_of.start 1 0 0) (record_of.start 2 0 0) (record_of.start 3 0 0)

abbrev pub certificate : Claimed → List ℕ
certificate c = three (granted 0 c) (granted 1 c) (granted 2 c)

abbrev pub show_first : List ℕ
show_first = sealed (record_of.show_grant 1)

abbrev pub question : List ℕ
question = sealed (record_of.question 1 no_operation 7)

abbrev pub show_current : List ℕ
show_current = sealed record_of.show_cert

-- Events --------------------------------------------------------------------------------------------------------

abbrev pub at_site : ℕ → List ℕ → Event
at_site s m = record { site = s; message = m; output = replicate 880 0; board = replicate 16 0 }

-- The message is handed to sites 0, 1 and 2, after a life.
abbrev pub to_all : List ℕ → List Event → List Event
to_all m life = at_site 2 m ∷ at_site 1 m ∷ at_site 0 m ∷ life

abbrev pub life : List Event
life =
    at_site 0 show_current ∷ to_all question (to_all (certificate mark) (to_all show_first (to_all next_round
    (at_site 2 clash ∷ at_site 1 clash ∷ at_site 0 (certificate wish) ∷ to_all asks []))))

-- What the sites did --------------------------------------------------------------------------------------------

-- The claims and the question in the protocol's words.
abbrev pub the_wish : Claim
the_wish = record { client = 1; number = 1; round = 0; place = 1; operation = count_one }

abbrev pub the_mark : Claim
the_mark = record { client = 16; number = 1; round = 1; place = 1; operation = no_operation }

abbrev pub the_question : Question
the_question = record { client = 1; operation = no_operation; nonce = 7 }

-- Sites 0, 1 and 2 are sound, the notary accepts every record, and the objects first hold 5.
abbrev pub in_a : Setting counter
in_a = record { pool = record { f = 1; sound = λ s. nat_lt s 3 }; accepts = λ r. true; first = 5; before = λ s. None }

abbrev pub told : Transcript
told =
    did 0 (said (grant the_mark))
    ∷ did 2 (said (reading the_question 1 1 5)) ∷ did 1 (said (reading the_question 1 1 5)) ∷ did 0 (said (reading the_question 1 1 5))
    ∷ did 2 (answered the_mark 0) ∷ did 1 (answered the_mark 0) ∷ did 0 (answered the_mark 0)
    ∷ did 2 (said (grant the_mark)) ∷ did 1 (said (grant the_mark)) ∷ did 0 (said (grant the_mark))
    ∷ did 2 (took 0 0 1) ∷ did 1 (took 0 0 1) ∷ did 0 (took 0 0 1)
    ∷ did 2 (said (start 0 0)) ∷ did 1 (said (start 0 0))
    ∷ did 0 (answered the_wish 5)
    ∷ did 2 (said (grant the_wish)) ∷ did 1 (said (grant the_wish)) ∷ did 0 (said (grant the_wish)) ∷ []

pub record HasALife : Type 0 where
  pub premises : Premises in_a life
  pub tells : transcript in_a life ≡ told
