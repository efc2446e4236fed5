-- A small life, of a pool with f = 1 whose site 3 is not sound: a write, a clash, a ROUND that strikes a write, and a reading.
use Rattle.std.specs.Prelude.{◌≡◌, [], ◌∷◌, drop, nat_lt}
use Rattle.object.specs.Rules.{Rules}
use Rattle.protocol.specs.Words.{Claim, Question, grant, start, reading, answered, took, said, did, Transcript}
use Rattle.protocol.specs.Quorum.{Pool}
use Rattle.protocol.specs.Book.{Certified, Passing, Counts, Book, Confirmed, ConfirmedReading, writes, due, play, mark}
use Rattle.protocol.specs.Promise.{Life}

abbrev pub four_sites : Pool
four_sites = record { f = 1; sound = λ s. nat_lt s 3 }

-- A first write of client 1; two writes that clash for the place after it; and the mark of the next round, for that same place.
abbrev pub agreed_claim : Claim
agreed_claim = record { client = 1; number = 1; round = 0; place = 1; operation = 1 ∷ 7 ∷ [] }

abbrev pub one_claim : Claim
one_claim = record { client = 1; number = 2; round = 0; place = 2; operation = 2 ∷ 7 ∷ [] }

abbrev pub other_claim : Claim
other_claim = record { client = 2; number = 1; round = 0; place = 2; operation = 2 ∷ 7 ∷ [] }

abbrev pub mark_claim : Claim
mark_claim = record { client = mark; number = 1; round = 1; place = 2; operation = [] }

abbrev pub question : Question
question = record { client = 5; operation = 1 ∷ 7 ∷ []; nonce = 77 }

module _ (R : Rules) (first : R.Value) where
  -- Newest first: the reading, the settlement of round 1, the ROUND of round 0 with target 1, the STARTs, the clash, the first write.
  abbrev pub transcript : Transcript
  transcript =
      did 1 (said (reading question 1 2 (R.look (play R first (mark_claim ∷ agreed_claim ∷ [])) question.operation))) ∷
      did 0 (said (reading question 1 2 (R.look (play R first (mark_claim ∷ agreed_claim ∷ [])) question.operation))) ∷
      did 1 (answered mark_claim 0) ∷
      did 0 (answered mark_claim 0) ∷
      did 1 (said (grant mark_claim)) ∷
      did 0 (said (grant mark_claim)) ∷
      did 0 (took 0 1 1) ∷
      did 1 (took 0 1 1) ∷
      did 2 (said (start 0 1)) ∷
      did 1 (said (start 0 1)) ∷
      did 0 (answered one_claim (due R (play R first (agreed_claim ∷ [])) one_claim)) ∷
      did 2 (said (grant other_claim)) ∷
      did 1 (said (grant one_claim)) ∷
      did 0 (said (grant one_claim)) ∷
      did 2 (answered agreed_claim (due R first agreed_claim)) ∷
      did 1 (answered agreed_claim (due R first agreed_claim)) ∷
      did 0 (answered agreed_claim (due R first agreed_claim)) ∷
      did 2 (said (grant agreed_claim)) ∷
      did 1 (said (grant agreed_claim)) ∷
      did 0 (said (grant agreed_claim)) ∷
      []

  -- It is a life, and it comes as far as the promise allows. Before the ROUND (the newest 8 events left out), site 0 stands one place past its target. Once site 1 has
  -- taken it (7 left out), the last write of site 0 does not count any more. Then site 0 strikes it (6 left out). In the end two claims are certified for its place, in two
  -- rounds; the later one stands in the book. That write and a reading of it are confirmed.
  pub record Example : Type 0 where
    pub life : Life four_sites R first transcript
    pub passing : Passing four_sites (drop 8 transcript) 0 1
    pub past_it : writes 0 (drop 8 transcript) ≡ one_claim ∷ agreed_claim ∷ []
    pub no_more : Counts four_sites (drop 7 transcript) one_claim → ⊥
    pub kept_it : writes 0 (drop 7 transcript) ≡ one_claim ∷ agreed_claim ∷ []
    pub struck_it : writes 0 (drop 6 transcript) ≡ agreed_claim ∷ []
    pub first_round : Certified four_sites transcript one_claim
    pub next_round : Certified four_sites transcript mark_claim
    pub book : Book four_sites transcript (mark_claim ∷ agreed_claim ∷ [])
    pub written : Confirmed four_sites transcript mark_claim 0
    pub read : ConfirmedReading four_sites transcript question 1 2 (R.look (play R first (mark_claim ∷ agreed_claim ∷ [])) question.operation)

-- There is such a life of every object, from every first value.
abbrev pub HasALife : Rules → Type 0
HasALife R = (first : R.Value) → Example R first
