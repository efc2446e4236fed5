-- Why each verdict is given, in the words of quorums. A quorum is of q different sites, each with a reply that counts, each two alike.
use Rattle.std.specs.Prelude.{◌≡◌, ℕ, Bool, true, false, List, Some, Option, MatchOption}
use Rattle.std.specs.List.{AllByRecursion}
use Rattle.finder.specs.Law.{Quorum}
use Rattle.record.specs.declared.fields.Record.{Record}
use Rattle.record.specs.declared.kind.Kind.{Kind}
use Rattle.record.specs.declared.kind.Kind.TheVariants as kind
use Rattle.record.specs.Claims.{claim_of}
use Rattle.office.specs.Judging.{lead, is_ours}
use Rattle.office.specs.Likenesses.{heard, of_kind, alike_slots, claim_slots, place_slots, any_slots}
use Rattle.office.specs.Slots.{slot_at, latest}
use Rattle.office.specs.declared.asking.Write.{Write}
use Rattle.office.specs.declared.slots.Slot.{Slot}
use Rattle.office.specs.declared.verdict.Verdict.{Verdict}
use Rattle.office.specs.declared.verdict.Verdict.TheVariants.{Done, Certify, Back, Clash, Catch, Wait}

-- Quorums of replies of a kind that are alike, of GRANTs of one claim, of GRANTs of one round and place, and of any replies.
abbrev pub AlikeQuorum : Kind → ℕ → List Slot → List ℕ → Type 0
AlikeQuorum kind q slots sites = Quorum (of_kind kind) alike_slots slots q sites

abbrev pub ClaimQuorum : ℕ → List Slot → List ℕ → Type 0
ClaimQuorum q slots sites = Quorum (of_kind kind.Grant) claim_slots slots q sites

abbrev pub PlaceQuorum : ℕ → List Slot → List ℕ → Type 0
PlaceQuorum q slots sites = Quorum (of_kind kind.Grant) place_slots slots q sites

abbrev pub HeardQuorum : ℕ → List Slot → List ℕ → Type 0
HeardQuorum q slots sites = Quorum heard any_slots slots q sites

-- There is no such quorum.
abbrev pub Never : (List ℕ → Type 0) → Type 0
Never Wanted = (sites : List ℕ) → Wanted sites → ⊥

-- There is one, and each of its sites gave this answer.
abbrev pub Gave : List Slot → ℕ → ℕ → Type 0
Gave slots answer i = (reply : Record) → (slot_at slots i).filed ≡ Some reply → reply.statement.answer ≡ answer

abbrev pub Answered : Kind → ℕ → List Slot → ℕ → Type 0
Answered kind q slots answer = (sites : List ℕ) × AlikeQuorum kind q slots sites × AllByRecursion (Gave slots answer) sites

-- Where the GRANTs of no quorum have even a round and place in common: CATCH over a quorum that is heard, WAIT where none is.
abbrev pub ByHeard : ℕ → List Slot → Verdict → Type 0
ByHeard q slots (Done answer) = ⊥
ByHeard q slots Certify = ⊥
ByHeard q slots Back = ⊥
ByHeard q slots Clash = ⊥
ByHeard q slots (Catch site) = (site ≡ latest slots) × ((sites : List ℕ) × HeardQuorum q slots sites)
ByHeard q slots Wait = Never (HeardQuorum q slots)

-- Where no quorum granted one claim: CLASH names a quorum of one round and place.
abbrev pub ByPlace : ℕ → List Slot → Verdict → Option (List ℕ) → Type 0
ByPlace q slots (Done answer) found = ⊥
ByPlace q slots Certify found = ⊥
ByPlace q slots Back found = ⊥
ByPlace q slots Clash found = MatchOption found ⊥ (PlaceQuorum q slots)
ByPlace q slots (Catch site) found = Never (PlaceQuorum q slots) × ByHeard q slots (Catch site)
ByPlace q slots Wait found = Never (PlaceQuorum q slots) × ByHeard q slots Wait

-- Where no quorum of ANSWERs is alike: CERTIFY and BACK name a quorum of one claim, ours or another's.
abbrev pub ClaimQuorumOf : Bool → ℕ → ℕ → Option Write → List Slot → List ℕ → Type 0
ClaimQuorumOf ours q client write slots sites = ClaimQuorum q slots sites × (is_ours client write (claim_of (lead slots sites)) ≡ ours)

abbrev pub ByClaim : ℕ → ℕ → Option Write → List Slot → Verdict → Option (List ℕ) → Type 0
ByClaim q client write slots (Done answer) found = ⊥
ByClaim q client write slots Certify found = MatchOption found ⊥ (ClaimQuorumOf true q client write slots)
ByClaim q client write slots Back found = MatchOption found ⊥ (ClaimQuorumOf false q client write slots)
ByClaim q client write slots Clash found = Never (ClaimQuorum q slots) × ByPlace q slots Clash found
ByClaim q client write slots (Catch site) found = Never (ClaimQuorum q slots) × ByPlace q slots (Catch site) found
ByClaim q client write slots Wait found = Never (ClaimQuorum q slots) × ByPlace q slots Wait found

-- The verdict over a write's slots, with the sites whose records go with it: DONE with the answer of a quorum of alike ANSWERs; any
-- other verdict only where there is no such quorum.
abbrev pub Warranted : ℕ → ℕ → Option Write → List Slot → Verdict → Option (List ℕ) → Type 0
Warranted q client write slots (Done answer) found = Answered kind.Answer q slots answer
Warranted q client write slots Certify found = Never (AlikeQuorum kind.Answer q slots) × ByClaim q client write slots Certify found
Warranted q client write slots Back found = Never (AlikeQuorum kind.Answer q slots) × ByClaim q client write slots Back found
Warranted q client write slots Clash found = Never (AlikeQuorum kind.Answer q slots) × ByClaim q client write slots Clash found
Warranted q client write slots (Catch site) found = Never (AlikeQuorum kind.Answer q slots) × ByClaim q client write slots (Catch site) found
Warranted q client write slots Wait found = Never (AlikeQuorum kind.Answer q slots) × ByClaim q client write slots Wait found

-- The same over a question's slots.
abbrev pub ReadingWarranted : ℕ → List Slot → Verdict → Type 0
ReadingWarranted q slots (Done answer) = Answered kind.ReadAnswer q slots answer
ReadingWarranted q slots Certify = ⊥
ReadingWarranted q slots Back = ⊥
ReadingWarranted q slots Clash = ⊥
ReadingWarranted q slots (Catch site) = Never (AlikeQuorum kind.ReadAnswer q slots) × ByHeard q slots (Catch site)
ReadingWarranted q slots Wait = Never (AlikeQuorum kind.ReadAnswer q slots) × ByHeard q slots Wait

-- DONE exactly where a quorum of replies of the kind is alike, with their answer; and WAIT only where no quorum is heard.
pub record Exact (kind : Kind) (q : ℕ) (slots : List Slot) (verdict : Verdict) : Type 0 where
  pub done : (answer : ℕ) → verdict ≡ Done answer → Answered kind q slots answer
  pub due : (sites : List ℕ) → AlikeQuorum kind q slots sites → (answer : ℕ) × (verdict ≡ Done answer)
  pub waits : verdict ≡ Wait → Never (HeardQuorum q slots)

-- There is one answer at most that a quorum gives, and it is that of the verdict.
abbrev pub OneAnswer : Kind → ℕ → List Slot → Verdict → Type 0
OneAnswer kind q slots verdict = (answer : ℕ) → Answered kind q slots answer → verdict ≡ Done answer
