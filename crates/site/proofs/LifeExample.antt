-- The example's life meets the premises, and tells what it should.
use Rattle.std.proofs.Common.{◌≡◌, ℕ, zero, suc, ◌<◌, ◌≤◌, Bool, true, false, ◌&&◌, ltb, List, [], ◌∷◌, Ok, Err, Result, sym, refl, ap, ◌∙◌, inl, inr, arith}
use mathlib.Core.Option.{none, some}
use Rattle.std.proofs.lemmas.Bool.{and_parts, ltb-true, both_ways}
use Rattle.record.specs.Numbers.{number_at, bytes_of_number}
use Rattle.record.specs.RoundTrip.{Bytes}
use Rattle.message.specs.Checks.{signed_among}
use Rattle.message.specs.Forms.{all_kind}
use Rattle.message.specs.Records.{records, statement_at, lowest}
use Rattle.message.specs.Said.{Said, write_1, read, write_2, resolve, round, show_grant, show_cert}
use Rattle.message.specs.Saying.{requests_from}
use Rattle.message.specs.declared.faults.CertificateFault.{CertificateFault}
use Rattle.message.specs.declared.request.Request.{Request}
use Rattle.protocol.specs.Book.{Begins, whole, more}
use Rattle.protocol.specs.Quorum.{Sound}
use Rattle.protocol.specs.Words.{Word}
use Rattle.record.specs.Claims.{start}
use Rattle.site.specs.Life.{Event, word_of, checked, transcript, WroteStatement}
use Rattle.site.specs.LifeExample.{asks, wish, mark, granted, clash, next_round, certificate, show_first, question, show_current, at_site, to_all, life, in_a, told, HasALife}
use Rattle.site.specs.OneBook.{Happens, WrittenBefore, RoundsAgree}

tells : transcript in_a life ≡ told
unfolding number_at bytes_of_number lowest all_kind signed_among requests_from
tells = refl

-- Bytes, tested ---------------------------------------------------------------------------------------------------

unfoldable pub all_bytes : List ℕ → Bool
all_bytes [] = true
all_bytes (b ∷ bytes) = ltb b 256 && all_bytes bytes

are_bytes : (bytes : List ℕ) → all_bytes bytes ≡ true → Bytes bytes
unfolding all_bytes
are_bytes [] e = tt
are_bytes (b ∷ bytes) e = let p = and_parts (ltb b 256) (all_bytes bytes) e in (ltb-true b 256 p.0, are_bytes bytes p.1)

-- Records, one by one -----------------------------------------------------------------------------------------------

four_cases : (P : ℕ → Type 0) (n : ℕ) → (0 < n → P 0) → (1 < n → P 1) → (2 < n → P 2) → (3 < n → P 3) → n ≤ 4 → (i : ℕ) → i < n → P i
four_cases P n a b c d low zero l = a l
four_cases P n a b c d low (suc zero) l = b l
four_cases P n a b c d low (suc (suc zero)) l = c l
four_cases P n a b c d low (suc (suc (suc zero))) l = d l
four_cases P n a b c d low (suc (suc (suc (suc i)))) l = absurd (omega arith)

-- A record was written before, if it is a sound site's word.
abbrev Before : List Event → List ℕ → ℕ → Type 0
Before past m i = (w : Word) → word_of (statement_at m i) ≡ some w → Sound in_a.pool (statement_at m i).signer → WroteStatement in_a (statement_at m i).signer (statement_at m i) past

written_before : (past : List Event) (s : ℕ) (m : List ℕ) → records m ≤ 4 → (0 < records m → Before past m 0) → (1 < records m → Before past m 1) → (2 < records m → Before past m 2) → (3 < records m → Before past m 3) →
    WrittenBefore in_a past (at_site s m)
written_before past s m low a b c d i w l x o k = four_cases (Before past m) (records m) a b c d low i l w o k

-- A message of one record that is no site's word.
no_word : (past : List Event) (s : ℕ) (m : List ℕ) → records m ≡ 1 → word_of (statement_at m 0) ≡ none → WrittenBefore in_a past (at_site s m)
no_word past s m one is = written_before past s m (omega arith) (λ l w o k. nothing w o) (λ l. absurd (omega arith)) (λ l. absurd (omega arith)) (λ l. absurd (omega arith))
  where
    nothing : (w : Word) → word_of (statement_at m 0) ≡ some w → WroteStatement in_a (statement_at m 0).signer (statement_at m 0) past
    nothing w o = grind arith

-- The moments of the life -------------------------------------------------------------------------------------------

abbrev pub asked : List Event
asked = to_all asks []

abbrev wrote : List Event
wrote = at_site 0 (certificate wish) ∷ asked

abbrev froze : List Event
froze = at_site 2 clash ∷ at_site 1 clash ∷ wrote

abbrev turned : List Event
turned = to_all next_round froze

abbrev showed : List Event
showed = to_all show_first turned

abbrev settled : List Event
settled = to_all (certificate mark) showed

abbrev answered : List Event
answered = to_all question settled

pub granted_0 : WroteStatement in_a 0 (granted 0 wish) asked
unfolding number_at bytes_of_number lowest all_kind signed_among requests_from
granted_0 = inr (inr (inl (refl, refl, (0, omega arith, refl))))

pub granted_1 : WroteStatement in_a 1 (granted 1 wish) asked
unfolding number_at bytes_of_number lowest all_kind signed_among requests_from
granted_1 = inr (inl (refl, refl, (0, omega arith, refl)))

pub granted_2 : WroteStatement in_a 2 (granted 2 wish) asked
unfolding number_at bytes_of_number lowest all_kind signed_among requests_from
granted_2 = inl (refl, refl, (0, omega arith, refl))

certified : WrittenBefore in_a asked (at_site 0 (certificate wish))
unfolding number_at bytes_of_number lowest all_kind signed_among requests_from
certified = written_before asked 0 (certificate wish) (omega arith) (λ l w o k. granted_0) (λ l w o k. granted_1) (λ l w o k. granted_2) (λ l. absurd (omega arith))

pub unsound : {A : Type 0} → Sound in_a.pool 3 → A
unsound k = absurd (below_three k.is_sound)
  where
    below_three : ltb 3 3 ≡ true → ⊥
    below_three e = let l = ltb-true 3 3 e in omega arith

-- The clash holds GRANTs that were written, one of the site that is not sound, and a REQUEST.
clashes : (past : List Event) (s : ℕ) → WroteStatement in_a 0 (granted 0 wish) past → WroteStatement in_a 1 (granted 1 wish) past → WrittenBefore in_a past (at_site s clash)
unfolding number_at bytes_of_number lowest all_kind signed_among requests_from
clashes past s a b = written_before past s clash (omega arith) (λ l w o k. a) (λ l w o k. b) (λ l w o k. unsound k) (λ l w o k. request w o)
  where
    request : (w : Word) → none ≡ some w → WroteStatement in_a (statement_at clash 3).signer (statement_at clash 3) past
    request w o = grind arith

started_1 : WroteStatement in_a 1 (start 1 0 0) froze
unfolding number_at bytes_of_number lowest all_kind signed_among requests_from
started_1 = inr (inl (refl, refl, (0, omega arith, refl)))

started_2 : WroteStatement in_a 2 (start 2 0 0) froze
unfolding number_at bytes_of_number lowest all_kind signed_among requests_from
started_2 = inl (refl, refl, (0, omega arith, refl))

turns : (past : List Event) (s : ℕ) → WroteStatement in_a 1 (start 1 0 0) past → WroteStatement in_a 2 (start 2 0 0) past → WrittenBefore in_a past (at_site s next_round)
unfolding number_at bytes_of_number lowest all_kind signed_among requests_from
turns past s a b = written_before past s next_round (omega arith) (λ l w o k. a) (λ l w o k. b) (λ l w o k. unsound k) (λ l. absurd (omega arith))

marked_0 : WroteStatement in_a 0 (granted 0 mark) showed
unfolding number_at bytes_of_number lowest all_kind signed_among requests_from
marked_0 = inr (inr (inl (refl, refl, (0, omega arith, refl))))

marked_1 : WroteStatement in_a 1 (granted 1 mark) showed
unfolding number_at bytes_of_number lowest all_kind signed_among requests_from
marked_1 = inr (inl (refl, refl, (0, omega arith, refl)))

marked_2 : WroteStatement in_a 2 (granted 2 mark) showed
unfolding number_at bytes_of_number lowest all_kind signed_among requests_from
marked_2 = inl (refl, refl, (0, omega arith, refl))

marks : (past : List Event) (s : ℕ) → WroteStatement in_a 0 (granted 0 mark) past → WroteStatement in_a 1 (granted 1 mark) past → WroteStatement in_a 2 (granted 2 mark) past →
    WrittenBefore in_a past (at_site s (certificate mark))
unfolding number_at bytes_of_number lowest all_kind signed_among requests_from
marks past s a b c = written_before past s (certificate mark) (omega arith) (λ l w o k. a) (λ l w o k. b) (λ l w o k. c) (λ l. absurd (omega arith))

-- One event more.
pub and : (past : List Event) (s : ℕ) (m : List ℕ) → s < 3 → ltb s 3 ≡ true → all_bytes m ≡ true → WrittenBefore in_a past (at_site s m) → Happens in_a past → Happens in_a (at_site s m ∷ past)
and past s m low sound bytes written h = (record { below = omega arith; is_sound = sound }, are_bytes m bytes, written, h)

-- A message of no site's word goes to all.
pub all_told : (past : List Event) (m : List ℕ) → all_bytes m ≡ true → records m ≡ 1 → word_of (statement_at m 0) ≡ none → Happens in_a past → Happens in_a (to_all m past)
all_told past m bytes one is h =
    and (at_site 1 m ∷ at_site 0 m ∷ past) 2 m (omega arith) refl bytes (no_word (at_site 1 m ∷ at_site 0 m ∷ past) 2 m one is)
    (and (at_site 0 m ∷ past) 1 m (omega arith) refl bytes (no_word (at_site 0 m ∷ past) 1 m one is)
    (and past 0 m (omega arith) refl bytes (no_word past 0 m one is) h))

pub happens_asked : Happens in_a asked
unfolding number_at bytes_of_number lowest all_kind signed_among requests_from all_bytes
happens_asked = all_told [] asks refl refl refl tt

happens_froze : Happens in_a froze
unfolding number_at bytes_of_number lowest all_kind signed_among requests_from all_bytes
happens_froze =
    and (at_site 1 clash ∷ wrote) 2 clash (omega arith) refl refl (clashes (at_site 1 clash ∷ wrote) 2 (inr (inr granted_0)) (inr (inr granted_1)))
    (and wrote 1 clash (omega arith) refl refl (clashes wrote 1 (inr granted_0) (inr granted_1))
    (and asked 0 (certificate wish) (omega arith) refl refl certified happens_asked))

happens_turned : Happens in_a turned
unfolding number_at bytes_of_number lowest all_kind signed_among requests_from all_bytes
happens_turned =
    and (at_site 1 next_round ∷ at_site 0 next_round ∷ froze) 2 next_round (omega arith) refl refl (turns (at_site 1 next_round ∷ at_site 0 next_round ∷ froze) 2 (inr (inr started_1)) (inr (inr started_2)))
    (and (at_site 0 next_round ∷ froze) 1 next_round (omega arith) refl refl (turns (at_site 0 next_round ∷ froze) 1 (inr started_1) (inr started_2))
    (and froze 0 next_round (omega arith) refl refl (turns froze 0 started_1 started_2) happens_froze))

happens_showed : Happens in_a showed
unfolding number_at bytes_of_number lowest all_kind signed_among requests_from all_bytes
happens_showed = all_told turned show_first refl refl refl happens_turned

happens_settled : Happens in_a settled
unfolding number_at bytes_of_number lowest all_kind signed_among requests_from all_bytes
happens_settled =
    let m = certificate mark in
    and (at_site 1 m ∷ at_site 0 m ∷ showed) 2 m (omega arith) refl refl (marks (at_site 1 m ∷ at_site 0 m ∷ showed) 2 (inr (inr marked_0)) (inr (inr marked_1)) (inr (inr marked_2)))
    (and (at_site 0 m ∷ showed) 1 m (omega arith) refl refl (marks (at_site 0 m ∷ showed) 1 (inr marked_0) (inr marked_1) (inr marked_2))
    (and showed 0 m (omega arith) refl refl (marks showed 0 marked_0 marked_1 marked_2) happens_showed))

happens : Happens in_a life
unfolding number_at bytes_of_number lowest all_kind signed_among requests_from all_bytes
happens = and answered 0 show_current (omega arith) refl refl (no_word answered 0 show_current refl refl) (all_told settled question refl refl refl happens_settled)

-- There is one ROUND in the life --------------------------------------------------------------------------------------

abbrev OneRound : List Event → Type 0
OneRound [] = Unit {0}
OneRound (e ∷ past) = ((n t : ℕ) (rs : List Request) → checked in_a e ≡ Ok (round n t rs) → e.message ≡ next_round) × OneRound past

the_round : (x : Event) (here : List Event) (n t : ℕ) (rs : List Request) (past : List Event) → OneRound past → Begins (x ∷ here) past → checked in_a x ≡ Ok (round n t rs) → x.message ≡ next_round
the_round x here n t rs past one whole e = one.0 n t rs e
the_round x here n t rs past one (more {l = l} b) e = the_round x here n t rs l one.1 b e

unfoldable pub is_round : Result Said CertificateFault → Bool
is_round (Err fault) = false
is_round (Ok (write_1 r)) = false
is_round (Ok (read q)) = false
is_round (Ok (write_2 c bytes)) = false
is_round (Ok (resolve n p r)) = false
is_round (Ok (round n t rs)) = true
is_round (Ok (show_grant p)) = false
is_round (Ok show_cert) = false

other : (e : Event) → is_round (checked in_a e) ≡ false → (n t : ℕ) (rs : List Request) → checked in_a e ≡ Ok (round n t rs) → e.message ≡ next_round
unfolding is_round
other e not n t rs h = absurd (both_ways (is_round (checked in_a e)) not (ap is_round h))

-- A message that is no ROUND goes to all.
others : (past : List Event) (m : List ℕ) → is_round (checked in_a (at_site 0 m)) ≡ false → OneRound past → OneRound (to_all m past)
others past m not h = (other (at_site 2 m) not, (other (at_site 1 m) not, (other (at_site 0 m) not, h)))

one_round : OneRound life
unfolding number_at bytes_of_number lowest all_kind signed_among requests_from is_round
one_round = (
  other (at_site 0 show_current) refl,
  others settled question refl (others showed (certificate mark) refl (others turned show_first refl (
    λ n t rs e. refl,
    (
      λ n t rs e. refl,
      (
        λ n t rs e. refl,
        (other (at_site 2 clash) refl, (other (at_site 1 clash) refl, (other (at_site 0 (certificate wish)) refl, others [] asks refl tt))),
      ),
    ),
  ))),
)

agree : RoundsAgree in_a life
agree x y here there n t u rs ss b c e f =
    let p = the_round x here n t rs life one_round b e in
    let q = the_round y there n u ss life one_round c f in
    let same : x.message ≡ y.message = p ∙ sym q in
    record { as_long = ap records same; alike = λ i l. ap (λ m. statement_at m i) same }

pub has_a_life : HasALife
has_a_life = record { premises = record { few = omega arith; happens = happens; agree = agree }; tells = tells }
