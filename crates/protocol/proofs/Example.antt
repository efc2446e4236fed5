-- The small life, event by event.
use Rattle.std.proofs.Common.{◌≡◌, ℕ, zero, suc, ◌<◌, ◌≤◌, Bool, true, ◌&&◌, ◌||◌, eqb, ltb, leb, [], ◌∷◌, drop, sym, refl, subst, inr, ⊎_elim, arith}
use mathlib.Core.Option.{none, some}
use Rattle.std.proofs.lemmas.Bool.{ltb-true, leb-true, lt-ltb, and_parts, eqb-true, or_cases}
use Rattle.object.specs.Rules.{Rules}
use Rattle.protocol.specs.Words.{Claim, Word, grant, answer, start, reading, Deed, answered, took, said, silent, Event, did, Transcript}
use Rattle.protocol.specs.Quorum.{Sound, Quorum, count}
use Rattle.protocol.specs.Book.{Happened, happened_now, happened_before, Wrote, saying, answering, earlier, Certified, Passing, line_none, line_more, Book, Begins, whole, Confirmed}
use Rattle.protocol.specs.Moves.{opened, frozen, Site, standing, Settlement, shows, reads, says, grants, freezes, writes_open, settles_last, strikes, meets, History, begins, others, own}
use Rattle.protocol.specs.Promise.{Life, Stands, OneBook}
use Rattle.protocol.specs.Example.{four_sites, agreed_claim, one_claim, other_claim, mark_claim, transcript, Example}
use Rattle.protocol.proofs.Quorums.{shared}
use Rattle.protocol.proofs.Lists.{begins_older, begins_next, begins_same, line_begin, line_place, line_fact}
use Rattle.protocol.proofs.OneBook.{keeps_one_book}
use Rattle.protocol.proofs.Shape.{certified_later, started_later}

-- Two sound sites and site 3 are a quorum.
two_and_liar : {P : ℕ → Type 0} (a b : ℕ) → 3 ≤ count (λ s. eqb s a || (eqb s b || eqb s 3)) 4 → P a → P b → Quorum four_sites (λ s. four_sites.sound s ≡ true → P s)
two_and_liar {P} a b l p q = record { who = λ s. eqb s a || (eqb s b || eqb s 3); enough = l; each = λ s i w k. from s w k }
  where
    from : (s : ℕ) → (eqb s a || (eqb s b || eqb s 3)) ≡ true → ltb s 3 ≡ true → P s
    from s w k = ⊎_elim (λ e. subst P (sym (eqb-true s a e)) p)
        (λ o. ⊎_elim (λ e. subst P (sym (eqb-true s b e)) q) (λ e. absurd (omega (arith, eqb-true s 3 e, ltb-true s 3 k))) (or_cases (eqb s b) (eqb s 3) o))
        (or_cases (eqb s a) (eqb s b || eqb s 3) w)

-- What all that happened in the life has in common: it is at sites 0 to 2; every ROUND is of round 0, with target 1; no GRANT is above place 2.
abbrev fine_deed : Deed → Bool
fine_deed (answered c a) = true
fine_deed (took r t x) = eqb r 0 && (eqb t 1 && eqb x 1)
fine_deed (said (grant c)) = leb c.place 2
fine_deed (said (answer c a)) = true
fine_deed (said (start r k)) = true
fine_deed (said (reading q r p a)) = true
fine_deed silent = true

abbrev all_fine : Transcript → Bool
all_fine [] = true
all_fine (did s d ∷ T) = (ltb s 3 && fine_deed d) && all_fine T

fine : {s : ℕ} {d : Deed} {T : Transcript} → Happened s d T → all_fine T ≡ true → (ltb s 3 && fine_deed d) ≡ true
fine {s} {d} (happened_now {T = T}) h = (and_parts (ltb s 3 && fine_deed d) (all_fine T) h).0
fine (happened_before {e = did x d} {T = T} k) h = fine k (and_parts (ltb x 3 && fine_deed d) (all_fine T) h).1

fine_site : {s : ℕ} {d : Deed} {T : Transcript} → all_fine T ≡ true → Happened s d T → s < 3
fine_site {s} {d} h k = ltb-true s 3 (and_parts (ltb s 3) (fine_deed d) (fine k h)).0

fine_round : {s r t x : ℕ} {T : Transcript} → all_fine T ≡ true → Happened s (took r t x) T → (t ≡ 1) × (x ≡ 1)
fine_round {s} {r} {t} {x} h k =
    let p = and_parts (eqb t 1) (eqb x 1) (and_parts (eqb r 0) (eqb t 1 && eqb x 1) (and_parts (ltb s 3) (fine_deed (took r t x)) (fine k h)).1).1 in
    (eqb-true t 1 p.0, eqb-true x 1 p.1)

fine_grant : {s : ℕ} {c : Claim} {T : Transcript} → all_fine T ≡ true → Wrote s (grant c) T → c.place ≤ 2
fine_grant {s} {c} h k = leb-true c.place 2 (and_parts (ltb s 3) (leb c.place 2) (fine (said_it k) h)).1
  where
    said_it : {T : Transcript} → Wrote s (grant c) T → Happened s (said (grant c)) T
    said_it saying = happened_now
    said_it (earlier w) = happened_before (said_it w)

module _ (R : Rules) (first : R.Value) where
  -- The transcript without its newest n events.
  abbrev at : ℕ → Transcript
  at n = drop n (transcript R first)

  abbrev H : ℕ → ℕ → Site → Type 0
  H s n st = History four_sites R first s (at n) st

  -- What is certified, and what the ROUND shows, at the moments at which sites need it.
  certified_at_17 : Certified four_sites (at 17) agreed_claim
  certified_at_17 = two_and_liar 0 1 (omega arith) (earlier (earlier saying)) (earlier saying)

  certified_at_8 : Certified four_sites (at 8) agreed_claim
  certified_at_8 = later (later (later (later (later (later (later (later (later certified_at_17))))))))
    where
      later : {e : Event} {T : Transcript} → Certified four_sites T agreed_claim → Certified four_sites (e ∷ T) agreed_claim
      later = certified_later

  passing_at_8 : Passing four_sites (at 8) 0 1
  passing_at_8 = record { starts = two_and_liar 1 2 (omega arith) (1, earlier saying, omega arith) (1, saying, omega arith); target = inr (agreed_claim, certified_at_8, refl, refl) }

  passing_at_7 : Passing four_sites (at 7) 0 1
  passing_at_7 = record { starts = started_later passing_at_8.starts; target = inr (agreed_claim, certified_later certified_at_8, refl, refl) }

  settlement : Settlement 1 1 (mark_claim ∷ [])
  settlement = record { some_claim = omega arith; in_line = line_more refl refl line_none }

  -- Site 0 does the write that the ROUND strikes.
  zero_at_10 : H 0 10 (standing opened 0 0 (one_claim ∷ agreed_claim ∷ []) none [])
  zero_at_10 =
      own (others (omega arith) (others (omega arith) (own (others (omega arith) (others (omega arith)
      (own (others (omega arith) (others (omega arith) (own begins (grants refl refl)))) (writes_open certified_at_17 refl refl))))
      (grants refl refl))))
      (writes_open (two_and_liar 0 1 (omega arith) (earlier (earlier saying)) (earlier saying)) refl refl)

  site_zero : H 0 0 (standing opened 1 1 (mark_claim ∷ agreed_claim ∷ []) none (mark_claim ∷ []))
  site_zero =
      others (omega arith) (own (others (omega arith) (own (others (omega arith) (own
      (own (others (omega arith) (others (omega arith) (others (omega arith) zero_at_10))) (strikes passing_at_7 (omega arith) refl settlement))
      (says (shows ([], whole)))))
      (settles_last (two_and_liar 0 1 (omega arith) (earlier saying) saying) refl refl refl)))
      (says reads))

  -- Site 1 stands at the target when the ROUND comes.
  site_one : H 1 0 (standing opened 1 1 (mark_claim ∷ agreed_claim ∷ []) none (mark_claim ∷ []))
  site_one =
      own (others (omega arith) (own (others (omega arith) (own (others (omega arith) (others (omega arith) (own (others (omega arith)
      (own (others (omega arith) (others (omega arith) (own (others (omega arith) (others (omega arith)
      (own (others (omega arith) (others (omega arith) (own (others (omega arith) begins) (grants refl refl)))) (writes_open (certified_later certified_at_17) refl refl))))
      (grants refl refl))))
      freezes))
      (meets passing_at_8 (omega arith) refl settlement))))
      (says (shows ([], whole)))))
      (settles_last (two_and_liar 0 1 (omega arith) (earlier (earlier saying)) (earlier saying)) refl refl refl)))
      (says reads)

  -- Site 2 granted the other claim, and no ROUND has come to it yet.
  site_two : H 2 0 (standing frozen 0 0 (agreed_claim ∷ []) (some other_claim) [])
  site_two =
      others (omega arith) (others (omega arith) (others (omega arith) (others (omega arith) (others (omega arith) (others (omega arith) (others (omega arith) (others (omega arith)
      (own (others (omega arith) (others (omega arith) (own (others (omega arith) (others (omega arith)
      (own (others (omega arith) (others (omega arith) (own (others (omega arith) (others (omega arith) begins)) (grants refl refl))))
      (writes_open (certified_later (certified_later certified_at_17)) refl refl))))
      (grants refl refl))))
      freezes))))))))

  each : (s : ℕ) → Sound four_sites s → (st : Site) × History four_sites R first s (transcript R first) st
  each zero i = (standing opened 1 1 (mark_claim ∷ agreed_claim ∷ []) none (mark_claim ∷ []), site_zero)
  each (suc zero) i = (standing opened 1 1 (mark_claim ∷ agreed_claim ∷ []) none (mark_claim ∷ []), site_one)
  each (suc (suc zero)) i = (standing frozen 0 0 (agreed_claim ∷ []) (some other_claim) [], site_two)
  each (suc (suc (suc n))) i = let z : ⊥ = omega (arith, ltb-true (suc (suc (suc n))) 3 i.is_sound) in absurd z

  a_life : Life four_sites R first (transcript R first)
  a_life = record {
    few = omega arith;
    each = each;
    ours = λ s d h. let k = fine_site refl h in record { below = omega arith; is_sound = lt-ltb s 3 k };
    agreed = λ x y r t u n o g h. let k = fine_round refl g in let l = fine_round refl h in (omega arith, omega arith);
  }

  first_round : Certified four_sites (transcript R first) one_claim
  first_round = two_and_liar 0 1 (omega arith) (since (earlier (earlier saying))) (since (earlier saying))
    where
      since : {s : ℕ} {w : Word} → Wrote s w (at 11) → Wrote s w (at 0)
      since h = earlier (earlier (earlier (earlier (earlier (earlier (earlier (earlier (earlier (earlier (earlier h))))))))))

  written : Confirmed four_sites (transcript R first) mark_claim 0
  written = two_and_liar 0 1 (omega arith) (earlier (earlier (earlier answering))) (earlier (earlier answering))

  -- The writes of sites 0 and 1 are all of the book.
  is_book : Book four_sites (transcript R first) (mark_claim ∷ agreed_claim ∷ [])
  is_book = subst (Book four_sites (transcript R first)) all_of_it kept.is_book
    where
      kept : OneBook four_sites R first (transcript R first)
      kept = keeps_one_book a_life

      stands : Stands R first kept.book mark_claim 0
      stands = kept.stands mark_claim 0 written

      same_older : stands.older ≡ agreed_claim ∷ []
      same_older = begins_same (begins_older stands.there) (kept.begun 0 (record { below = omega arith; is_sound = refl })) (omega (arith, stands.at_place))

      there : Begins (mark_claim ∷ agreed_claim ∷ []) kept.book
      there = subst (λ l. Begins (mark_claim ∷ l) kept.book) same_older stands.there

      no_more : (c : Claim) → Begins (c ∷ mark_claim ∷ agreed_claim ∷ []) kept.book → ⊥
      no_more c b = let l = line_begin b kept.is_book.run in
          let h = shared a_life.few (line_fact l).certified (line_fact l).certified in
          omega (arith, line_place l, fine_grant refl (h.2 h.1.is_sound))

      all_of_it : kept.book ≡ mark_claim ∷ agreed_claim ∷ []
      all_of_it = ⊎_elim sym (λ h. absurd (no_more h.0 h.1)) (begins_next there)

  pub example : Example R first
  example = record {
    life = a_life;
    passing = passing_at_8;
    past_it = refl;
    no_more = λ k. omega (arith, k.within 1 (1, 1, happened_now));
    kept_it = refl;
    struck_it = refl;
    first_round = first_round;
    next_round = two_and_liar 0 1 (omega arith) (earlier (earlier (earlier (earlier (earlier saying))))) (earlier (earlier (earlier (earlier saying))));
    book = is_book;
    written = written;
    read = two_and_liar 0 1 (omega arith) (earlier saying) saying;
  }
