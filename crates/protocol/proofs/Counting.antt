-- Which claims count: one for a place, and all of a site's writes but for at most the last. So they begin the book.
use Rattle.std.proofs.Common.{◌≡◌, ℕ, ◌<◌, ◌≤◌, List, [], ◌∷◌, length, sym, ap, subst, inl, inr, ⊎_elim, arith}
use Rattle.std.proofs.lemmas.Bool.{cases_lt, cases_order}
use Rattle.object.specs.Rules.{Rules}
use Rattle.protocol.specs.Words.{Claim, took, Transcript}
use Rattle.protocol.specs.Quorum.{Pool}
use Rattle.protocol.specs.Book.{Happened, Closed, NextBelow, Counts, Line, line_more, Book, Begins}
use Rattle.protocol.specs.Moves.{Site, round_in, writes_in}
use Rattle.protocol.specs.Promise.{Life}
use Rattle.protocol.proofs.Lists.{begins_nil, begins_length, begins_next, begins_both, begins_older, line_map, line_begin, line_place, line_fact}
use Rattle.protocol.proofs.Shape.{Band, Shape, line_in}
use Rattle.protocol.proofs.Rounds.{Went, Visited, went_from, went_up, agreed, none_between, lower_closed, closed_went}
use Rattle.protocol.proofs.Targets.{rises, closed_started, left_within, near, certified_visited, one_claim}

module _ {pool : Pool} {R : Rules} {first : R.Value} {T : Transcript} (life : Life pool R first T) where
  -- The closed round next below a round is the one that sites came into it from.
  pub next_below_is : {u t r x y : ℕ} → Went T u t r → NextBelow T r x y → y ≡ t
  next_below_is {u} {t} {r} {x} {y} g n =
      let c = closed_went n.closed in let h = n.highest u t (g.site, r, g.took_it) (went_up life g) in ⊎_elim
      (λ e. (agreed life (subst (λ a. Went T a y c.0) e c.1) g).0)
      (⊎_elim (λ l. absurd (omega arith)) (λ l. absurd (none_between life (went_from life c.1) g l n.lower))) (cases_order x u)

  pub next_below_of : {u t r : ℕ} → Went T u t r → NextBelow T r u t
  next_below_of {u} {t} {r} g = record {
    closed = (g.site, r, g.took_it);
    lower = went_up life g;
    highest = λ x y c l. ⊎_elim (λ i. absurd (none_between life (went_from life (closed_went c).1) g i l)) (λ i. i) (cases_lt u x);
  }

  -- A counting claim of a lower round lies below those of higher rounds.
  apart : (c d : Claim) → Counts pool T c → Counts pool T d → c.round < d.round → c.place < d.place
  apart c d k l i = from (certified_visited life l.certified)
    where
      from : Visited T d.round → c.place < d.place
      from (inl e) = absurd (omega arith)
      from (inr v) = let a = l.above v.0 v.1 (next_below_of v.2) in let w = certified_visited life k.certified in ⊎_elim
          (λ e. let b = k.within v.1 (v.2.site, d.round, subst (λ r. Happened v.2.site (took r v.1 d.round) T) (sym e) v.2.took_it) in omega arith)
          (⊎_elim
          (λ m. let x = lower_closed life w (went_from life v.2) m in let y = rises life x.2 v.2 m in let b = k.within x.0 (x.2.site, x.1, x.2.took_it) in omega arith)
          (λ m. absurd (none_between life w v.2 m i)))
          (cases_order c.round v.0)

  -- At most one claim counts for a place.
  pub one_counting : (c d : Claim) → Counts pool T c → Counts pool T d → c.place ≡ d.place → c ≡ d
  one_counting c d k l e = ⊎_elim (λ r. one_claim life c d k.certified l.certified r e)
      (⊎_elim (λ i. let a = apart c d k l i in absurd (omega arith)) (λ i. let a = apart d c l k i in absurd (omega arith)))
      (cases_order c.round d.round)

  -- A run of counting claims begins the book.
  pub run_begins : {book : List Claim} (w : List Claim) → Book pool T book → Line (Counts pool T) 0 w → Begins w book
  run_begins [] b l = begins_nil _
  run_begins {book} (c ∷ w) b (line_more e k l) = ⊎_elim
      (λ i. let p = ap length i in absurd (b.longest c k (omega arith)))
      (λ i. let j = line_begin i.1 b.run in let p = line_place j in
      subst (λ x. Begins (x ∷ w) book) (sym (one_counting c i.0 k (line_fact j) (omega arith))) i.1)
      (begins_next (run_begins w b l))

  pub one_book : {book other : List Claim} → Book pool T book → Book pool T other → other ≡ book
  one_book {book} {other} b o = begins_both (run_begins other b o.run) (run_begins book o b.run)

  -- One of a site's writes counts, unless its round is closed below it.
  band_counts : {s v : ℕ} {c : Claim} → Band s pool T v c → ((t : ℕ) → Closed T c.round t → c.place ≤ t) → Counts pool T c
  band_counts {s} {v} {c} b k = record {
    certified = b.certified;
    within = k;
    above = λ u t n. ⊎_elim (λ e. absurd (omega (arith, n.lower)))
        (λ h. let e = next_below_is (record { site = s; took_it = h.2 }) n in omega arith) b.low;
  }

  -- It is not, if it is not the site's last.
  within_last : {s : ℕ} {st : Site} (c : Claim) → Shape s pool T st → Band s pool T (round_in st) c → c.place < length (writes_in st) → (t : ℕ) → Closed T c.round t → c.place ≤ t
  within_last c h b l t k = ⊎_elim (λ e. let n = near life h (closed_started life (subst (λ r. Closed T r t) e k)) in omega arith) (left_within life k) b.high

  -- So what begins a site's writes, and is not all of them, is a run of counting claims;
  pub older_count : {s : ℕ} {st : Site} {w : List Claim} → Shape s pool T st → Begins w (writes_in st) → length w < length (writes_in st) → Line (Counts pool T) 0 w
  older_count {s} h b l = line_map (Counts pool T) (λ c p k. band_counts k (within_last c h k (omega arith))) (line_begin b (line_in h))

  -- and so is all of it, if the last lies within the target of its round.
  pub all_count : {s : ℕ} {st : Site} {c : Claim} {w : List Claim} → Shape s pool T st → Begins (c ∷ w) (writes_in st) → ((t : ℕ) → Closed T c.round t → c.place ≤ t) → Line (Counts pool T) 0 (c ∷ w)
  all_count {s} h b k = let l = line_begin b (line_in h) in
      line_more (line_place l) (band_counts (line_fact l) k) (older_count h (begins_older b) (begins_length b))
