-- How lives begin and go on, and that their moments are lives.
use Rattle.std.proofs.Common.{◌≡◌, ℕ, ◌⊎◌, [], ◌∷◌, sym, refl, subst, inl, inr, ⊎_elim}
use Rattle.std.proofs.lemmas.Bool.{cases_eq}
use Rattle.object.specs.Rules.{Rules}
use Rattle.protocol.specs.Words.{Deed, Event, did, Transcript}
use Rattle.protocol.specs.Quorum.{Pool, Sound}
use Rattle.protocol.specs.Book.{Happened, happened_now, happened_before, Begins, whole, more}
use Rattle.protocol.specs.Moves.{Site, fresh, Move, History, begins, others, own}
use Rattle.protocol.specs.Promise.{Few, Agreed, Life, Lives}

by_whom : {s x : ℕ} {b d : Deed} {T : Transcript} → Happened x b (did s d ∷ T) → (s ≡ x) ⊎ Happened x b T
by_whom happened_now = inl refl
by_whom (happened_before h) = inr h

-- A site's history, one event earlier.
shorter : {pool : Pool} {R : Rules} {first : R.Value} {s : ℕ} {e : Event} {T : Transcript} {st : Site} → History pool R first s (e ∷ T) st → (st : Site) × History pool R first s T st
shorter (others {st = st} n h) = (st, h)
shorter (own {st = st} h m) = (st, h)

module _ {pool : Pool} {R : Rules} {first : R.Value} where
  nothing_yet : Few pool → Life pool R first []
  nothing_yet few = record { few = few; agreed = λ x y r t u n o h. elim h [ ]; ours = λ s d h. elim h [ ]; each = λ s i. (fresh, begins) }

  goes_on : {T : Transcript} (life : Life pool R first T) {s : ℕ} (i : Sound pool s) {d : Deed} {st : Site} → Move pool R first s T (life.each s i).0 d st → Agreed (did s d ∷ T) → Life pool R first (did s d ∷ T)
  goes_on {T} life {s} i {d} {st} m a = record { few = life.few; agreed = a; ours = λ x b h. whose x b h; each = λ x j. ⊎_elim (λ e. mine x j e) (λ n. ((life.each x j).0, others (λ e. n (sym e)) (life.each x j).1)) (cases_eq x s) }
    where
      mine : (x : ℕ) → Sound pool x → x ≡ s → (st : Site) × History pool R first x (did s d ∷ T) st
      mine x j e = (st, subst (λ y. History pool R first y (did s d ∷ T) st) (sym e) (own (life.each s i).1 m))

      whose : (x : ℕ) (b : Deed) → Happened x b (did s d ∷ T) → Sound pool x
      whose x b h = ⊎_elim (λ e. subst (Sound pool) e i) (λ o. life.ours x b o) (by_whom h)

  moment : {past : Transcript} {T : Transcript} → Begins past T → Life pool R first T → Life pool R first past
  moment whole life = life
  moment (more b) life = moment b (record {
    few = life.few;
    agreed = λ x y r t u n o g h. life.agreed x y r t u n o (happened_before g) (happened_before h);
    ours = λ s d h. life.ours s d (happened_before h);
    each = λ s i. shorter (life.each s i).1;
  })

  pub lives : Lives pool R first
  lives = record { begin = nothing_yet; go_on = λ T life s i d st. goes_on life i; moments = λ past T. moment }
