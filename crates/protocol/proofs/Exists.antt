-- The book exists: whether a claim counts can be decided, and only claims that some sound site granted are certified.
use Rattle.std.proofs.Common.{◌≡◌, ℕ, zero, suc, ◌+◌, ◌<◌, ◌≤◌, Bool, true, false, ◌⊎◌, List, [], ◌∷◌, length, sym, refl, ap, subst, inl, inr, ⊎_elim, arith}
use native.Mathlib.Decide.{dec_le, dec_lt, ℕ_discrete}
use mathlib.Core.List.{List-discrete}
use mathlib.Core.Logic.Dec
use Rattle.std.proofs.lemmas.Bool.{both_ways, cases_eq}
use Rattle.object.specs.Rules.{Rules}
use Rattle.protocol.specs.Words.{Claim, Word, grant, answer, start, reading, Deed, answered, took, said, silent, Event, did, Transcript}
use Rattle.protocol.specs.Quorum.{Pool}
use Rattle.protocol.specs.Book.{Happened, happened_now, happened_before, Wrote, saying, answering, earlier, Backs, Certified, Closed, NextBelow, Counts, Line, line_none, line_more, Book, Begins, whole, more}
use Rattle.protocol.specs.Promise.{Life}
use Rattle.protocol.proofs.Quorums.{shared, quorum_dec}
use Rattle.protocol.proofs.Travel.{Is, same, latest}
use Rattle.protocol.proofs.Grants.{Utters, by_said, by_answered}
use Rattle.protocol.proofs.Rounds.{Visited, agreed, closed_went}
use Rattle.protocol.proofs.Targets.{certified_visited}
use Rattle.protocol.proofs.Counting.{next_below_is, next_below_of}

-- Claims can be compared.
claim_dec : (c d : Claim) → Dec (c ≡ d)
claim_dec c d = Dec.of_iff (
  λ h i. record { client = h.0 i; number = h.1.0 i; round = h.1.1.0 i; place = h.1.1.1.0 i; operation = h.1.1.1.1 i },
  λ p. (ap (λ x. x.client) p, (ap (λ x. x.number) p, (ap (λ x. x.round) p, (ap (λ x. x.place) p, ap (λ x. x.operation) p)))),
)
    (Dec.and (ℕ_discrete c.client d.client) (Dec.and (ℕ_discrete c.number d.number) (Dec.and (ℕ_discrete c.round d.round)
    (Dec.and (ℕ_discrete c.place d.place) (List-discrete ℕ_discrete c.operation d.operation)))))

-- Whether a deed writes a GRANT can be decided,
same_granted : {c e : Claim} → Utters (said (grant e)) (grant c) → e ≡ c
same_granted by_said = refl

utters_dec : (d : Deed) (c : Claim) → Dec (Utters d (grant c))
utters_dec (said (grant e)) c = Dec.of_iff (λ h. subst (λ y. Utters (said (grant e)) (grant y)) h by_said, same_granted) (claim_dec e c)
utters_dec (said (answer e a)) c = no (λ u. elim u [ ])
utters_dec (said (start r k)) c = no (λ u. elim u [ ])
utters_dec (said (reading q r p a)) c = no (λ u. elim u [ ])
utters_dec (answered e a) c = no (λ u. elim u [ ])
utters_dec (took r t x) c = no (λ u. elim u [ ])
utters_dec silent c = no (λ u. elim u [ ])

-- and so can whether a site wrote it,
by_whom : {s x : ℕ} {w : Word} {d : Deed} {T : Transcript} → Wrote s w (did x d ∷ T) → ((x ≡ s) × Utters d w) ⊎ Wrote s w T
by_whom saying = inl (refl, by_said)
by_whom answering = inl (refl, by_answered)
by_whom (earlier w) = inr w

writing : {s : ℕ} {w : Word} {d : Deed} {T : Transcript} → Utters d w → Wrote s w (did s d ∷ T)
writing by_said = saying
writing by_answered = answering

wrote_dec : (s : ℕ) (c : Claim) (T : Transcript) → Dec (Wrote s (grant c) T)
wrote_dec s c [] = no (λ w. elim w [ ])
wrote_dec s c (did x d ∷ T) = from (wrote_dec s c T)
  where
    from : Dec (Wrote s (grant c) T) → Dec (Wrote s (grant c) (did x d ∷ T))
    from (yes w) = yes (earlier w)
    from (no n) = Dec.of_iff (λ h. subst (λ y. Wrote s (grant c) (did y d ∷ T)) (sym h.0) (writing h.1), λ w. ⊎_elim (λ h. h) (λ o. absurd (n o)) (by_whom w))
        (Dec.and (ℕ_discrete x s) (utters_dec d c))

-- and whether the claim is certified.
backs_dec : (pool : Pool) (T : Transcript) (c : Claim) (s : ℕ) → Dec (Backs pool T (grant c) s)
backs_dec pool T c s = from (pool.sound s) refl (wrote_dec s c T)
  where
    from : (b : Bool) → pool.sound s ≡ b → Dec (Wrote s (grant c) T) → Dec (Backs pool T (grant c) s)
    from b e (yes w) = yes (λ i. w)
    from true e (no n) = no (λ h. n (h e))
    from false e (no n) = yes (λ i. absurd (both_ways (pool.sound s) e i))

certified_dec : (pool : Pool) (T : Transcript) (c : Claim) → Dec (Certified pool T c)
certified_dec pool T c = quorum_dec (Backs pool T (grant c)) (backs_dec pool T c)

-- Whether a round is closed can be decided.
same_took : {r t x u w y : ℕ} → Is (took r t x) (took u w y) → u ≡ r
same_took same = refl

closed_dec : (r : ℕ) (T : Transcript) → ((t : ℕ) × Closed T r t) ⊎ ((t : ℕ) → Closed T r t → ⊥)
closed_dec r [] = inr (λ t h. elim h.2 [ ])
closed_dec r (did x d ∷ T) = ⊎_elim (λ h. inl (h.0, (h.1.0, h.1.1, happened_before h.1.2))) (from d) (closed_dec r T)
  where
    none : (d : Deed) → ((t z : ℕ) → Is (took r t z) d → ⊥) → ((t : ℕ) → Closed T r t → ⊥) → (t : ℕ) → Closed (did x d ∷ T) r t → ⊥
    none d m n t h = ⊎_elim (m t h.1) (λ o. n t (h.0, h.1, o)) (latest h.2)

    from : (d : Deed) → ((t : ℕ) → Closed T r t → ⊥) → ((t : ℕ) × Closed (did x d ∷ T) r t) ⊎ ((t : ℕ) → Closed (did x d ∷ T) r t → ⊥)
    from (answered c a) n = inr (none (answered c a) (λ t z i. elim i [ ]) n)
    from (took u t z) n = ⊎_elim (λ e. inl (t, (x, z, subst (λ y. Happened x (took y t z) (did x (took u t z) ∷ T)) e happened_now)))
        (λ m. inr (none (took u t z) (λ a b i. m (same_took i)) n)) (cases_eq u r)
    from (said w) n = inr (none (said w) (λ t z i. elim i [ ]) n)
    from silent n = inr (none silent (λ t z i. elim i [ ]) n)

-- The claims that were granted.
granted : Transcript → List Claim
granted [] = []
granted (did s (said (grant c)) ∷ T) = c ∷ granted T
granted (did s (said (answer c a)) ∷ T) = granted T
granted (did s (said (start r k)) ∷ T) = granted T
granted (did s (said (reading q r p a)) ∷ T) = granted T
granted (did s (answered c a) ∷ T) = granted T
granted (did s (took r t x) ∷ T) = granted T
granted (did s silent ∷ T) = granted T

-- The claim is one of a list.
record Among (c : Claim) (l : List Claim) : Type 0 where
  rest : List Claim
  there : Begins (c ∷ rest) l

among_later : (e : Event) (T : Transcript) {c : Claim} → Among c (granted T) → Among c (granted (e ∷ T))
unfolding granted
among_later (did s (said (grant c))) T h = record { rest = h.rest; there = more h.there }
among_later (did s (said (answer c a))) T h = h
among_later (did s (said (start r k))) T h = h
among_later (did s (said (reading q r p a))) T h = h
among_later (did s (answered c a)) T h = h
among_later (did s (took r t x)) T h = h
among_later (did s silent) T h = h

among : {s : ℕ} {c : Claim} {T : Transcript} → Wrote s (grant c) T → Among c (granted T)
unfolding granted
among (saying {T = T}) = record { rest = granted T; there = whole }
among (earlier {e = e} {T = T} w) = among_later e T (among w)

-- A bound of their places.
total : List Claim → ℕ
total [] = 0
total (c ∷ l) = c.place + total l

below_total : {c : Claim} {rest : List Claim} {l : List Claim} → Begins (c ∷ rest) l → c.place ≤ total l
unfolding total
below_total whole = omega arith
below_total (more h) = let k = below_total h in omega arith

-- One of a list that is P, or none is.
find : (P : Claim → Type 0) → ((c : Claim) → Dec (P c)) → (l : List Claim) → ((c : Claim) × P c) ⊎ ((c : Claim) → Among c l → P c → ⊥)
find P dec [] = inr (λ c h. elim h.there [ ])
find P dec (c ∷ l) = from (dec c) (find P dec l)
  where
    not_here : {e : Claim} {rest : List Claim} → (P c → ⊥) → ((d : Claim) → Among d l → P d → ⊥) → Begins (e ∷ rest) (c ∷ l) → P e → ⊥
    not_here n m whole p = n p
    not_here {e} {rest} n m (more h) p = m e (record { rest = rest; there = h }) p

    from : Dec (P c) → ((c : Claim) × P c) ⊎ ((d : Claim) → Among d l → P d → ⊥) → ((c : Claim) × P c) ⊎ ((d : Claim) → Among d (c ∷ l) → P d → ⊥)
    from (yes p) h = inl (c, p)
    from (no n) (inl h) = inl h
    from (no n) (inr m) = inr (λ d h. not_here n m h.there)

module _ {pool : Pool} {R : Rules} {first : R.Value} {T : Transcript} (life : Life pool R first T) where
  -- Whether a claim counts can be decided.
  above_dec : (c : Claim) → Visited T c.round → Dec ((u t : ℕ) → NextBelow T c.round u t → t < c.place)
  above_dec c (inl e) = yes (λ u t n. absurd (omega (arith, n.lower)))
  above_dec c (inr v) = Dec.of_iff (λ l u t n. (let e = next_below_is life v.2 n in omega arith), λ h. h v.0 v.1 (next_below_of life v.2)) (dec_lt v.1 c.place)

  within_dec : (c : Claim) → Dec ((t : ℕ) → Closed T c.round t → c.place ≤ t)
  within_dec c = ⊎_elim
      (λ h. Dec.of_iff (λ l t k. (let e = agreed life (closed_went k).1 (closed_went h.1).1 in omega arith), λ g. g h.0 h.1) (dec_le c.place h.0))
      (λ n. yes (λ t k. absurd (n t k))) (closed_dec c.round T)

  counts_dec : (c : Claim) → Dec (Counts pool T c)
  counts_dec c = from (certified_dec pool T c)
    where
      from : Dec (Certified pool T c) → Dec (Counts pool T c)
      from (no n) = no (λ k. n k.certified)
      from (yes k) = Dec.of_iff (λ h. record { certified = k; above = h.0; within = h.1 }, λ h. (h.above, h.within))
          (Dec.and (above_dec c (certified_visited life k)) (within_dec c))

  -- A counting claim was granted.
  counts_among : (c : Claim) → Counts pool T c → Among c (granted T)
  counts_among c k = let h = shared life.few k.certified k.certified in among (h.2 h.1.is_sound)

  At : ℕ → Claim → Type 0
  At p c = Counts pool T c × (c.place ≡ p)

  -- A run of counting claims goes on to the book.
  grow : (n : ℕ) (w : List Claim) → Line (Counts pool T) 0 w → total (granted T) < length w + n → (book : List Claim) × Book pool T book
  unfolding At
  grow zero w l b = (w, record { run = l; longest = λ c k e. let m = below_total (counts_among c k).there in omega arith })
  grow (suc n) w l b = ⊎_elim
      (λ h. grow n (h.0 ∷ w) (line_more (omega (arith, h.1.1)) h.1.0 l) (omega arith))
      (λ n. (w, record { run = l; longest = λ c k e. n c (counts_among c k) (k, e) }))
      (find (At (suc (length w))) (λ c. Dec.and (counts_dec c) (ℕ_discrete c.place (suc (length w)))) (granted T))

  pub there_is_a_book : (book : List Claim) × Book pool T book
  there_is_a_book = grow (suc (total (granted T))) [] line_none (omega arith)
