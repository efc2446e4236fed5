-- From the laws of a likeness to the law of the finder.
use Rattle.std.proofs.Common.{◌≡◌, ℕ, Bool, true, ◌&&◌, List, [], ◌∷◌, Some, None, Option, sym, refl, subst}
use Rattle.finder.proofs.Best.{Good, group_best}
use Rattle.finder.proofs.Classes.{all_both}
use Rattle.finder.specs.Groups.{best_group}
use Rattle.finder.specs.Law.{Agree, Best, Pairs, Quorum, Sent}
use Rattle.finder.specs.Replies.{both, together}
use Rattle.std.proofs.ByRecursion.{All-weaker}
use Rattle.std.proofs.lemmas.Bool.{and_from, and_parts, false≢true}
use Rattle.std.specs.List.{slice_get, AllByRecursion as All}

pairs_join :
    (P : ℕ → Type 0) (A B : ℕ → ℕ → Type 0) → ((i j : ℕ) → P i → P j → A i j → B i j) → (xs : List ℕ) → All P xs →
    Pairs A xs → Pairs B xs
pairs_join P A B join [] all pairs = tt
pairs_join P A B join (x ∷ xs) (here, all) (first, pairs) =
    (all_both P (A x) (B x) (λ j there a. join x j here there a) xs all first, pairs_join P A B join xs all pairs)

module _
    {R : Type 0}
    (counted : R → Bool)
    (likened : R → R → Bool)
    (reflexive : (x : R) → likened x x ≡ true)
    (symmetric : (x y : R) → likened x y ≡ true → likened y x ≡ true)
    (transitive : (x y z : R) → likened x y ≡ true → likened y z ≡ true → likened x z ≡ true) where
  both_parts :
      (x y : R) → both counted likened (Some x) (Some y) ≡ true →
      (counted x ≡ true) × (counted y ≡ true) × (likened x y ≡ true)
  both_parts x y h =
      let outer = and_parts (counted x) (counted y && likened x y) h in
      let inner = and_parts (counted y) (likened x y) outer.1 in
      (outer.0, inner.0, inner.1)

  both_from :
      (x y : R) → counted x ≡ true → counted y ≡ true → likened x y ≡ true → both counted likened (Some x) (Some y) ≡ true
  both_from x y cx cy xy =
      and_from (counted x) (counted y && likened x y) cx (and_from (counted y) (likened x y) cy xy)

  both_sym : (x y : Option R) → both counted likened x y ≡ true → both counted likened y x ≡ true
  both_sym None y h = absurd (false≢true h)
  both_sym (Some x) None h = absurd (false≢true h)
  both_sym (Some x) (Some y) h =
      let parts = both_parts x y h in both_from y x parts.1 parts.0 (symmetric x y parts.2)

  both_trans :
      (x y z : Option R) → both counted likened x y ≡ true → both counted likened y z ≡ true →
      both counted likened x z ≡ true
  both_trans None y z h k = absurd (false≢true h)
  both_trans (Some x) None z h k = absurd (false≢true h)
  both_trans (Some x) (Some y) None h k = absurd (false≢true k)
  both_trans (Some x) (Some y) (Some z) h k =
      let xy = both_parts x y h in
      let yz = both_parts y z k in
      both_from x z xy.0 yz.1 (transitive x y z xy.2 yz.2)

  own_sent : (o : Option R) → both counted likened o o ≡ true → (x : R) × (o ≡ Some x) × (counted x ≡ true)
  own_sent None h = absurd (false≢true h)
  own_sent (Some x) h = (x, refl, (both_parts x x h).0)

  pair_from :
      (o p : Option R) → ((x : R) × (o ≡ Some x) × (counted x ≡ true)) →
      ((y : R) × (p ≡ Some y) × (counted y ≡ true)) →
      ((x y : R) → o ≡ Some x → p ≡ Some y → likened x y ≡ true) → both counted likened o p ≡ true
  pair_from o p (x, ox, cx) (y, py, cy) alike =
      subst
      (λ a. both counted likened a p ≡ true)
      (sym ox)
      (subst (λ b. both counted likened (Some x) b ≡ true) (sym py) (both_from x y cx cy (alike x y ox py)))

  own_from : (o : Option R) → ((x : R) × (o ≡ Some x) × (counted x ≡ true)) → both counted likened o o ≡ true
  own_from o (x, ox, cx) =
      subst (λ a. both counted likened a a ≡ true) (sym ox) (both_from x x cx cx (reflexive x))

  pair_agrees :
      (o p : Option R) → both counted likened o p ≡ true → (x y : R) → o ≡ Some x → p ≡ Some y → likened x y ≡ true
  pair_agrees o p h x y ox py =
      (both_parts x y
      (subst (λ b. both counted likened (Some x) b ≡ true) py (subst (λ a. both counted likened a p ≡ true) ox h))
      ).2

  module _ (replies : List R) (q : ℕ) where
    good_from :
        (sites : List ℕ) → Quorum counted likened replies q sites → Good (together counted likened replies) q sites
    good_from sites quorum =
        record {
          size = quorum.size;
          known = quorum.known;
          ordered = quorum.ordered;
          own =
              All-weaker
              (Sent counted replies)
              (λ i. together counted likened replies i i ≡ true)
              (λ i sent. own_from (slice_get replies i) sent)
              sites
              quorum.sent;
          paired =
              pairs_join
              (Sent counted replies)
              (Agree likened replies)
              (λ i j. together counted likened replies i j ≡ true)
              (λ i j si sj agree. pair_from (slice_get replies i) (slice_get replies j) si sj agree)
              sites
              quorum.sent
              quorum.agree;
        }

    quorum_from :
        (sites : List ℕ) → Good (together counted likened replies) q sites → Quorum counted likened replies q sites
    quorum_from sites good =
        record {
          size = good.size;
          known = good.known;
          ordered = good.ordered;
          sent =
              All-weaker
              (λ i. together counted likened replies i i ≡ true)
              (Sent counted replies)
              (λ i own. own_sent (slice_get replies i) own)
              sites
              good.own;
          agree =
              pairs_join
              (λ i. together counted likened replies i i ≡ true)
              (λ i j. together counted likened replies i j ≡ true)
              (Agree likened replies)
              (λ i j _ _ pair. pair_agrees (slice_get replies i) (slice_get replies j) pair)
              sites
              good.own
              good.paired;
        }

    best_from :
        (found : Option (List ℕ)) → Best (Good (together counted likened replies) q) found →
        Best (Quorum counted likened replies q) found
    best_from None best = λ other quorum. best other (good_from other quorum)
    best_from (Some sites) best =
        (quorum_from sites best.0, λ other quorum. best.1 other (good_from other quorum))

    -- what the finder gives is the best quorum
    pub finder_best :
        (found : Option (List ℕ)) → found ≡ best_group (together counted likened replies) q →
        Best (Quorum counted likened replies q) found
    finder_best found is =
        best_from found
        (subst
        (Best (Good (together counted likened replies) q))
        (sym is)
        (group_best
        (together counted likened replies)
        (λ i j. both_sym (slice_get replies i) (slice_get replies j))
        (λ i j k. both_trans (slice_get replies i) (slice_get replies j) (slice_get replies k))
        q))
