-- A pool that was handed a message goes on in every life that it is that of.
use Rattle.std.proofs.Common.{◌≡◌, ℕ, ◌<◌, true, false, eqb, ◌⊎◌, List, [], ◌∷◌, ◌++◌, length, set, Some, filter, Result, sym, refl, ap, ◌∙◌, subst, inl, inr, append-nil, length-set}
use Rattle.std.specs.List.{slice_get}
use Rattle.std.proofs.lemmas.List.Elements.{filter-append}
use Rattle.std.proofs.lemmas.Bool.{cond-true, cond-false, cond_both, eq-eqb, ne_eqb, cases_eq, both_ways}
use Rattle.object.specs.Rules.{Rules}
use Rattle.message.specs.declared.refusal.Refusal.{Refusal}
use Rattle.protocol.specs.Quorum.{Sound, sites}
use Rattle.site.specs.Call.{Called}
use Rattle.site.specs.Life.{Event, Setting, left, copy_after, called}
use Rattle.site.proofs.Promised.{promise_kept}
use Rattle.pool.specs.Delivering.{called_by, stepped, noted, Moment, CalledAt}
use Rattle.pool.specs.Lives.{copied, heard_in, at_sound, Stands, with_call, Goes_on, InLives}
use Rattle.pool.specs.Views.{Heard, View}
use Rattle.pool.proofs.Nths.{nth-below, nth-set_same, nth-set_other}

module _ {R : Rules} (in_a : Setting R) (life : List Event) (all : List (View R)) (transcript : List Heard) (stands : Stands in_a life all transcript) (e : Event) (v : View R) (there : slice_get all e.site ≡ Some v) where
  -- The call at the site as the pool has it.
  abbrev made : Called R
  made = called_by v e.message e.output e.board

  below : e.site < length all
  below = nth-below all e.site v there

  -- At a sound site it is the call of the life.
  is_copy : in_a.pool.sound e.site ≡ true → v ≡ copied in_a e.site (copy_after in_a life e.site)
  is_copy sound =
      let low : e.site < sites in_a.pool = subst (λ n. e.site < n) stands.many below in
      let same : slice_get all e.site ≡ Some (copied in_a e.site (copy_after in_a life e.site)) = stands.each e.site (record { below = low; is_sound = sound }) in
      cc

  is_called : in_a.pool.sound e.site ≡ true → made ≡ called in_a life e
  is_called sound = ap (λ (w : View R). called_by w e.message e.output e.board) (is_copy sound)

  same_step : (w x : View R) (c d : Called R) → w ≡ x → c ≡ d → stepped w c ≡ stepped x d
  same_step w x c d p q = cc

  is_stepped : in_a.pool.sound e.site ≡ true → stepped v made ≡ copied in_a e.site (left in_a (called in_a life e))
  is_stepped sound = same_step v (copied in_a e.site (copy_after in_a life e.site)) made (called in_a life e) (is_copy sound) (is_called sound)

  long : length (set all e.site (stepped v made)) ≡ sites in_a.pool
  long = length-set all e.site (stepped v made) ∙ stands.many

  told_more : filter (at_sound in_a) (transcript ++ noted e.site e.message made ∷ []) ≡ heard_in in_a life ++ filter (at_sound in_a) (noted e.site e.message made ∷ [])
  told_more = filter-append (at_sound in_a) transcript (noted e.site e.message made ∷ []) ∙ ap (λ (l : List Heard). l ++ filter (at_sound in_a) (noted e.site e.message made ∷ [])) stands.told

  own_after : copy_after in_a (e ∷ life) e.site ≡ left in_a (called in_a life e)
  own_after = cond-true (eqb e.site e.site) (left in_a (called in_a life e)) (copy_after in_a life e.site) (eq-eqb e.site e.site refl)

  other_after : (s : ℕ) → (s ≡ e.site → ⊥) → copy_after in_a (e ∷ life) s ≡ copy_after in_a life s
  other_after s other = cond-false (eqb s e.site) (left in_a (called in_a life e)) (copy_after in_a life s) (ne_eqb s e.site other)

  abbrev AsLeft : ℕ → Type 0
  AsLeft s = slice_get (set all e.site (stepped v made)) s ≡ Some (copied in_a s (copy_after in_a (e ∷ life) s))

  left_there : in_a.pool.sound e.site ≡ true → AsLeft e.site
  left_there sound =
      let new : slice_get (set all e.site (stepped v made)) e.site ≡ Some (stepped v made) = nth-set_same all e.site (stepped v made) below in
      let step : stepped v made ≡ copied in_a e.site (left in_a (called in_a life e)) = is_stepped sound in
      let own : copied in_a e.site (left in_a (called in_a life e)) ≡ copied in_a e.site (copy_after in_a (e ∷ life) e.site) = ap (copied in_a e.site) (sym own_after) in
      new ∙ ap Some (step ∙ own)

  left_elsewhere : (s : ℕ) → Sound in_a.pool s → (s ≡ e.site → ⊥) → AsLeft s
  left_elsewhere s ok other =
      let stay : slice_get (set all e.site (stepped v made)) s ≡ slice_get all s = nth-set_other all e.site s (stepped v made) other in
      let was : slice_get all s ≡ Some (copied in_a s (copy_after in_a life s)) = stands.each s ok in
      let same : copied in_a s (copy_after in_a life s) ≡ copied in_a s (copy_after in_a (e ∷ life) s) = ap (copied in_a s) (sym (other_after s other)) in
      stay ∙ was ∙ ap Some same

  as_left : in_a.pool.sound e.site ≡ true → (s : ℕ) → Sound in_a.pool s → (s ≡ e.site) ⊎ (s ≡ e.site → ⊥) → AsLeft s
  as_left sound s ok (inl same) = subst AsLeft (sym same) (left_there sound)
  as_left sound s ok (inr other) = left_elsewhere s ok other

  told_called : in_a.pool.sound e.site ≡ true → filter (at_sound in_a) (noted e.site e.message made ∷ []) ≡ noted e.site e.message (called in_a life e) ∷ []
  told_called sound =
      cond-true (in_a.pool.sound e.site) (noted e.site e.message made ∷ []) [] sound
      ∙ ap (λ (c : Called R). noted e.site e.message c ∷ []) (is_called sound)

  -- At a sound site, the life has the call.
  stands_called : in_a.pool.sound e.site ≡ true → Stands in_a (e ∷ life) (set all e.site (stepped v made)) (transcript ++ noted e.site e.message made ∷ [])
  stands_called sound = record {
    many = long;
    each = λ s ok. as_left sound s ok (cases_eq s e.site);
    told = told_more ∙ ap (λ (l : List Heard). heard_in in_a life ++ l) (told_called sound);
  }

  -- At another site it has not.
  stands_uncalled : in_a.pool.sound e.site ≡ false → Stands in_a life (set all e.site (stepped v made)) (transcript ++ noted e.site e.message made ∷ [])
  stands_uncalled unsound = record {
    many = long;
    each = λ s ok. nth-set_other all e.site s (stepped v made) (λ same. both_ways (in_a.pool.sound e.site) unsound (subst (λ t. in_a.pool.sound t ≡ true) same ok.is_sound)) ∙ stands.each s ok;
    told = told_more
        ∙ ap (λ (l : List Heard). heard_in in_a life ++ l) (cond-false (in_a.pool.sound e.site) (noted e.site e.message made ∷ []) [] unsound)
        ∙ append-nil (heard_in in_a life);
  }

  goes : Goes_on in_a life e (set all e.site (stepped v made)) (transcript ++ noted e.site e.message made ∷ [])
  goes = record {
    stands = cond_both (in_a.pool.sound e.site) (e ∷ life) life (λ l. Stands in_a l (set all e.site (stepped v made)) (transcript ++ noted e.site e.message made ∷ [])) stands_called stands_uncalled;
    promise = promise_kept R in_a (with_call in_a life e);
  }

-- A pool that was handed a message goes on in every life that it is that of.
pub in_lives : {R : Rules} (m : Moment R) (site : ℕ) (message : List ℕ) (after : Moment R) (result : Result ℕ Refusal) → CalledAt m site message after result →
    InLives R m.sites m.transcript (record { site = site; message = message; output = m.output; board = m.board }) after.sites after.transcript
in_lives {R} m site message after result done in_a life stands =
    let e : Event = record { site = site; message = message; output = m.output; board = m.board } in
    subst (λ (x : Moment R). Goes_on in_a life e x.sites x.transcript) (sym done.left)
    (goes in_a life m.sites m.transcript stands e done.at_site done.there)
