-- A pool that begins.
use Rattle.std.proofs.Common.{◌≡◌, ℕ, zero, suc, ◌+◌, ◌*◌, ◌<◌, ◌≤◌, Bool, true, cond, ◌&&◌, ltb, leb, ◌⊎◌, List, [], ◌∷◌, ◌++◌, map, length, Some, None, filter, sym, refl, ap, ◌∙◌, subst, inl, inr, arith}
use Rattle.std.specs.List.{slice_get}
use Rattle.std.proofs.lemmas.List.{length_push, length-map, map_push}
use Rattle.std.proofs.lemmas.Option.{slice_get_past}
use Rattle.std.proofs.lemmas.Bool.{cond-true, cond-false, lt-ltb, le-ltb, le-leb, and_parts, and_from, cases_order}
use Rattle.object.specs.Rules.{Rules}
use Rattle.site.specs.Fit.{fit_figures, fitted_f, fitted_number}
use Rattle.site.specs.Call.{fresh}
use Rattle.site.specs.Ledgers.{Kept}
use Rattle.pool.specs.Delivering.{fresh_view, FreshBelow, Fresh}
use Rattle.pool.specs.Lives.{BeginsLives}
use Rattle.site.specs.declared.site.Site.{Site}
use Rattle.pool.specs.Views.{Heard, heard, View, view, views}
use Rattle.pool.specs.declared.entry.Entry.{Entry}

nth-push_below : {A : Type 0} (xs : List A) (x : A) (s : ℕ) → s < length xs → slice_get (xs ++ x ∷ []) s ≡ slice_get xs s
nth-push_below [] x s h = absurd (omega arith)
nth-push_below (y ∷ ys) x zero h = refl
nth-push_below (y ∷ ys) x (suc s) h = nth-push_below ys x s (omega arith)

nth-push : {A : Type 0} (xs : List A) (x : A) (s : ℕ) → s ≡ length xs → slice_get (xs ++ x ∷ []) s ≡ Some x
nth-push [] x zero e = refl
nth-push [] x (suc s) e = absurd (omega arith)
nth-push (y ∷ ys) x zero e = absurd (omega arith)
nth-push (y ∷ ys) x (suc s) e = nth-push ys x s (omega arith)

module _ {R : Rules} (f : ℕ) (accepts : List ℕ → Bool) (kept : Kept R) where
  pub fresh_none : FreshBelow {R = R} 0 f accepts kept []
  fresh_none s = sym (cond-false (ltb s 0) (Some (fresh_view f accepts kept s)) None (le-ltb s 0 (omega arith)))

  more : (n : ℕ) (all : List (View R)) (v : View R) → length all ≡ n → FreshBelow n f accepts kept all → v ≡ fresh_view f accepts kept n →
      (s : ℕ) → (s ≡ n) ⊎ ((s < n) ⊎ (n < s)) → slice_get (all ++ v ∷ []) s ≡ cond (ltb s (n + 1)) (Some (fresh_view f accepts kept s)) None
  more n all v long below is s (inl same) =
      nth-push all v s (omega arith) ∙ ap Some (is ∙ ap (fresh_view f accepts kept) (sym same)) ∙ sym (cond-true (ltb s (n + 1)) (Some (fresh_view f accepts kept s)) None (lt-ltb s (n + 1) (omega arith)))
  more n all v long below is s (inr (inl low)) =
      nth-push_below all v s (omega arith) ∙ below s ∙ cond-true (ltb s n) (Some (fresh_view f accepts kept s)) None (lt-ltb s n low)
      ∙ sym (cond-true (ltb s (n + 1)) (Some (fresh_view f accepts kept s)) None (lt-ltb s (n + 1) (omega arith)))
  more n all v long below is s (inr (inr high)) =
      let whole : length (all ++ v ∷ []) ≤ s = omega (arith, length_push all v) in
      slice_get_past (all ++ v ∷ []) s whole ∙ sym (cond-false (ltb s (n + 1)) (Some (fresh_view f accepts kept s)) None (le-ltb s (n + 1) (omega arith)))

  pub fresh_more : (n : ℕ) (all : List (View R)) (v : View R) → length all ≡ n → FreshBelow n f accepts kept all → v ≡ fresh_view f accepts kept n → FreshBelow (n + 1) f accepts kept (all ++ v ∷ [])
  fresh_more n all v long below is s = more n all v long below is s (cases_order s n)

-- A pool of fresh sites is that of the empty life.
pub begins : {R : Rules} (f : ℕ) (accepts : List ℕ → Bool) (kept : Kept R) (all : List (View R)) (transcript : List Heard) →
    length all ≡ 3 * f + 1 → Fresh f accepts kept all → transcript ≡ [] → BeginsLives R f accepts kept all transcript
begins {R} f accepts kept all transcript long new none sound = record {
  many = long;
  each = λ s ok. new s ∙ cond-true (ltb s (3 * f + 1)) (Some (fresh_view f accepts kept s)) None (lt-ltb s (3 * f + 1) ok.below);
  told = ap (λ (l : List Heard). filter (λ (h : Heard). sound h.site) l) none;
}

-- The numbers of a pool's sites fit.
pub fits_below : (f m n : ℕ) → fit_figures f m ≡ true → n < 3 * f + 1 → (fitted_f f n ≡ f) × (fitted_number f n ≡ n)
fits_below f m n fit low =
    let outer = and_parts (leb 1 f && leb f 5) (leb m (3 * f)) fit in
    let ok : fit_figures f n ≡ true = and_from (leb 1 f && leb f 5) (leb n (3 * f)) outer.0 (le-leb n (3 * f) (omega arith)) in
    (cond-true (fit_figures f n) f 1 ok, cond-true (fit_figures f n) n 0 ok)

-- One more fresh site.
pub is_fresh : {R : Rules} (f m n : ℕ) (means : List ℕ → Bool) (kept : Kept R) (v : View R) → fit_figures f m ≡ true → n < 3 * f + 1 →
    v ≡ fresh_view (fitted_f f n) means kept (fitted_number f n) → v ≡ fresh_view f means kept n
is_fresh f m n means kept v fit low is =
    let fits = fits_below f m n fit low in
    let a = fits.0 in
    let b = fits.1 in
    cc

module _ (R : Rules) {N O : Type 0} (means : N → List ℕ → Bool) (holds : O → Kept R) (notary : N) (object : O) where
  abbrev StandBelow : ℕ → ℕ → List (Site N O) → Type 0
  StandBelow n f all = FreshBelow n f (means notary) (holds object) (views R means holds all)

  pub site_more : (f m n : ℕ) (all after : List (Site N O)) (s : Site N O) → fit_figures f m ≡ true → n < 3 * f + 1 → length all ≡ n → StandBelow n f all →
      s.figures.f ≡ fitted_f f n → s.figures.number ≡ fitted_number f n → s.replica.state ≡ fresh → s.notary ≡ notary → s.replica.object ≡ object →
      after ≡ all ++ s ∷ [] → StandBelow (n + 1) f after
  site_more f m n all after s fit low long below a b c d e more =
      let v = view R means holds in
      let made : v s ≡ fresh_view (fitted_f f n) (means notary) (holds object) (fitted_number f n) = cc in
      let one : v s ≡ fresh_view f (means notary) (holds object) n = is_fresh f m n (means notary) (holds object) (v s) fit low made in
      let many : length (map v all) ≡ n = length-map all v ∙ long in
      let split : map v after ≡ map v all ++ v s ∷ [] = ap (map v) more ∙ map_push v all s in
      subst (FreshBelow (n + 1) f (means notary) (holds object)) (sym split) (fresh_more f (means notary) (holds object) n (map v all) (v s) many below one)

  pub pool_begins : (f g n : ℕ) (all : List (Site N O)) (entries : List Entry) → f ≡ g → n ≡ 3 * f + 1 → length all ≡ n → StandBelow n f all → entries ≡ [] →
      (Fresh g (means notary) (holds object) (views R means holds all) × (map heard entries ≡ []))
      × BeginsLives R g (means notary) (holds object) (views R means holds all) (map heard entries)
  pool_begins f g n all entries same whole long below none =
      let all_of : StandBelow (3 * g + 1) g all = subst (λ k. StandBelow (3 * k + 1) k all) same (subst (λ k. StandBelow k f all) whole below) in
      let told : map heard entries ≡ [] = ap (map heard) none in
      let many : length (views R means holds all) ≡ 3 * g + 1 = length-map all (view R means holds) ∙ long ∙ whole ∙ ap (λ k. 3 * k + 1) same in
      ((all_of, told), begins g (means notary) (holds object) (views R means holds all) (map heard entries) many all_of told)
