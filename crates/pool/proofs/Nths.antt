-- An element of a list by its place, after one was replaced.
use Rattle.std.proofs.Common.{◌≡◌, ℕ, zero, suc, ◌<◌, List, [], ◌∷◌, map, length, set, Some, None, Option, refl, ap, arith}
use Rattle.std.specs.List.{slice_get}
use Rattle.std.specs.Option.{option_map}

pub nth-below : {A : Type 0} (xs : List A) (i : ℕ) (x : A) → slice_get xs i ≡ Some x → i < length xs
nth-below [] i x e = let z : ◌≡◌ {A = Option _} (Some x) None = cc in absurd (let n : ◌≡◌ {A = ℕ} 0 1 = cc in omega arith)
nth-below (y ∷ ys) zero x e = omega arith
nth-below (y ∷ ys) (suc i) x e = let h = nth-below ys i x e in omega arith

pub nth-set_same : {A : Type 0} (xs : List A) (i : ℕ) (x : A) → i < length xs → slice_get (set xs i x) i ≡ Some x
nth-set_same [] i x h = absurd (omega arith)
nth-set_same (y ∷ ys) zero x h = refl
nth-set_same (y ∷ ys) (suc i) x h = nth-set_same ys i x (omega arith)

pub nth-set_other : {A : Type 0} (xs : List A) (i j : ℕ) (x : A) → (j ≡ i → ⊥) → slice_get (set xs i x) j ≡ slice_get xs j
nth-set_other [] i j x n = refl
nth-set_other (y ∷ ys) zero zero x n = absurd (n refl)
nth-set_other (y ∷ ys) zero (suc j) x n = refl
nth-set_other (y ∷ ys) (suc i) zero x n = refl
nth-set_other (y ∷ ys) (suc i) (suc j) x n = nth-set_other ys i j x (λ e. n (ap suc e))

pub nth-map : {A B : Type 0} (f : A → B) (xs : List A) (i : ℕ) → slice_get (map f xs) i ≡ option_map f (slice_get xs i)
nth-map f [] i = refl
nth-map f (x ∷ xs) zero = refl
nth-map f (x ∷ xs) (suc i) = nth-map f xs i
