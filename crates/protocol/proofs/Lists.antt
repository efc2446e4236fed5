-- Lists of claims: beginnings, and claims in line.
use Rattle.std.proofs.Common.{◌≡◌, ℕ, suc, ◌+◌, ◌≤◌, ◌⊎◌, List, [], ◌∷◌, length, sym, refl, subst, inl, inr, ⊎_elim, arith}
use Rattle.protocol.specs.Words.{Claim}
use Rattle.protocol.specs.Book.{Begins, whole, more, Line, line_none, line_more}

pub begins_nil : (w : List Claim) → Begins [] w
begins_nil [] = whole
begins_nil (c ∷ w) = more (begins_nil w)

pub begins_trans : {x y z : List Claim} → Begins x y → Begins y z → Begins x z
begins_trans b whole = b
begins_trans b (more h) = more (begins_trans b h)

pub begins_older : {c : Claim} {x y : List Claim} → Begins (c ∷ x) y → Begins x y
begins_older h = begins_trans (more whole) h

pub begins_length : {x y : List Claim} → Begins x y → length x ≤ length y
begins_length whole = omega arith
begins_length (more h) = let k = begins_length h in omega arith

-- What begins a list and is shorter begins the list without its last.
pub begins_shorter : {c : Claim} {x y : List Claim} → Begins x (c ∷ y) → length x ≤ length y → Begins x y
begins_shorter whole l = absurd (omega arith)
begins_shorter (more h) l = h

-- What begins a list is all of it, or goes on there.
pub begins_next : {x y : List Claim} → Begins x y → (x ≡ y) ⊎ ((c : Claim) × Begins (c ∷ x) y)
begins_next whole = inl refl
begins_next (more {c = c} {l = l} h) = inr (⊎_elim (λ e. (c, subst (λ x. Begins (c ∷ x) (c ∷ l)) (sym e) whole)) (λ g. (g.0, more g.1)) (begins_next h))

-- Two lists that begin each other are equal.
pub begins_both : {x y : List Claim} → Begins x y → Begins y x → x ≡ y
begins_both whole g = refl
begins_both (more h) g = let k = begins_length h in let l = begins_length g in absurd (omega arith)

-- Two beginnings of one length are equal.
pub begins_same : {x y : List Claim} {w : List Claim} → Begins x w → Begins y w → length x ≡ length y → x ≡ y
begins_same whole whole e = refl
begins_same whole (more g) e = let k = begins_length g in absurd (omega arith)
begins_same (more h) whole e = let k = begins_length h in absurd (omega arith)
begins_same (more h) (more g) e = begins_same h g e

-- The place and the fact of a claim in line.
pub line_place : {P : Claim → Type 0} {t : ℕ} {c : Claim} {w : List Claim} → Line P t (c ∷ w) → c.place ≡ suc (t + length w)
line_place (line_more e p l) = e

pub line_fact : {P : Claim → Type 0} {t : ℕ} {c : Claim} {w : List Claim} → Line P t (c ∷ w) → P c
line_fact (line_more e p l) = p

pub line_rest : {P : Claim → Type 0} {t : ℕ} {c : Claim} {w : List Claim} → Line P t (c ∷ w) → Line P t w
line_rest (line_more e p l) = l

-- A fact about each claim of a line, from another that may use the claim's place.
pub line_map : {P : Claim → Type 0} (Q : Claim → Type 0) {t : ℕ} {w : List Claim} → ((c : Claim) → c.place ≤ t + length w → P c → Q c) → Line P t w → Line Q t w
line_map Q f line_none = line_none
line_map Q f (line_more {c = c} e p l) = line_more e (f c (omega arith) p) (line_map Q (λ d b. f d (omega arith)) l)

-- A beginning of a line is a line.
pub line_begin : {P : Claim → Type 0} {t : ℕ} {x w : List Claim} → Begins x w → Line P t w → Line P t x
line_begin whole l = l
line_begin (more h) (line_more e p l) = line_begin h l

-- Claims of one line at one place are equal.
pub line_same : {P : Claim → Type 0} {t : ℕ} {c d : Claim} {x y : List Claim} {w : List Claim} → Line P t w → Begins (c ∷ x) w → Begins (d ∷ y) w → c.place ≡ d.place → c ≡ d
line_same l whole whole e = refl
line_same (line_more e p l) whole (more h) q = let k = line_place (line_begin h l) in let n = begins_length h in absurd (omega arith)
line_same (line_more e p l) (more h) whole q = let k = line_place (line_begin h l) in let n = begins_length h in absurd (omega arith)
line_same (line_more e p l) (more h) (more g) q = line_same l h g q
