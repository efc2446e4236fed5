-- The records of a book, one after the other.
use Rattle.std.proofs.Common.{◌≡◌, ℕ, zero, suc, ◌<◌, Bool, true, false, List, sym, refl, ⊎_elim, arith}
use Rattle.std.proofs.lemmas.Slice.Eq.{bytes_eq-Decides}
use Rattle.std.proofs.lemmas.Bool.{cases_lt, false≢true, or_cases, or_left, or_right}
use Rattle.std.specs.Str.{bytes_eq}
use Rattle.notary.specs.Laws.{BookEntries}
use Rattle.notary.specs.Book.{among, entries, entry_at, in_book}

not_true : (b : Bool) → (b ≡ true → ⊥) → b ≡ false
not_true true h = absurd (h refl)
not_true false h = refl

-- a record that is the one asked for
pub among_found
    : (n k : ℕ) (book bytes : List ℕ)
    → k < n
    → bytes_eq (entry_at k book) bytes ≡ true
    → among n book bytes ≡ true
unfolding among
among_found zero k book bytes h here = absurd (omega arith)
among_found (suc n) k book bytes h here =
    let x = among n book bytes in
    let y = bytes_eq (entry_at n book) bytes in
    ⊎_elim
    (λ below. or_left x y (among_found n k book bytes below here))
    (λ above. let at : k ≡ n = omega arith in or_right x y (rw at at here))
    (cases_lt k n)

-- a record among the first n stands at some place below n
pub among_place
    : (n : ℕ) (book bytes : List ℕ)
    → among n book bytes ≡ true
    → (k : ℕ) × (k < n) × (entry_at k book ≡ bytes)
unfolding among
among_place zero book bytes found = absurd (false≢true found)
among_place (suc n) book bytes found =
    ⊎_elim
    (λ before. let p = among_place n book bytes before in (p.0, omega (arith, p.1), p.2))
    (λ here. (n, omega arith, (bytes_eq-Decides (entry_at n book) bytes).0 here))
    (or_cases (among n book bytes) (bytes_eq (entry_at n book) bytes) found)

-- an answer that is yes where some entry is the record, and no where none is
pub in_book_told
    : (told : Bool) (book bytes : List ℕ)
    → (told ≡ true → (k : ℕ) × (k < entries book) × (entry_at k book ≡ bytes))
    → (told ≡ false → (k : ℕ) → k < entries book → entry_at k book ≡ bytes → ⊥)
    → told ≡ in_book book bytes
in_book_told true book bytes some none =
    let (k, below, same) = some refl in
    sym (among_found (entries book) k book bytes below ((bytes_eq-Decides (entry_at k book) bytes).1 same))
in_book_told false book bytes some none = sym (not_true (in_book book bytes) (λ found.
    let (k, below, same) = among_place (entries book) book bytes found in none refl k below same))

pub book_entries : BookEntries
book_entries book bytes = (
  among_place (entries book) book bytes,
  λ p. among_found (entries book) p.0 book bytes p.1 ((bytes_eq-Decides (entry_at p.0 book) bytes).1 p.2),
)
