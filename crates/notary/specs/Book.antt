-- The records of a book: a list of bytes that holds records end to end.
use Rattle.std.specs.Prelude.{ℕ, zero, suc, ◌*◌, ◌/◌, Bool, false, ◌||◌, List, length, take, drop}
use Rattle.std.specs.Str.{bytes_eq}

-- record k of a book, of 80 bytes
abbrev pub entry_at : ℕ → List ℕ → List ℕ
entry_at k book = take 80 (drop (80 * k) book)

-- how many whole records a book has: a rest shorter than a record counts for nothing
abbrev pub entries : List ℕ → ℕ
entries book = length book / 80

-- whether one of the first n records of a book is the record asked for
unfoldable pub among : ℕ → List ℕ → List ℕ → Bool
among zero book bytes = false
among (suc n) book bytes = among n book bytes || bytes_eq (entry_at n book) bytes

-- whether a record is one of a book's
abbrev pub in_book : List ℕ → List ℕ → Bool
in_book book bytes = among (entries book) book bytes
