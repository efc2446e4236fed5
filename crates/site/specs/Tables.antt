-- Tables by client.
use Rattle.std.specs.Prelude.{ℕ, Bool, ◌&&◌, List, [], ◌∷◌, replicate, Some, None, Option, ◌==◌, slice_index_or, slice_set}
use Rattle.std.specs.Str.{bytes_eq}
use Rattle.message.specs.declared.request.Request.{Request}

-- A client's entry. The mark, client 16, has none.
abbrev pub entry : {A : Type 0} → List (Option A) → ℕ → Option A
entry table client = slice_index_or table client None

-- A table with no entries.
abbrev pub no_entries : {A : Type 0} → List (Option A)
no_entries = replicate 16 None

-- Whether two requests of one client are the same.
abbrev pub same_request : Request → Request → Bool
same_request a b = a.client == b.client && a.number == b.number && bytes_eq a.operation b.operation

-- The requests of a list, each at its client's entry.
abbrev pub tabled : List Request → List (Option Request) → List (Option Request)
tabled [] table = table
tabled (r ∷ rs) table = tabled rs (slice_set table r.client (Some r))
