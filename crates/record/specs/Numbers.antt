-- Numbers as bytes, high byte first.
use Rattle.std.specs.Prelude.{ℕ, zero, suc, ◌+◌, ◌*◌, ◌/◌, ◌%◌, List, [], ◌∷◌, ◌++◌, take, drop, slice_index}

-- `size` bytes from index `at` on.
abbrev pub bytes_at : ℕ → ℕ → List ℕ → List ℕ
bytes_at at size bytes = take size (drop at bytes)

-- The number that `size` bytes from index `at` on write.
unfoldable pub number_at : ℕ → ℕ → List ℕ → ℕ
number_at at zero bytes = 0
number_at at (suc size) bytes = number_at at size bytes * 256 + slice_index bytes (at + size)

-- The `size` bytes that write a number: those of its quotient by 256, then the remainder.
unfoldable pub bytes_of_number : ℕ → ℕ → List ℕ
bytes_of_number zero n = []
bytes_of_number (suc size) n = bytes_of_number size (n / 256) ++ (n % 256 ∷ [])
