-- Sixteen accounts of slots, and their total.
use Rattle.std.specs.Prelude.{ℕ, ◌+◌, ◌-◌, List, replicate, sum, slice_index, slice_set}

-- All slots that there are.
abbrev pub all_slots : ℕ
all_slots = 1000000

-- The first value: account 0 holds all slots.
abbrev pub slots_first : List ℕ
slots_first = slice_set (replicate 16 0) 0 all_slots

-- What an account holds.
abbrev pub holding : List ℕ → ℕ → ℕ
holding accounts k = slice_index accounts k

-- What all accounts hold together.
abbrev pub total : List ℕ → ℕ
total accounts = sum accounts

-- The accounts after an amount leaves one of them, and after an amount comes to one.
abbrev pub less : List ℕ → ℕ → ℕ → List ℕ
less accounts k amount = slice_set accounts k (holding accounts k - amount)

abbrev pub more : List ℕ → ℕ → ℕ → List ℕ
more accounts k amount = slice_set accounts k (holding accounts k + amount)

-- The accounts after an amount went from one to another.
abbrev pub moved : List ℕ → ℕ → ℕ → ℕ → List ℕ
moved accounts from to amount = more (less accounts from amount) to amount
