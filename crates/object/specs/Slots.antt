-- Slots: sixteen accounts, one for each client, among which slots are moved.
--
-- An operation has its code in byte 0, an account in byte 1 and an amount in bytes 2 to 5, high byte first.
-- Code 1 moves the amount from the writer's account to that account. A client's number is its account.
use Rattle.std.specs.Prelude.{ℕ, ◌+◌, ◌*◌, cond, not, ◌&&◌, List, Some, None, Ok, Err, Option, Result, option_map, ◌==◌, nat_le, slice_index}
use Rattle.object.specs.Rules.{Rules, Moment, code}
use Rattle.object.specs.Accounts.{holding, moved}
use Rattle.object.specs.Kept.{unknown_code, out_of_reach}
use Rattle.object.specs.declared.slots.Slots.{Slots}
use Rattle.object.specs.declared.slots.Fault.{Fault}
use Rattle.object.specs.declared.slots.Fault.TheVariants.{OutOfRange, TooFew}

-- The highest code.
abbrev pub slots_highest : ℕ
slots_highest = 1

-- The account that an operation names, and the amount.
abbrev pub account : List ℕ → ℕ
account operation = slice_index operation 1

abbrev pub amount : List ℕ → ℕ
amount operation =
    slice_index operation 2 * 16777216 + slice_index operation 3 * 65536 + slice_index operation 4 * 256 + slice_index operation 5

-- The number of each fault, and that of an answer: 0 where the move is done.
abbrev pub fault_number : Fault → ℕ
fault_number OutOfRange = 1
fault_number TooFew = 2

abbrev pub number : Result (Unit {0}) Fault → ℕ
number (Ok _) = 0
number (Err fault) = fault_number fault

-- The answer to a move: the first test that fails decides it.
abbrev pub judged : List ℕ → ℕ → ℕ → ℕ → Result (Unit {0}) Fault
judged accounts from to n =
    cond (not (nat_le from 15 && nat_le to 15)) (Err OutOfRange) (cond (not (nat_le n (holding accounts from))) (Err TooFew) (Ok tt))

-- The accounts after a move that is answered so: the amount moves where the answer is done.
abbrev pub acted : Result (Unit {0}) Fault → List ℕ → ℕ → ℕ → ℕ → List ℕ
acted (Ok _) accounts from to n = moved accounts from to n
acted (Err fault) accounts from to n = accounts

-- The answer to a write, and the accounts after it. An unknown code changes nothing.
abbrev pub slots_answer : List ℕ → ℕ → List ℕ → ℕ
slots_answer accounts client operation =
    cond (not (code operation == 1)) unknown_code
    (number (judged accounts client (account operation) (amount operation)))

abbrev pub slots_next : List ℕ → ℕ → List ℕ → List ℕ
slots_next accounts client operation =
    cond (not (code operation == 1)) accounts
    (acted (judged accounts client (account operation) (amount operation)) accounts client (account operation) (amount operation))

-- The answer to a reading. Code 1 asks for what an account holds.
abbrev pub slots_look : List ℕ → List ℕ → ℕ
slots_look accounts operation =
    cond (not (code operation == 1)) unknown_code
    (cond (not (nat_le (account operation) 15)) out_of_reach (holding accounts (account operation)))

-- The meaning of the slots.
abbrev pub slots_rules : Rules
slots_rules = record { Value = List ℕ; next = slots_next; answer = slots_answer; look = slots_look; highest = slots_highest }

-- What a reader of one account is told: nothing where there is no such account.
abbrev pub balance_at : List ℕ → ℕ → Option ℕ
balance_at accounts k = cond (nat_le k 15) (Some (holding accounts k)) None

-- What the program's slots hold.
abbrev pub slots_held : Slots → Moment (List ℕ)
slots_held s = record { value = s.history.value.balances; before = option_map (λ accounts. accounts.balances) s.history.earlier }
