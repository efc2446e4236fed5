-- Titles: 64 of them, each unissued, held by a client, or surrendered.
--
-- An operation has its code in byte 0, the title in byte 1 and the receiver in byte 2. Code 1 issues the
-- title to the receiver, code 2 transfers it to the receiver, code 3 surrenders it.
use Rattle.std.specs.Prelude.{ℕ, Bool, true, false, cond, not, ◌&&◌, List, replicate, Some, None, Ok, Err, Option, Result, ◌==◌, nat_le, slice_index, slice_index_or, slice_set}
use Rattle.object.specs.Rules.{Rules, Moment, code}
use Rattle.object.specs.Kept.{unknown_code, out_of_reach}
use Rattle.object.specs.declared.titles.Titles.{Titles}
use Rattle.object.specs.declared.titles.Title.{Title}
use Rattle.object.specs.declared.titles.Title.TheVariants.{Unissued, HeldBy, Surrendered}
use Rattle.object.specs.declared.titles.Act.{Act}
use Rattle.object.specs.declared.titles.Act.TheVariants.{Issue, Transfer, Surrender}
use Rattle.object.specs.declared.titles.Fault.{Fault}
use Rattle.object.specs.declared.titles.Fault.TheVariants.{OutOfRange, NotEntitled, WrongState}

-- The first value: 64 titles, all unissued.
abbrev pub titles_first : List Title
titles_first = replicate 64 Unissued

-- The highest code.
abbrev pub titles_highest : ℕ
titles_highest = 3

-- The title that an operation names, and the client that is to receive it.
abbrev pub title : List ℕ → ℕ
title operation = slice_index operation 1

abbrev pub receiver : List ℕ → ℕ
receiver operation = slice_index operation 2

-- The state of the title of a number.
abbrev pub state : List Title → ℕ → Title
state titles k = slice_index_or titles k Unissued

-- What each code asks for.
abbrev pub act : ℕ → Option Act
act c = cond (c == 1) (Some Issue) (cond (c == 2) (Some Transfer) (cond (c == 3) (Some Surrender) None))

-- The number of each fault, and that of an answer: 0 where the act is done.
abbrev pub fault_number : Fault → ℕ
fault_number OutOfRange = 1
fault_number NotEntitled = 2
fault_number WrongState = 3

abbrev pub number : Result (Unit {0}) Fault → ℕ
number (Ok _) = 0
number (Err fault) = fault_number fault

-- Titles are numbered from 0 to 63, receivers from 0 to 15; a surrender has no receiver.
abbrev pub in_range : Act → ℕ → ℕ → Bool
in_range Issue k to = nat_le k 63 && nat_le to 15
in_range Transfer k to = nat_le k 63 && nat_le to 15
in_range Surrender k to = nat_le k 63

-- Issuing needs an unissued title, the others a title that is held.
abbrev pub unissued : Title → Bool
unissued Unissued = true
unissued (HeldBy h) = false
unissued Surrendered = false

abbrev pub is_held : Title → Bool
is_held Unissued = false
is_held (HeldBy h) = true
is_held Surrendered = false

abbrev pub right_state : Act → Title → Bool
right_state Issue t = unissued t
right_state Transfer t = is_held t
right_state Surrender t = is_held t

-- Client 0 issues; the holder transfers and surrenders.
abbrev pub holds : ℕ → Title → Bool
holds client Unissued = false
holds client (HeldBy h) = client == h
holds client Surrendered = false

abbrev pub entitled : Act → ℕ → Title → Bool
entitled Issue client t = client == 0
entitled Transfer client t = holds client t
entitled Surrender client t = holds client t

-- The answer to an act: the first test that fails decides it.
abbrev pub judged : List Title → Act → ℕ → ℕ → ℕ → Result (Unit {0}) Fault
judged titles a client k to =
    cond (not (in_range a k to)) (Err OutOfRange)
    (cond (not (right_state a (state titles k))) (Err WrongState)
    (cond (not (entitled a client (state titles k))) (Err NotEntitled) (Ok tt)))

-- The state that an act gives its title.
abbrev pub outcome : Act → ℕ → Title
outcome Issue to = HeldBy to
outcome Transfer to = HeldBy to
outcome Surrender to = Surrendered

-- The titles after an act that is answered so: the one title moves where the answer is done.
abbrev pub acted : Result (Unit {0}) Fault → List Title → Act → ℕ → ℕ → List Title
acted (Ok _) titles a k to = slice_set titles k (outcome a to)
acted (Err fault) titles a k to = titles

-- The answer to a write, and the titles after it. An unknown code changes nothing.
abbrev pub answer_of : Option Act → List Title → ℕ → List ℕ → ℕ
answer_of None titles client operation = unknown_code
answer_of (Some a) titles client operation = number (judged titles a client (title operation) (receiver operation))

abbrev pub titles_answer : List Title → ℕ → List ℕ → ℕ
titles_answer titles client operation = answer_of (act (code operation)) titles client operation

abbrev pub next_of : Option Act → List Title → ℕ → List ℕ → List Title
next_of None titles client operation = titles
next_of (Some a) titles client operation =
    acted (judged titles a client (title operation) (receiver operation)) titles a (title operation) (receiver operation)

abbrev pub titles_next : List Title → ℕ → List ℕ → List Title
titles_next titles client operation = next_of (act (code operation)) titles client operation

-- A title's state as a number: the holder's, 16 for an unissued title, 17 for a surrendered one.
abbrev pub shown : Title → ℕ
shown Unissued = 16
shown (HeldBy h) = h
shown Surrendered = 17

-- The answer to a reading. Code 1 asks for the state of a title.
abbrev pub titles_look : List Title → List ℕ → ℕ
titles_look titles operation =
    cond (not (code operation == 1)) unknown_code
    (cond (not (nat_le (title operation) 63)) out_of_reach (shown (state titles (title operation))))

-- The meaning of the titles.
abbrev pub titles_rules : Rules
titles_rules = record { Value = List Title; next = titles_next; answer = titles_answer; look = titles_look; highest = titles_highest }

-- What a reader of one title is told: nothing where there is no such title.
abbrev pub title_at : List Title → ℕ → Option Title
title_at titles k = cond (nat_le k 63) (Some (state titles k)) None

-- What the program's titles hold.
abbrev pub titles_held : Titles → Moment (List Title)
titles_held t = record { value = t.history.value; before = t.history.earlier }
