-- The eight kinds of record and their numbers.
use Rattle.std.specs.Prelude.{ℕ, cond, List, codes, Some, None, Option, Result, ◌==◌}
use Rattle.std.specs.Option.{ok_or}
use Rattle.record.specs.declared.kind.Kind.{Kind}
use Rattle.record.specs.declared.kind.UnknownKind.{UnknownKind}
use Rattle.record.specs.declared.kind.Kind.TheVariants.{Request, Grant, Question, Answer, ReadAnswer, Start, ShowGrant, ShowCert}

-- The number that byte 0 of a record has for each kind.
abbrev pub kind_number : Kind → ℕ
kind_number Request = 1
kind_number Grant = 2
kind_number Question = 3
kind_number Answer = 4
kind_number ReadAnswer = 5
kind_number Start = 6
kind_number ShowGrant = 7
kind_number ShowCert = 8

-- The kind that a number stands for, if any.
abbrev pub kind_of : ℕ → Option Kind
kind_of n =
    cond (n == 1) (Some Request)
    (cond (n == 2) (Some Grant)
    (cond (n == 3) (Some Question)
    (cond (n == 4) (Some Answer)
    (cond (n == 5) (Some ReadAnswer)
    (cond (n == 6) (Some Start)
    (cond (n == 7) (Some ShowGrant)
    (cond (n == 8) (Some ShowCert) None)))))))

-- The kind that a number stands for, or the number that no kind has.
abbrev pub known_kind : ℕ → Result Kind UnknownKind
known_kind n = ok_or (kind_of n) (record { 0 = n })

-- The word for each kind.
abbrev pub kind_word : Kind → List ℕ
kind_word Request = codes "REQUEST"
kind_word Grant = codes "GRANT"
kind_word Question = codes "QUESTION"
kind_word Answer = codes "ANSWER"
kind_word ReadAnswer = codes "READ-ANSWER"
kind_word Start = codes "START"
kind_word ShowGrant = codes "SHOW-GRANT"
kind_word ShowCert = codes "SHOW-CERT"
