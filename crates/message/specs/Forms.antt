-- The forms of a message, told by f and the kinds of the records alone.
use Rattle.std.specs.Prelude.{ℕ, zero, suc, ◌+◌, ◌-◌, ◌*◌, Bool, true, cond, ◌&&◌, List, Some, None, Option, ◌==◌, nat_le}
use Rattle.record.specs.Kinds.{kind_number}
use Rattle.record.specs.declared.kind.Kind.{Kind}
use Rattle.record.specs.declared.kind.Kind.TheVariants.{Request, Grant, Question, Start, ShowGrant, ShowCert}
use Rattle.message.specs.Limits.{highest_faulty, most_requests}
use Rattle.message.specs.Records.{records, statement_at}
use Rattle.message.specs.declared.form.Form.TheVariants as form
use Rattle.message.specs.declared.form.Form.{Form}
use Rattle.message.specs.declared.form.Form.TheVariants.{Write1, Read, Write2, Resolve, Round}

-- A quorum of a pool of 3f+1 sites.
abbrev pub quorum : ℕ → ℕ
quorum f = 2 * f + 1

-- Record i is of a kind.
abbrev pub is_kind : Kind → List ℕ → ℕ → Bool
is_kind kind m i = (statement_at m i).kind == kind_number kind

-- Each of `n` records from index i on is of a kind.
unfoldable pub all_kind : Kind → List ℕ → ℕ → ℕ → Bool
all_kind kind m i zero = true
all_kind kind m i (suc n) = is_kind kind m i && all_kind kind m (i + 1) n

-- One record, of a kind.
abbrev pub lone : Kind → List ℕ → Bool
lone kind m = records m == 1 && is_kind kind m 0

-- From index i on there are REQUESTs, at most sixteen, to the end of the message.
abbrev pub ends_in_requests : List ℕ → ℕ → Bool
ends_in_requests m i = nat_le (records m - i) most_requests && all_kind Request m i (records m - i)

-- A quorum q of GRANTs.
abbrev pub write_2_form : ℕ → List ℕ → Bool
write_2_form q m = records m == q && all_kind Grant m 0 q

-- A quorum q of GRANTs, and one REQUEST.
abbrev pub resolve_form : ℕ → List ℕ → Bool
resolve_form q m = records m == q + 1 && all_kind Grant m 0 q && is_kind Request m q

-- A quorum q of STARTs, and REQUESTs.
abbrev pub bare_round_form : ℕ → List ℕ → Bool
bare_round_form q m = nat_le q (records m) && ends_in_requests m q && all_kind Start m 0 q

-- A quorum q of STARTs, a quorum of GRANTs, and REQUESTs.
abbrev pub full_round_form : ℕ → List ℕ → Bool
full_round_form q m = nat_le (q + q) (records m) && ends_in_requests m (q + q) && all_kind Start m 0 q && all_kind Grant m q q

-- The forms of one record.
abbrev pub lone_form_of : List ℕ → Option Form
lone_form_of m =
    cond (lone Request m) (Some Write1)
    (cond (lone Question m) (Some Read)
    (cond (lone ShowGrant m) (Some form.ShowGrant) (cond (lone ShowCert m) (Some form.ShowCert) None)))

-- The forms with a quorum q.
abbrev pub quorum_form_of : ℕ → List ℕ → Option Form
quorum_form_of q m =
    cond (write_2_form q m) (Some Write2)
    (cond (resolve_form q m) (Some Resolve)
    (cond (bare_round_form q m) (Some (Round 0 (records m - q)))
    (cond (full_round_form q m) (Some (Round q (records m - (q + q)))) None)))

-- A pool has at most sixteen sites, so that with f above 5 there is no quorum.
abbrev pub pool_form_of : ℕ → List ℕ → Option Form
pool_form_of f m = cond (nat_le f highest_faulty) (quorum_form_of (quorum f) m) None

-- The first of two forms that is there.
abbrev pub or_form : Option Form → Option Form → Option Form
or_form (Some form) other = Some form
or_form None other = other

-- The form of a message, if it has one.
abbrev pub form_of : ℕ → List ℕ → Option Form
form_of f m = or_form (lone_form_of m) (pool_form_of f m)
