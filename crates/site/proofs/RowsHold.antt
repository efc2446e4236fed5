-- The worked examples hold: by computing where the notary accepts everything, and so for each notary that accepts the records shown.
use Rattle.std.proofs.Common.{◌≡◌, ℕ, zero, suc, ◌+◌, Bool, true, not, List, [], ◌∷◌, None, Ok, Err, Result, sym, refl, ap, ◌∙◌, subst}
use Rattle.object.specs.Titles.{titles_rules, state}
use Rattle.record.specs.Numbers.{number_at, bytes_of_number}
use Rattle.message.specs.Checks.{signed_among, first_unvouched, vouched, certified, checks, agreed, clashing, distinct, reached, ordered, after, refuse, read_form}
use Rattle.message.specs.Forms.{all_kind}
use Rattle.message.specs.Records.{records, record_at, lowest}
use Rattle.message.specs.Said.{Said, write_1, write_2, round, show_grant}
use Rattle.message.specs.Saying.{requests_from, said_of}
use Rattle.message.specs.declared.faults.CertificateFault.{CertificateFault}
use Rattle.message.specs.declared.faults.CertificateFault.TheVariants.{Unvouched, Low}
use Rattle.message.specs.declared.faults.MessageFault.{MessageFault}
use Rattle.message.specs.declared.form.Form.{Form}
use Rattle.message.specs.declared.form.Form.TheVariants.{Write1, Read, Write2, Resolve, Round, ShowGrant, ShowCert}
use Rattle.message.specs.declared.refusal.Refusal.{Refusal}
use Rattle.site.specs.Call.{Called, accepted, stepped, board_after}
use Rattle.site.specs.LifeExample.{certificate}
use Rattle.record.specs.declared.fields.Claim.{Claim}
use Rattle.site.specs.Rows.{first_claim, rival_claim, far_claim, issue_claim, next_claim, kept_request, transfer_5, transfer_6, asks, first_write, rival_write, far_write, issue_write, next_write, round_from, next_round, show, messages, empty_output, empty_board, hears, heard, Replied, Refused, TookBack, both_asked, at_1, settling, Rows, Accepts, AcceptedByOne, RowsHold}

-- The notary that accepts everything --------------------------------------------------------------------------------

abbrev everything : List ℕ → Bool
everything bytes = true

none_unvouched : (m : List ℕ) (i n : ℕ) → lowest (λ k. not (everything (record_at m k))) i n ≡ None
unfolding lowest
none_unvouched m i zero = refl
none_unvouched m i (suc n) = none_unvouched m (i + 1) n

-- A message gets the same from the checks.
abbrev Same : (List ℕ → Bool) → List ℕ → Type 0
Same accepts m = checks 1 accepts m 880 16 ≡ checks 1 everything m 880 16

module _ (accepts : List ℕ → Bool) (m : List ℕ) (seen : first_unvouched accepts m ≡ None) where
  unvouched_same : refuse Unvouched 0 (first_unvouched accepts m) ≡ refuse Unvouched 0 (first_unvouched everything m)
  unvouched_same = ap (refuse Unvouched 0) (seen ∙ sym (none_unvouched m 0 (records m)))

  vouched_same : (form : Form) → vouched accepts m form ≡ vouched everything m form
  vouched_same Write1 = unvouched_same
  vouched_same Read = unvouched_same
  vouched_same Write2 = unvouched_same
  vouched_same Resolve = unvouched_same
  vouched_same (Round grants requests) = unvouched_same
  vouched_same ShowGrant = refl
  vouched_same ShowCert = refl

  certified_same : (read : Result Form MessageFault) → certified 1 accepts m read ≡ certified 1 everything m read
  certified_same (Err fault) = refl
  certified_same (Ok form) =
      ap (λ v. after (agreed 1 m form) (after (clashing 1 m form) (after (distinct 1 m form) (after v (after (reached 1 m form) (after (ordered 1 m form) (Ok (said_of 1 m form))))))))
      (vouched_same form)

  same : Same accepts m
  same = certified_same (read_form 1 m)

-- What each message says, computed -----------------------------------------------------------------------------------

abbrev Outcome : Type 0
Outcome = Result Said CertificateFault

abbrev asked : ℕ → List ℕ → Outcome
asked client operation = Ok (write_1 (record { client = client; number = 1; operation = operation }))

abbrev wrote : Claim → Outcome
wrote claim = Ok (write_2 claim (certificate claim))

abbrev turned : Outcome
turned = Ok (round 0 1 (kept_request ∷ []))

abbrev too_low : Outcome
too_low = Err (Low 1)

-- The message says this, once it has passed the checks, or is refused so.
abbrev Says : (List ℕ → Bool) → List ℕ → Outcome → Type 0
Says accepts m c = checks 1 accepts m 880 16 ≡ c

says_asks_1 : Says everything (asks 1 transfer_5) (asked 1 transfer_5)
unfolding number_at bytes_of_number lowest all_kind signed_among requests_from
says_asks_1 = refl

says_asks_2 : Says everything (asks 2 transfer_5) (asked 2 transfer_5)
unfolding number_at bytes_of_number lowest all_kind signed_among requests_from
says_asks_2 = refl

says_asks_other : Says everything (asks 1 transfer_6) (asked 1 transfer_6)
unfolding number_at bytes_of_number lowest all_kind signed_among requests_from
says_asks_other = refl

says_first : Says everything first_write (wrote first_claim)
unfolding number_at bytes_of_number lowest all_kind signed_among requests_from
says_first = refl

says_rival : Says everything rival_write (wrote rival_claim)
unfolding number_at bytes_of_number lowest all_kind signed_among requests_from
says_rival = refl

says_far : Says everything far_write (wrote far_claim)
unfolding number_at bytes_of_number lowest all_kind signed_among requests_from
says_far = refl

says_issue : Says everything issue_write (wrote issue_claim)
unfolding number_at bytes_of_number lowest all_kind signed_among requests_from
says_issue = refl

says_next : Says everything next_write (wrote next_claim)
unfolding number_at bytes_of_number lowest all_kind signed_among requests_from
says_next = refl

says_round : Says everything next_round turned
unfolding number_at bytes_of_number lowest all_kind signed_among requests_from
says_round = refl

says_low : Says everything (round_from 1 2 0) too_low
unfolding number_at bytes_of_number lowest all_kind signed_among requests_from
says_low = refl

says_show_2 : (accepts : List ℕ → Bool) → Says accepts (show 2) (Ok (show_grant 2))
unfolding number_at bytes_of_number lowest all_kind signed_among requests_from
says_show_2 accepts = refl

says_show_3 : (accepts : List ℕ → Bool) → Says accepts (show 3) (Ok (show_grant 3))
unfolding number_at bytes_of_number lowest all_kind signed_among requests_from
says_show_3 accepts = refl

says_show_4 : (accepts : List ℕ → Bool) → Says accepts (show 4) (Ok (show_grant 4))
unfolding number_at bytes_of_number lowest all_kind signed_among requests_from
says_show_4 accepts = refl

-- What a site makes of it -----------------------------------------------------------------------------------------------

abbrev makes : Called titles_rules → Outcome → Called titles_rules
makes before c = stepped titles_rules 1 before.state before.kept empty_output (board_after 880 empty_board) (accepted titles_rules 1 0 before.state before.kept c)

abbrev made : List Outcome → Called titles_rules
made [] = heard everything []
made (c ∷ cs) = makes (made cs) c

abbrev AllSay : (List ℕ → Bool) → List (List ℕ) → List Outcome → Type 0
AllSay accepts [] [] = Unit {0}
AllSay accepts [] (c ∷ cs) = ⊥
AllSay accepts (m ∷ ms) [] = ⊥
AllSay accepts (m ∷ ms) (c ∷ cs) = Says accepts m c × AllSay accepts ms cs

hears_makes : (accepts : List ℕ → Bool) (before : Called titles_rules) (m : List ℕ) (c : Outcome) → Says accepts m c → makes before c ≡ hears accepts before m
hears_makes accepts before m c e = ap (makes before) (sym e)

heard_made : (accepts : List ℕ → Bool) (ms : List (List ℕ)) (cs : List Outcome) → AllSay accepts ms cs → made cs ≡ heard accepts ms
heard_made accepts [] [] e = refl
heard_made accepts [] (c ∷ cs) e = elim e [ ]
heard_made accepts (m ∷ ms) [] e = elim e [ ]
heard_made accepts (m ∷ ms) (c ∷ cs) e = ap (λ before. makes before c) (heard_made accepts ms cs e.1) ∙ hears_makes accepts (heard accepts ms) m c e.0

-- The moments of the examples.
abbrev made_asked : List Outcome
made_asked = asked 2 transfer_5 ∷ asked 1 transfer_5 ∷ []

abbrev made_1 : List Outcome
made_1 = wrote first_claim ∷ made_asked

abbrev made_settling : List Outcome
made_settling = turned ∷ made_1

-- A fact of what is made is one of what is heard.
replied_as : {bytes : List ℕ} {x y : Called titles_rules} → x ≡ y → Replied bytes x → Replied bytes y
replied_as {bytes = bytes} e r = subst (Replied bytes) e r

refused_as : {refusal : Refusal} {a b x y : Called titles_rules} → a ≡ b → x ≡ y → Refused refusal a x → Refused refusal b y
refused_as {refusal = refusal} {b = b} {x = x} d e r = subst (Refused refusal b) e (subst (λ before. Refused refusal before x) d r)

took_back_as : {a b v w x y : Called titles_rules} → a ≡ b → v ≡ w → x ≡ y → TookBack a v x → TookBack b w y
took_back_as {b = b} {v = v} {w = w} {x = x} c d e r = subst (TookBack b w) e (subst (λ write. TookBack b write x) d (subst (λ before. TookBack before v x) c r))

-- The examples ---------------------------------------------------------------------------------------------------------------

module _ (accepts : List ℕ → Bool) (a : Accepts accepts messages) where
  -- What the messages say to this notary too.
  asks_1 : Says accepts (asks 1 transfer_5) (asked 1 transfer_5)
  asks_1 = same accepts (asks 1 transfer_5) a.0 ∙ says_asks_1

  asks_2 : Says accepts (asks 2 transfer_5) (asked 2 transfer_5)
  asks_2 = same accepts (asks 2 transfer_5) a.1.0 ∙ says_asks_2

  asks_other : Says accepts (asks 1 transfer_6) (asked 1 transfer_6)
  asks_other = same accepts (asks 1 transfer_6) a.1.1.0 ∙ says_asks_other

  first : Says accepts first_write (wrote first_claim)
  first = same accepts first_write a.1.1.1.0 ∙ says_first

  rival : Says accepts rival_write (wrote rival_claim)
  rival = same accepts rival_write a.1.1.1.1.0 ∙ says_rival

  far : Says accepts far_write (wrote far_claim)
  far = same accepts far_write a.1.1.1.1.1.0 ∙ says_far

  issue : Says accepts issue_write (wrote issue_claim)
  issue = same accepts issue_write a.1.1.1.1.1.1.0 ∙ says_issue

  next : Says accepts next_write (wrote next_claim)
  next = same accepts next_write a.1.1.1.1.1.1.1.0 ∙ says_next

  rounds : Says accepts next_round turned
  rounds = same accepts next_round a.1.1.1.1.1.1.1.1.0 ∙ says_round

  low_rounds : Says accepts (round_from 1 2 0) too_low
  low_rounds = same accepts (round_from 1 2 0) a.1.1.1.1.1.1.1.1.1.0 ∙ says_low

  -- The moments of the examples.
  asked_both : made made_asked ≡ heard accepts both_asked
  asked_both = heard_made accepts both_asked made_asked (asks_2, (asks_1, tt))

  at_place_1 : made made_1 ≡ heard accepts at_1
  at_place_1 = heard_made accepts at_1 made_1 (first, (asks_2, (asks_1, tt)))

  -- One call more.
  more : (past : List (List ℕ)) (before : List Outcome) (m : List ℕ) (c : Outcome) → made before ≡ heard accepts past → Says accepts m c → made (c ∷ before) ≡ heard accepts (m ∷ past)
  more past before m c e says = ap (λ was. makes was c) e ∙ hears_makes accepts (heard accepts past) m c says

  settles_at_1 : made made_settling ≡ heard accepts settling
  settles_at_1 = more at_1 made_1 next_round turned at_place_1 rounds

  issued_at_2 : made (wrote issue_claim ∷ made_1) ≡ heard accepts (issue_write ∷ at_1)
  issued_at_2 = more at_1 made_1 issue_write (wrote issue_claim) at_place_1 issue

  nexted_at_2 : made (wrote next_claim ∷ made_1) ≡ heard accepts (next_write ∷ at_1)
  nexted_at_2 = more at_1 made_1 next_write (wrote next_claim) at_place_1 next

  at_place_3 : made (wrote far_claim ∷ wrote issue_claim ∷ made_1) ≡ heard accepts (far_write ∷ issue_write ∷ at_1)
  at_place_3 = more (issue_write ∷ at_1) (wrote issue_claim ∷ made_1) far_write (wrote far_claim) issued_at_2 far

  pulls_at_0 : made (turned ∷ []) ≡ heard accepts (next_round ∷ [])
  pulls_at_0 = more [] [] next_round turned refl rounds

  holds : Rows accepts
  holds = record {
    grants = replied_as (more [] [] (asks 1 transfer_5) (asked 1 transfer_5) refl asks_1) (record { result = refl; output = refl; board = refl });
    grants_once = replied_as asked_both (record { result = refl; output = refl; board = refl });
    busy = refused_as asked_both (more both_asked made_asked (asks 1 transfer_6) (asked 1 transfer_6) asked_both asks_other) (record { result = refl; state = refl; kept = refl; output = refl; board = refl });
    answers = replied_as at_place_1 (record { result = refl; output = refl; board = refl });
    answers_again = replied_as (more at_1 made_1 first_write (wrote first_claim) at_place_1 first) (record { result = refl; output = refl; board = refl });
    stands_at_1 = ap (λ c. c.state.ledger.place) (sym at_place_1);
    taken = refused_as at_place_1 (more at_1 made_1 rival_write (wrote rival_claim) at_place_1 rival) (record { result = refl; state = refl; kept = refl; output = refl; board = refl });
    gap = refused_as at_place_1 (more at_1 made_1 far_write (wrote far_claim) at_place_1 far) (record { result = refl; state = refl; kept = refl; output = refl; board = refl });
    silent = replied_as settles_at_1 (record { result = refl; output = refl; board = refl });
    marks = replied_as (more settling made_settling (show 2) (Ok (show_grant 2)) settles_at_1 (says_show_2 accepts)) (record { result = refl; output = refl; board = refl });
    settles = replied_as (more settling made_settling (show 3) (Ok (show_grant 3)) settles_at_1 (says_show_3 accepts)) (record { result = refl; output = refl; board = refl });
    shows_none = refused_as settles_at_1 (more settling made_settling (show 4) (Ok (show_grant 4)) settles_at_1 (says_show_4 accepts)) (record { result = refl; state = refl; kept = refl; output = refl; board = refl });
    pulls = replied_as pulls_at_0 (record { result = refl; output = refl; board = refl });
    pulling = ap (λ c. c.state.stage) (sym pulls_at_0);
    issued = ap (λ c. state c.kept.value 7) (sym issued_at_2);
    takes_issue_back = took_back_as at_place_1 issued_at_2 (more (issue_write ∷ at_1) (wrote issue_claim ∷ made_1) next_round turned issued_at_2 rounds) (record { done = refl; replied = record { result = refl; output = refl; board = refl }; stage = refl; place = refl; current = refl; entries = refl; value = refl });
    takes_next_back = took_back_as at_place_1 nexted_at_2 (more (next_write ∷ at_1) (wrote next_claim ∷ made_1) next_round turned nexted_at_2 rounds) (record { done = refl; replied = record { result = refl; output = refl; board = refl }; stage = refl; place = refl; current = refl; entries = refl; value = refl });
    stands_at_3 = ap (λ c. c.state.ledger.place) (sym at_place_3);
    too_far = refused_as at_place_3 (more (far_write ∷ issue_write ∷ at_1) (wrote far_claim ∷ wrote issue_claim ∷ made_1) next_round turned at_place_3 rounds) (record { result = refl; state = refl; kept = refl; output = refl; board = refl });
    low = λ before. refused_as refl (hears_makes accepts before (round_from 1 2 0) too_low low_rounds) (record { result = refl; state = refl; kept = refl; output = refl; board = refl });
  }

pub rows_hold : RowsHold
rows_hold accepts a = holds accepts a

-- The notary that accepts everything accepts these.
accepts_all : (ms : List (List ℕ)) → Accepts everything ms
accepts_all [] = tt
accepts_all (m ∷ ms) = (none_unvouched m 0 (records m), accepts_all ms)

pub accepted_by_one : AcceptedByOne
accepted_by_one = accepts_all messages
