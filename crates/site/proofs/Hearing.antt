-- What a message that passed the checks gives to go by: sizes of its fields, certified claims, and a ROUND that passes.
use Rattle.std.proofs.Common.{◌≡◌, ℕ, zero, suc, ◌+◌, ◌-◌, ◌*◌, ◌^◌, ◌<◌, ◌≤◌, min, Bool, true, false, cond, eqb, List, ◌++◌, length, take, drop, replicate, Ok, sym, refl, ap, ◌∙◌, subst, inl, inr, ⊎_elim, pow-suc, arith}
use mathlib.Core.Option.{Option as Maybe, none, some}
use Rattle.std.proofs.ByRecursion.{All-take, All-drop}
use Rattle.std.proofs.lemmas.List.{length-take, length-drop, take_all, take_at}
use Rattle.std.proofs.lemmas.Bool.{cases_lt, cond-true, cond-false, eq-eqb, ne_eqb}
use Rattle.record.proofs.Digits.{byte_at}
use Rattle.record.specs.Kinds.{kind_number}
use Rattle.record.specs.Numbers.{number_at, bytes_at}
use Rattle.record.specs.RoundTrip.{Bytes}
use Rattle.record.specs.declared.fields.Statement.{Statement}
use Rattle.record.specs.declared.kind.Kind.TheVariants.{Grant, Start, Answer, ReadAnswer}
use Rattle.message.specs.Checks.{checks}
use Rattle.message.specs.Forms.{quorum}
use Rattle.message.specs.Laws.{signer_at, claim_at, round_at, place_at, Whole, Passed}
use Rattle.message.specs.Records.{records, record_at, statement_at}
use Rattle.message.specs.Said.{Said, request_of}
use Rattle.message.specs.Saying.{said_of, target, requests_from}
use Rattle.message.specs.declared.form.Form.{Form}
use Rattle.message.specs.declared.form.Form.TheVariants.{Write1, Read, Write2, Resolve, Round, ShowGrant, ShowCert}
use Rattle.message.proofs.Outcome.{accepted_when_passed}
use Rattle.protocol.specs.Book.{Wrote, Backs, Certified, Started}
use Rattle.protocol.specs.Quorum.{Pool, Sound, sites}
use Rattle.protocol.specs.Words as words
use Rattle.protocol.specs.Words.{Claim, Word, Transcript}
use Rattle.site.specs.Ledgers.{kept_bytes}
use Rattle.site.specs.Life.{claim_in, question_in, word_of}
use Rattle.site.proofs.Groups.{group_quorum}
use Rattle.site.proofs.Likeness.{told, Sized, SizedRequest, SizedRequests, Repeatable, Telling}

-- Sizes of fields -----------------------------------------------------------------------------------------------

number_small : (at size : ℕ) (bytes : List ℕ) → Bytes bytes → number_at at size bytes < 256 ^ size
unfolding number_at
number_small at zero bytes all = omega arith
number_small at (suc size) bytes all =
    let before = number_small at size bytes all in
    let b = byte_at bytes (at + size) all in
    let e = pow-suc 256 size in
    omega arith

record_long : (m : List ℕ) (i : ℕ) → length m ≡ 80 * records m → i < records m → length (record_at m i) ≡ 80
record_long m i long l =
    let a = length-take 80 (drop (80 * i) m) in
    let b = length-drop (80 * i) m in
    omega arith

operation_long : (bytes : List ℕ) → length bytes ≡ 80 → length (bytes_at 16 16 bytes) ≡ 16
operation_long bytes long =
    let a = length-take 16 (drop 16 bytes) in
    let b = length-drop 16 bytes in
    omega arith

-- Words by kind -------------------------------------------------------------------------------------------------

abbrev word_as : ℕ → Statement → Maybe Word
word_as kind x =
    cond (eqb kind (kind_number Grant)) (some (words.grant (claim_in x)))
    (cond (eqb kind (kind_number Answer)) (some (words.answer (claim_in x) x.answer))
    (cond (eqb kind (kind_number ReadAnswer)) (some (words.reading (question_in x) x.round x.place x.answer))
    (cond (eqb kind (kind_number Start)) (some (words.start x.round x.place)) none)))

grant_word : (x : Statement) → x.kind ≡ kind_number Grant → word_of x ≡ some (words.grant (claim_in x))
grant_word x e = ap (λ k. word_as k x) e

start_word : (x : Statement) → x.kind ≡ kind_number Start → word_of x ≡ some (words.start x.round x.place)
start_word x e = ap (λ k. word_as k x) e

-- A certificate kept and shown is the message that brought it.
shown_again : (m : List ℕ) (n : ℕ) → length m ≡ n → n ≤ 880 → take n (kept_bytes m) ≡ m
shown_again m n long low =
    let same : min (length m) 880 ≡ length m = omega arith in
    let all : take (length m) m ≡ m = take_all (length m) m (omega arith) in
    let front : take (min (length m) 880) m ≡ m = ap (λ k. take k m) same ∙ all in
    ap (λ x. take n (x ++ replicate (880 - min (length m) 880) 0)) front ∙ take_at m (replicate (880 - min (length m) 880) 0) n long

module _ (pool : Pool) (accepts : List ℕ → Bool) (s : ℕ) (T : Transcript) (m : List ℕ) (sound : Sound pool s) (bytes : Bytes m)
    (written : (i : ℕ) (w : Word) → i < records m → accepts (record_at m i) ≡ true → word_of (statement_at m i) ≡ some w → Sound pool (signer_at m i) → Wrote (signer_at m i) w T)
    (whole : Whole m) where
  byte_record : (i : ℕ) → Bytes (record_at m i)
  byte_record i = All-take (λ b. b < 256) 80 (drop (80 * i) m) (All-drop (λ b. b < 256) (80 * i) m bytes)

  sized : (i : ℕ) → i < records m → Sized (claim_at m i)
  sized i l = record {
    number = number_small 4 4 (record_at m i) (byte_record i);
    round = number_small 8 4 (record_at m i) (byte_record i);
    place = number_small 12 4 (record_at m i) (byte_record i);
    operation = operation_long (record_at m i) (record_long m i whole.2 l);
  }

  sized_request : (i : ℕ) → i < records m → SizedRequest (request_of (statement_at m i))
  sized_request i l = record { number = (sized i l).number; operation = (sized i l).operation }

  sized_requests : (i n : ℕ) → i + n ≤ records m → SizedRequests (requests_from m i n)
  unfolding requests_from
  sized_requests i zero l = tt
  sized_requests i (suc n) l = (sized_request i (omega arith), sized_requests (i + 1) n (omega arith))

  module _ (form : Form) (passed : Passed pool.f accepts m form) (sealed : (i : ℕ) → i < records m → accepts (record_at m i) ≡ true) where
    wrote_grant : (i : ℕ) → i < records m → (statement_at m i).kind ≡ kind_number Grant → signer_at m i < sites pool → pool.sound (signer_at m i) ≡ true →
        Wrote (signer_at m i) (words.grant (told (claim_at m i))) T
    wrote_grant i l e b x = written i (words.grant (told (claim_at m i))) l (sealed i l) (grant_word (statement_at m i) e) (record { below = b; is_sound = x })

    wrote_start : (i : ℕ) → i < records m → (statement_at m i).kind ≡ kind_number Start → signer_at m i < sites pool → pool.sound (signer_at m i) ≡ true →
        Wrote (signer_at m i) (words.start (round_at m i) (place_at m i)) T
    wrote_start i l e b x = written i (words.start (round_at m i) (place_at m i)) l (sealed i l) (start_word (statement_at m i) e) (record { below = b; is_sound = x })

    repeatable : Repeatable s T m
    repeatable i w l e o = subst (λ x. Wrote x w T) e (written i w l (sealed i l) o (subst (Sound pool) (sym e) sound))

  hears_write_2 : Passed pool.f accepts m Write2 → Telling pool s T (said_of pool.f m Write2)
  hears_write_2 p =
      let q = quorum pool.f in
      let n = p.kinds.1 in
      let low = p.kinds.0 in (
        sized 0 (omega arith),
        group_quorum pool m 0 (Backs pool T (words.grant (told (claim_at m 0)))) (p.different 0 q (refl, refl))
            (λ i a b. let b' = p.sites 0 q (refl, refl) i a b in (
              b',
              λ x. subst (λ c. Wrote (signer_at m i) (words.grant (told c)) T) (p.alike i (omega arith))
                  (wrote_grant Write2 p (p.vouched tt) i (omega arith) (p.kinds.2 i (omega arith) (omega arith)) b' x),
            )),
        subst (Repeatable s T) (sym (shown_again m (80 * q) (let k = whole.2 in omega arith) (omega arith))) (repeatable Write2 p (p.vouched tt)),
      )

  module _ (grants requests : ℕ) (p : Passed pool.f accepts m (Round grants requests)) where
    low_start : (i : ℕ) → i < quorum pool.f → i < records m → place_at m i ≤ target m (quorum pool.f) grants
    low_start i l k = ⊎_elim (λ h. absurd (p.reached i k (l, h))) (λ h. h) (cases_lt (target m (quorum pool.f) grants) (place_at m i))

    started : Started pool T (round_at m 0) (target m (quorum pool.f) grants)
    started =
        let q = quorum pool.f in
        let n = p.kinds.3 in
        group_quorum pool m 0 (λ x. pool.sound x ≡ true → (k : ℕ) × Wrote x (words.start (round_at m 0) k) T × (k ≤ target m q grants)) (p.different 0 q (inl (refl, refl)))
        (λ i a b. let b' = p.sites 0 q (inl (refl, refl)) i a b in (
          b',
          λ x. (
            place_at m i,
            subst (λ r. Wrote (signer_at m i) (words.start r (place_at m i)) T) ((p.alike i (omega arith)).0 (omega arith))
                (wrote_start (Round grants requests) p (p.vouched tt) i (omega arith) (p.kinds.4 i (omega arith) (omega arith)) b' x),
            low_start i (omega arith) (omega arith),
          ),
        ))

    at_target : grants ≡ quorum pool.f → (c : Claim) × Certified pool T c × (c.round ≡ round_at m 0) × (c.place ≡ target m (quorum pool.f) grants)
    at_target e =
        let q = quorum pool.f in
        let n = p.kinds.3 in
        let ne : eqb grants 0 ≡ false = ne_eqb grants 0 (λ z. omega arith) in (
          told (claim_at m q),
          group_quorum pool m q (Backs pool T (words.grant (told (claim_at m q)))) (p.different q q (inr (refl, sym e)))
              (λ i a b. let b' = p.sites q q (inr (refl, sym e)) i a b in (
                b',
                λ x. subst (λ c. Wrote (signer_at m i) (words.grant (told c)) T) ((p.alike i (omega arith)).1 a (omega arith)).0
                    (wrote_grant (Round grants requests) p (p.vouched tt) i (omega arith) (p.kinds.5 i a (omega arith)) b' x),
              )),
          ((p.alike q (omega arith)).1 (omega arith) (omega arith)).1,
          sym (cond-false (eqb grants 0) 0 (place_at m q) ne),
        )

    hears_round : Telling pool s T (said_of pool.f m (Round grants requests))
    hears_round =
        let q = quorum pool.f in
        let n = p.kinds.3 in (
          record { starts = started; target = ⊎_elim (λ z. inl (cond-true (eqb grants 0) 0 (place_at m q) (eq-eqb grants 0 z))) (λ e. inr (at_target e)) p.kinds.1 },
          sized_requests (q + grants) requests (omega arith),
        )

  hears : (form : Form) → Passed pool.f accepts m form → Telling pool s T (said_of pool.f m form)
  hears Write1 p = let n = p.kinds.0 in sized_request 0 (omega arith)
  hears Read p = let n = p.kinds.0 in (number_small 40 8 (record_at m 0) (byte_record 0), (sized 0 (omega arith)).operation)
  hears Write2 p = hears_write_2 p
  hears Resolve p = let n = p.kinds.1 in sized_request (quorum pool.f) (omega arith)
  hears (Round grants requests) p = hears_round grants requests p
  hears ShowGrant p = let n = p.kinds.0 in (sized 0 (omega arith)).place
  hears ShowCert p = tt

-- A message that passed tells this.
pub tells : (pool : Pool) (accepts : List ℕ → Bool) (s : ℕ) (T : Transcript) (m : List ℕ) (room board : ℕ) (x : Said) → Sound pool s → Bytes m →
    ((i : ℕ) (w : Word) → i < records m → accepts (record_at m i) ≡ true → word_of (statement_at m i) ≡ some w → Sound pool (signer_at m i) → Wrote (signer_at m i) w T) →
    checks pool.f accepts m room board ≡ Ok x → Telling pool s T x
tells pool accepts s T m room board x sound bytes written e =
    let p = (accepted_when_passed pool.f accepts m room board x).0 e in
    subst (Telling pool s T) (sym p.2.2) (hears pool accepts s T m sound bytes written p.1 p.2.0 p.2.1)
