-- The records of a group, where they lie in the bytes that are written.
use Rattle.std.proofs.Common.{◌≡◌, ℕ, zero, suc, ◌+◌, ◌*◌, ◌<◌, Bool, true, eqb, List, [], ◌∷◌, ◌++◌, length, get_or, take, drop, Some, sym, refl, ap, ◌∙◌, append_assoc, arith, length-append}
use Rattle.std.specs.List.{AllByRecursion as All}
use Rattle.std.proofs.ByRecursion.{All-get_or, All-weaker}
use Rattle.std.proofs.lemmas.List.{take_at, drop_at, drop-drop}
use Rattle.std.proofs.lemmas.Bool.{and_parts}
use Rattle.std.proofs.lemmas.Bool.Decides.{nat_tests}
use Rattle.finder.specs.Law.{Pairs}
use Rattle.finder.specs.Order.{Before}
use Rattle.message.specs.Records.{record_at, statement_at}
use Rattle.record.proofs.Digits.{length-bytes_of_number}
use Rattle.record.proofs.RoundTrip.{written_then_read}
use Rattle.record.specs.Kinds.{kind_of, kind_number}
use Rattle.record.specs.Layout.{statement_of, record_bytes}
use Rattle.record.specs.Ranges.{in_range, in_range_as, in_range_if}
use Rattle.record.specs.RoundTrip.{Fits}
use Rattle.record.specs.declared.fields.Record.{Record}
use Rattle.record.specs.declared.fields.Statement.{Statement}
use Rattle.record.specs.declared.kind.Kind.{Kind}
use Rattle.record.specs.declared.kind.Kind.TheVariants.{Grant, Answer, ReadAnswer}
use Rattle.office.proofs.Members.{Has}
use Rattle.office.specs.Filed.{Good, Filed}
use Rattle.office.specs.Judging.{records_of, bytes_in}
use Rattle.office.specs.Slots.{slot_at}
use Rattle.office.specs.declared.desk.Desk.{Desk}
use Rattle.office.specs.declared.slots.Slot.{Slot}

-- A record has 80 bytes.
pub record_long : (r : Record) → Fits r.statement → length r.seal ≡ 32 → length (record_bytes r) ≡ 80
record_long r fits sealed =
    let o = fits.operation in
    simp (length-append, length-bytes_of_number) (omega arith)

-- A record at the front, and the records behind it.
pub at_zero : (a b : List ℕ) → length a ≡ 80 → record_at (a ++ b) 0 ≡ a
at_zero a b long = take_at a b 80 long

pub at_next : (a b : List ℕ) (k : ℕ) → length a ≡ 80 → record_at (a ++ b) (suc k) ≡ record_at b k
at_next a b k long =
    let e : 80 * suc k ≡ 80 + 80 * k = omega arith in
    ap (λ (n : ℕ). take 80 (drop n (a ++ b))) e
    ∙ ap (take 80) (sym (drop-drop (80 * k) 80 (a ++ b)))
    ∙ ap (λ (l : List ℕ). take 80 (drop (80 * k) l)) (drop_at a b 80 long)

-- Different places of a group in the order of preference hold different sites.
pub one_place_each : (sites : List ℕ) → Pairs Before sites → (i j : ℕ) → i < length sites → j < length sites → get_or sites i 0 ≡ get_or sites j 0 → i ≡ j
one_place_each [] pairs i j li lj e = absurd (omega arith)
one_place_each (x ∷ sites) pairs zero zero li lj e = refl
one_place_each (x ∷ sites) pairs zero (suc j) li lj e =
    let less : j < length sites = omega arith in
    let b : Before x (get_or sites j 0) = All-get_or (Before x) sites j 0 less pairs.0 in absurd (omega arith)
one_place_each (x ∷ sites) pairs (suc i) zero li lj e =
    let less : i < length sites = omega arith in
    let b : Before x (get_or sites i 0) = All-get_or (Before x) sites i 0 less pairs.0 in absurd (omega arith)
one_place_each (x ∷ sites) pairs (suc i) (suc j) li lj e = ap suc (one_place_each sites pairs.1 i j (omega arith) (omega arith) e)

pub all_different : (sites : List ℕ) → Pairs Before sites → Pairs (λ i j. i ≡ j → ⊥) sites
all_different [] pairs = tt
all_different (x ∷ sites) pairs = (All-weaker (Before x) (λ j. x ≡ j → ⊥) (λ j b e. omega arith) sites pairs.0, all_different sites pairs.1)

-- The signer of a reply is a site of the pool.
module _ (f : ℕ) (s : Statement) (ok : in_range f s ≡ true) where
  pub ranged_as : (kind : Kind) → s.kind ≡ kind_number kind → kind_of (kind_number kind) ≡ Some kind → in_range_as f kind s ≡ true
  ranged_as kind e known = let p = (and_parts (eqb s.spare 0) (in_range_if f (kind_of s.kind) s) ok).1 in ap (λ o. in_range_if f o s) (sym (ap kind_of e ∙ known)) ∙ p

  pub grant_site : s.kind ≡ kind_number Grant → s.signer < 3 * f + 1
  grant_site e = let p : in_range_as f Grant s ≡ true = ranged_as Grant e refl in grind (arith, nat_tests)

  pub answer_site : s.kind ≡ kind_number Answer → s.signer < 3 * f + 1
  answer_site e = let p : in_range_as f Answer s ≡ true = ranged_as Answer e refl in grind (arith, nat_tests)

  pub read_answer_site : s.kind ≡ kind_number ReadAnswer → s.signer < 3 * f + 1
  read_answer_site e = let p : in_range_as f ReadAnswer s ≡ true = ranged_as ReadAnswer e refl in grind (arith, nat_tests)

module _ (f client : ℕ) (accepts : List ℕ → Bool) (desk : Desk) (wanted : Statement → Bool) (slots : List Slot) (filed : Filed f client accepts desk wanted slots)
    (kind : Kind) (like : Statement → Statement → Bool) (first : Record) where
  -- The bytes of a good reply say what it states.
  pub good_says : (i : ℕ) (reply : Record) → Good f client accepts desk i reply → statement_of (record_bytes reply) ≡ reply.statement
  good_says i reply good = ap (λ (r : Record). r.statement) (written_then_read reply good.fits good.sealed)

  pub good_long : (i : ℕ) (reply : Record) → Good f client accepts desk i reply → length (record_bytes reply) ≡ 80
  good_long i reply good = record_long reply good.fits good.sealed

  -- Record k of the bytes is the good reply of a site.
  pub record Piece (m : List ℕ) (k site : ℕ) : Type 0 where
    pub reply : Record
    pub there : (slot_at slots site).filed ≡ Some reply
    pub bytes : record_at m k ≡ record_bytes reply
    pub of_the_kind : reply.statement.kind ≡ kind_number kind
    pub like_first : like first.statement reply.statement ≡ true
    pub good : Good f client accepts desk site reply

  pub piece_says : (m : List ℕ) (k site : ℕ) (piece : Piece m k site) → statement_at m k ≡ piece.reply.statement
  piece_says m k site piece = ap statement_of piece.bytes ∙ good_says site piece.reply piece.good

  -- The bytes of a site's slot.
  shown : (i : ℕ) → Has kind like slots first i → (reply : Record) × (bytes_in (slot_at slots i).filed ≡ record_bytes reply) × (length (bytes_in (slot_at slots i).filed) ≡ 80) × Good f client accepts desk i reply
  shown i has =
      let good = (filed i has.reply has.filed).1 in
      let e : bytes_in (slot_at slots i).filed ≡ record_bytes has.reply = ap bytes_in has.filed in
      (has.reply, e, ap length e ∙ good_long i has.reply good, good)

  pub group_long : (sites : List ℕ) → All (Has kind like slots first) sites → length (records_of slots sites) ≡ 80 * length sites
  unfolding records_of
  group_long [] all = refl
  group_long (i ∷ sites) (here, all) =
      let s = shown i here in
      let l = group_long sites all in
      let a = length-append (bytes_in (slot_at slots i).filed) (records_of slots sites) in
      omega (arith, s.2)

  pub pieces
      : (sites tail : List ℕ) → All (Has kind like slots first) sites → (k : ℕ) → k < length sites → Piece (records_of slots sites ++ tail) k (get_or sites k 0)
  unfolding records_of
  pieces [] tail all k less = absurd (omega arith)
  pieces (i ∷ sites) tail (here, all) zero less =
      let a = bytes_in (slot_at slots i).filed in
      let good = (filed i here.reply here.filed).1 in
      let e : a ≡ record_bytes here.reply = ap bytes_in here.filed in
      let long : length a ≡ 80 = ap length e ∙ good_long i here.reply good in
      record {
        reply = here.reply;
        there = here.filed;
        bytes = ap (λ (l : List ℕ). record_at l 0) (append_assoc a (records_of slots sites) tail) ∙ at_zero a (records_of slots sites ++ tail) long ∙ e;
        of_the_kind = here.of_the_kind;
        like_first = here.like_first;
        good = good;
      }
  pieces (i ∷ sites) tail (here, all) (suc k) less =
      let a = bytes_in (slot_at slots i).filed in
      let long = (shown i here).2 in
      let next = pieces sites tail all k (omega arith) in
      record {
        reply = next.reply;
        there = next.there;
        bytes = ap (λ (l : List ℕ). record_at l (suc k)) (append_assoc a (records_of slots sites) tail) ∙ at_next a (records_of slots sites ++ tail) k long ∙ next.bytes;
        of_the_kind = next.of_the_kind;
        like_first = next.like_first;
        good = next.good;
      }
