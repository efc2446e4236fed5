-- The records of a quorum of GRANTs pass the checks of a site: one claim as a WRITE-2, different claims with a REQUEST as a RESOLVE.
use Rattle.std.proofs.Common.{◌≡◌, ℕ, ◌+◌, ◌*◌, ◌<◌, ◌≤◌, Bool, true, ◌⊎◌, List, [], ◌∷◌, ◌++◌, length, get_or, take, Some, Ok, Option, sym, refl, ap, ◌∙◌, subst, inl, inr, arith, length-append}
use Rattle.std.specs.List.{AllByRecursion as All}
use Rattle.std.proofs.ByRecursion.{All-from_get_or, All-weaker}
use Rattle.std.proofs.lemmas.List.{append-nil, drop_at, take_all}
use Rattle.std.proofs.lemmas.Bool.{cases_lt}
use Rattle.finder.specs.Law.{Pairs, Agree}
use Rattle.message.proofs.Outcome.{accepted_when_passed}
use Rattle.message.specs.Checks.{checks}
use Rattle.message.specs.Forms.{quorum}
use Rattle.message.specs.Laws.{Passed, claim_at, signer_at, round_at, place_at, IsOneClaim}
use Rattle.message.specs.Limits.{least_room, board_size}
use Rattle.message.specs.Records.{records, record_at, statement_at}
use Rattle.message.specs.Said.{write_2, resolve, request_of}
use Rattle.message.specs.declared.form.Form.TheVariants.{Write2, Resolve}
use Rattle.record.proofs.Facts.{claims_compared}
use Rattle.record.specs.Claims.{claim_of}
use Rattle.record.specs.Kinds.{kind_number}
use Rattle.record.specs.Layout.{statement_of}
use Rattle.record.specs.Ranges.{in_range}
use Rattle.record.specs.declared.fields.Claim.{Claim}
use Rattle.record.specs.declared.fields.Record.{Record}
use Rattle.record.specs.declared.fields.Statement.{Statement}
use Rattle.record.specs.declared.kind.Kind.TheVariants.{Grant, Request}
use Rattle.office.specs.Alike.{claim_reflexive, place_reflexive, place_parts}
use Rattle.office.proofs.Members.{Has, each_has, slot_there}
use Rattle.office.proofs.Pieces.{Piece, pieces, piece_says, group_long, grant_site, one_place_each}
use Rattle.office.specs.Filed.{Filed, is_write_reply}
use Rattle.office.specs.Judging.{records_of, lead, stated_in}
use Rattle.office.specs.Laws.{ClaimQuorum, PlaceQuorum, Never}
use Rattle.office.specs.Likenesses.{one_claim, one_place, both_held, claim_slots}
use Rattle.office.specs.Sending.{Certificate, Clashing, Asked}
use Rattle.office.specs.Slots.{slot_at}
use Rattle.office.specs.declared.desk.Desk.{Desk}
use Rattle.office.specs.declared.slots.Slot.{Slot}

module _ (f client : ℕ) (accepts : List ℕ → Bool) (desk : Desk) (slots : List Slot) (low : f ≤ 5) (filed : Filed f client accepts desk is_write_reply slots) where
  -- The GRANTs at the front of a message, which are alike in some way.
  module _ (like : Statement → Statement → Bool) (first : Record) (sites tail m : List ℕ) (size : length sites ≡ quorum f) (all : All (Has Grant like slots first) sites)
      (is : m ≡ records_of slots sites ++ tail) where
    abbrev piece_type : ℕ → Type 0
    piece_type k = Piece f client accepts desk is_write_reply slots filed Grant like first m k (get_or sites k 0)

    piece : (k : ℕ) → k < quorum f → piece_type k
    piece k less =
        subst (λ (l : List ℕ). Piece f client accepts desk is_write_reply slots filed Grant like first l k (get_or sites k 0)) (sym is)
        (pieces f client accepts desk is_write_reply slots filed Grant like first sites tail all k (omega arith))

    says : (k : ℕ) (less : k < quorum f) → statement_at m k ≡ (piece k less).reply.statement
    says k less = piece_says f client accepts desk is_write_reply slots filed Grant like first m k (get_or sites k 0) (piece k less)

    grants : (k : ℕ) → k < quorum f → (statement_at m k).kind ≡ kind_number Grant
    grants k less = ap (λ (s : Statement). s.kind) (says k less) ∙ (piece k less).of_the_kind

    ranged : (k : ℕ) → k < quorum f → in_range f (statement_at m k) ≡ true
    ranged k less = ap (in_range f) (says k less) ∙ (piece k less).good.ranged

    signed : (k : ℕ) → k < quorum f → signer_at m k ≡ get_or sites k 0
    signed k less = ap (λ (s : Statement). s.signer) (says k less) ∙ (piece k less).good.signer

    in_pool : (k : ℕ) → k < quorum f → signer_at m k < 3 * f + 1
    in_pool k less = grant_site f (statement_at m k) (ranged k less) (grants k less)

    vouched : (k : ℕ) → k < quorum f → accepts (record_at m k) ≡ true
    vouched k less = ap accepts (piece k less).bytes ∙ (piece k less).good.vouched

    likened : (k : ℕ) → k < quorum f → like first.statement (statement_at m k) ≡ true
    likened k less = ap (like first.statement) (says k less) ∙ (piece k less).like_first

    long : length m ≡ 80 * quorum f + length tail
    long =
        let a = ap length is ∙ length-append (records_of slots sites) tail in
        let b = group_long f client accepts desk is_write_reply slots filed Grant like first sites all in
        omega arith

  -- A quorum of GRANTs of one claim.
  module _ (first : Record) (sites : List ℕ) (quorate : ClaimQuorum (quorum f) slots sites) (all : All (Has Grant one_claim slots first) sites) where
    abbrev m : List ℕ
    m = records_of slots sites

    abbrev claim : Claim
    claim = claim_of first.statement

    whole : m ≡ m ++ []
    whole = sym (append-nil m)

    size : length sites ≡ quorum f
    size = quorate.size

    count : records m ≡ quorum f
    count = let l = long one_claim first sites [] m size all whole in omega arith

    claims : (k : ℕ) → k < quorum f → claim_at m k ≡ claim
    claims k less = sym ((claims_compared claim (claim_at m k)).0 (likened one_claim first sites [] m size all whole k less))

    passes : Passed f accepts m Write2
    passes = record {
      kinds = (low, count, λ k from to. grants one_claim first sites [] m size all whole k to);
      fields = λ k less. ranged one_claim first sites [] m size all whole k (omega (arith, count));
      alike = λ k less. claims k (omega (arith, count)) ∙ sym (claims 0 (omega arith));
      clashing = λ z. z;
      different =
          λ from n group i j li hi lj hj e.
          let hi' : i < quorum f = omega (arith, group.0, group.1) in
          let hj' : j < quorum f = omega (arith, group.0, group.1) in
          one_place_each sites quorate.ordered i j (omega arith) (omega arith) (sym (signed one_claim first sites [] m size all whole i hi') ∙ e ∙ signed one_claim first sites [] m size all whole j hj');
      sites = λ from n group i li hi. in_pool one_claim first sites [] m size all whole i (omega (arith, group.0, group.1));
      vouched = λ sealed k less. vouched one_claim first sites [] m size all whole k (omega (arith, count));
      reached = λ k less z. z;
      rising = λ k less z. z;
    }

    pub certifies : Certificate f accepts claim m
    certifies room fits =
        let l = long one_claim first sites [] m size all whole in
        let few : 1 ≤ records m = omega (arith, count) in
        let most : records m ≤ 38 = omega (arith, count) in
        let bytes : length m ≡ 80 * records m = omega (arith, count) in
        (accepted_when_passed f accepts m room board_size (write_2 claim m)).1
        ((fits, refl), (few, most, bytes), (Write2, passes, ap (λ (c : Claim). write_2 c m) (sym (claims 0 (omega arith)))))

  -- The sites of a quorum whose GRANTs all make one claim are a quorum of one claim.
  abbrev Makes : Claim → ℕ → Type 0
  Makes wanted j = (reply : Record) × ((slot_at slots j).filed ≡ Some reply) × (claim_of reply.statement ≡ wanted)

  agrees : (wanted : Claim) (i j : ℕ) → Makes wanted i → Makes wanted j → Agree claim_slots slots i j
  agrees wanted i j (a, fa, ca) (b, fb, cb) x y ex ey =
      let ha : x.filed ≡ Some a = ap (λ (s : Slot). s.filed) (sym (slot_there slots i x ex)) ∙ fa in
      let hb : y.filed ≡ Some b = ap (λ (s : Slot). s.filed) (sym (slot_there slots j y ey)) ∙ fb in
      ap (λ (o : Option Record). both_held one_claim o y.filed) ha
      ∙ ap (λ (o : Option Record). both_held one_claim (Some a) o) hb
      ∙ (claims_compared (claim_of a.statement) (claim_of b.statement)).1 (ca ∙ sym cb)

  all_agree : (wanted : Claim) (sites : List ℕ) → All (Makes wanted) sites → Pairs (Agree claim_slots slots) sites
  all_agree wanted [] all = tt
  all_agree wanted (i ∷ sites) (here, all) =
      (All-weaker (Makes wanted) (Agree claim_slots slots i) (λ j there. agrees wanted i j here there) sites all, all_agree wanted sites all)

  one_throughout : (sites : List ℕ) (claim : Claim) → PlaceQuorum (quorum f) slots sites → All (Makes claim) sites → ClaimQuorum (quorum f) slots sites
  one_throughout sites claim quorate same = record {
    size = quorate.size;
    known = quorate.known;
    ordered = quorate.ordered;
    sent = quorate.sent;
    agree = all_agree claim sites same;
  }

  -- A quorum of GRANTs of one round and place, where none is of one claim, and a REQUEST.
  module _ (first : Record) (sites asked : List ℕ) (quorate : PlaceQuorum (quorum f) slots sites) (never : Never (ClaimQuorum (quorum f) slots))
      (all : All (Has Grant one_place slots first) sites) (asks : Asked f accepts asked) where
    abbrev n : List ℕ
    n = records_of slots sites ++ asked

    enough : length sites ≡ quorum f
    enough = quorate.size

    in_all : records n ≡ quorum f + 1
    in_all = let l = long one_place first sites asked n enough all refl in omega (arith, asks.size)

    behind : record_at n (quorum f) ≡ asked
    behind =
        let l = group_long f client accepts desk is_write_reply slots filed Grant one_place first sites all in
        let e : length (records_of slots sites) ≡ 80 * quorum f = omega arith in
        ap (take 80) (drop_at (records_of slots sites) asked (80 * quorum f) e) ∙ take_all 80 asked (omega (arith, asks.size))

    last : (k : ℕ) → k < records n → (k < quorum f) ⊎ (k ≡ quorum f)
    last k less =
        elim (cases_lt k (quorum f)) [
          | inl before ↦ inl before
          | inr past ↦ inr (omega (arith, in_all))
        ]

    at_last : (P : List ℕ → Type 0) → P asked → (k : ℕ) → k ≡ quorum f → P (record_at n k)
    at_last P h k e = subst P (sym (ap (record_at n) e ∙ behind)) h

    places : (k : ℕ) → k < quorum f → (first.statement.round ≡ round_at n k) × (first.statement.place ≡ place_at n k)
    places k less = place_parts first.statement (statement_at n k) (likened one_place first sites asked n enough all refl k less)

    -- one claim throughout would be a quorum of that claim
    not_one : IsOneClaim f n Resolve → ⊥
    not_one same =
        never sites
        (one_throughout sites (claim_at n 0) quorate
        (All-from_get_or (Makes (claim_at n 0)) sites 0
        (λ k less.
        let l : k < quorum f = omega arith in
        let p = piece one_place first sites asked n enough all refl k l in
        (p.reply, p.there, ap claim_of (sym (says one_place first sites asked n enough all refl k l)) ∙ same k l))))

    resolves : Passed f accepts n Resolve
    resolves = record {
      kinds = (
        low,
        in_all,
        λ k from to. grants one_place first sites asked n enough all refl k to,
        λ k from to. at_last (λ (b : List ℕ). (statement_of b).kind ≡ kind_number Request) asks.kind k (omega arith),
      );
      fields = λ k less. elim (last k less) [
        | inl before ↦ ranged one_place first sites asked n enough all refl k before
        | inr end ↦ at_last (λ (b : List ℕ). in_range f (statement_of b) ≡ true) asks.ranged k end
      ];
      alike = λ k less before.
          let a = places k before in
          let b = places 0 (omega arith) in
          (sym a.0 ∙ b.0, sym a.1 ∙ b.1);
      clashing = not_one;
      different =
          λ from size group i j li hi lj hj e.
          let hi' : i < quorum f = omega (arith, group.0, group.1) in
          let hj' : j < quorum f = omega (arith, group.0, group.1) in
          one_place_each sites quorate.ordered i j (omega arith) (omega arith) (sym (signed one_place first sites asked n enough all refl i hi') ∙ e ∙ signed one_place first sites asked n enough all refl j hj');
      sites = λ from size group i li hi. in_pool one_place first sites asked n enough all refl i (omega (arith, group.0, group.1));
      vouched = λ sealed k less. elim (last k less) [
        | inl before ↦ vouched one_place first sites asked n enough all refl k before
        | inr end ↦ at_last (λ (b : List ℕ). accepts b ≡ true) asks.vouched k end
      ];
      reached = λ k less z. z;
      rising = λ k less z. z;
    }

    pub clashes : (room : ℕ) → least_room ≤ room → checks f accepts n room board_size ≡ Ok (resolve first.statement.round first.statement.place (request_of (statement_of asked)))
    clashes room fits =
        let l = long one_place first sites asked n enough all refl in
        let few : 1 ≤ records n = omega (arith, in_all) in
        let most : records n ≤ 38 = omega (arith, in_all) in
        let bytes : length n ≡ 80 * records n = omega (arith, in_all, asks.size) in
        let p = places 0 (omega arith) in
        let round : first.statement.round ≡ round_at n 0 = p.0 in
        let place : first.statement.place ≡ place_at n 0 = p.1 in
        let request : statement_of asked ≡ statement_at n (quorum f) = ap statement_of (sym behind) in
        let said : resolve first.statement.round first.statement.place (request_of (statement_of asked)) ≡ resolve (round_at n 0) (place_at n 0) (request_of (statement_at n (quorum f))) =
        ap (λ (r : ℕ). resolve r first.statement.place (request_of (statement_of asked))) round
        ∙ ap (λ (p : ℕ). resolve (round_at n 0) p (request_of (statement_of asked))) place
        ∙ ap (λ (s : Statement). resolve (round_at n 0) (place_at n 0) (request_of s)) request in
        (accepted_when_passed f accepts n room board_size (resolve first.statement.round first.statement.place (request_of (statement_of asked)))).1
        ((fits, refl), (few, most, bytes), (Resolve, resolves, said))

  -- What CERTIFY or BACK, and CLASH, write.
  pub certificate : (sites : List ℕ) → ClaimQuorum (quorum f) slots sites → Certificate f accepts (claim_of (lead slots sites)) (records_of slots sites)
  certificate [] quorate = let z : 0 ≡ quorum f = quorate.size in absurd (omega arith)
  certificate (i ∷ rest) quorate =
      let h = each_has Grant one_claim claim_reflexive slots (quorum f) i rest quorate in
      let e : lead slots (i ∷ rest) ≡ h.0.statement = ap stated_in h.1 in
      subst (λ (s : Statement). Certificate f accepts (claim_of s) (records_of slots (i ∷ rest))) (sym e) (certifies h.0 (i ∷ rest) quorate h.2)

  pub clash : (sites : List ℕ) → PlaceQuorum (quorum f) slots sites → Never (ClaimQuorum (quorum f) slots) → Clashing f accepts (records_of slots sites)
  clash [] quorate never = let z : 0 ≡ quorum f = quorate.size in absurd (omega arith)
  clash (i ∷ rest) quorate never =
      let h = each_has Grant one_place place_reflexive slots (quorum f) i rest quorate in
      (h.0.statement.round, h.0.statement.place, λ asked asks. clashes h.0 (i ∷ rest) asked quorate never h.2 asks)
