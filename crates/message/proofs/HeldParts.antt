-- What the parts of a message say is what the message says.
use Rattle.std.proofs.Common.{◌≡◌, ℕ, zero, suc, ◌+◌, ◌<◌, ◌≤◌, eqb, ltb, List, ◌∷◌, sym, refl, ap, ◌∙◌, ⊎_elim, arith}
use Rattle.std.proofs.lemmas.Bool.{cond-true, cond-false, lt-ltb, le-ltb, cases_eq, eq-eqb, ne_eqb}
use Rattle.record.specs.declared.fields.Statement.{Statement}
use Rattle.message.proofs.Groups.{records-group, statement_group}
use Rattle.message.specs.Forms.{quorum}
use Rattle.message.specs.Records.{records, statement_at, stated, no_statement, group}
use Rattle.message.specs.Said.{resolve, round, request_of}
use Rattle.message.specs.Saying.{requests_from, requests_in, target, said_of}
use Rattle.message.specs.Sizes.{SmallSigners, size, Readable}
use Rattle.message.specs.declared.form.Form.{Form}
use Rattle.message.specs.declared.form.Form.TheVariants.{Resolve, Round}

-- signers that have a byte of the board each have one in every group
pub small_group : (m : List ℕ) (first n : ℕ) → first + n ≤ records m → SmallSigners m → SmallSigners (group m first n)
small_group m first n within small k less =
    let long : records (group m first n) ≡ n = records-group m first n within in
    let e : statement_at (group m first n) k ≡ statement_at m (first + k) = statement_group m first n k (omega arith) in
    let s : (statement_at (group m first n) k).signer ≡ (statement_at m (first + k)).signer = ap (λ (t : Statement). t.signer) e in
    omega (arith, s, small (first + k) (omega arith))

module _ (m : List ℕ) (first n : ℕ) (within : first + n ≤ records m) where
  pub stated_group : (k : ℕ) → k < n → stated (group m first n) k ≡ statement_at m (first + k)
  stated_group k less =
      let long : records (group m first n) ≡ n = records-group m first n within in
      cond-true (ltb k (records (group m first n))) (statement_at (group m first n) k) no_statement (lt-ltb k (records (group m first n)) (omega arith)) ∙ statement_group m first n k less

  pub place_group : (stated (group m first n) 0).place ≡ target m first n
  place_group =
      let long : records (group m first n) ≡ n = records-group m first n within in
      ⊎_elim
      (λ none.
      ap (λ (s : Statement). s.place)
      (cond-false (ltb 0 (records (group m first n))) (statement_at (group m first n) 0) no_statement (le-ltb 0 (records (group m first n)) (omega arith)))
      ∙ sym (cond-true (eqb n 0) 0 (statement_at m first).place (eq-eqb n 0 none)))
      (λ some.
      let e : first + 0 ≡ first = omega arith in
      ap (λ (s : Statement). s.place) (stated_group 0 (omega arith))
      ∙ ap (λ i. (statement_at m i).place) e
      ∙ sym (cond-false (eqb n 0) 0 (statement_at m first).place (ne_eqb n 0 some)))
      (cases_eq n 0)

  requests_along : (k j : ℕ) → k + j ≤ n → requests_from (group m first n) k j ≡ requests_from m (first + k) j
  unfolding requests_from
  requests_along k zero fits = refl
  requests_along k (suc j) fits =
      let here : statement_at (group m first n) k ≡ statement_at m (first + k) = statement_group m first n k (omega arith) in
      let e : first + (k + 1) ≡ first + k + 1 = omega arith in
      let later : requests_from (group m first n) (k + 1) j ≡ requests_from m (first + (k + 1)) j = requests_along (k + 1) j (omega arith) in
      ap (λ s. request_of s ∷ requests_from (group m first n) (k + 1) j) here
      ∙ ap (λ l. request_of (statement_at m (first + k)) ∷ l) (later ∙ ap (λ i. requests_from m i j) e)

  pub requests_group : requests_in (group m first n) ≡ requests_from m first n
  requests_group =
      let long : records (group m first n) ≡ n = records-group m first n within in
      let e : first + 0 ≡ first = omega arith in
      ap (requests_from (group m first n) 0) long ∙ requests_along 0 n (omega arith) ∙ ap (λ i. requests_from m i n) e

module _ (f : ℕ) (m : List ℕ) where
  first_of : (n : ℕ) → 0 < n → n ≤ records m → stated (group m 0 n) 0 ≡ statement_at m 0
  first_of n some within = stated_group m 0 n (omega arith) 0 some

  pub held_resolve : (form : Form) (g r : List ℕ) → Readable f m form → form ≡ Resolve → g ≡ group m 0 (quorum f) → r ≡ group m (quorum f) 1
      → resolve (stated g 0).round (stated g 0).place (request_of (stated r 0)) ≡ said_of f m form
  held_resolve form g r ok is eg er =
      let long : records m ≡ quorum f + 1 = ok.long ∙ ap (size f) is in
      let z : quorum f + 0 ≡ quorum f = omega arith in
      let one : stated g 0 ≡ statement_at m 0 = ap (λ p. stated p 0) eg ∙ first_of (quorum f) (omega arith) (omega arith) in
      let two : stated r 0 ≡ statement_at m (quorum f) = ap (λ p. stated p 0) er ∙ stated_group m (quorum f) 1 (omega arith) 0 (omega arith) ∙ ap (statement_at m) z in
      ap (λ s. resolve s.round s.place (request_of (stated r 0))) one
      ∙ ap (λ s. resolve (statement_at m 0).round (statement_at m 0).place (request_of s)) two
      ∙ ap (said_of f m) (sym is)

  pub held_round : (form : Form) (grants requests : ℕ) (s g r : List ℕ) → Readable f m form → form ≡ Round grants requests
      → s ≡ group m 0 (quorum f) → g ≡ group m (quorum f) grants → r ≡ group m (quorum f + grants) requests
      → round (stated s 0).round (stated g 0).place (requests_in r) ≡ said_of f m form
  held_round form grants requests s g r ok is es eg er =
      let long : records m ≡ quorum f + grants + requests = ok.long ∙ ap (size f) is in
      let one : stated s 0 ≡ statement_at m 0 = ap (λ p. stated p 0) es ∙ first_of (quorum f) (omega arith) (omega arith) in
      let two : (stated g 0).place ≡ target m (quorum f) grants = ap (λ p. (stated p 0).place) eg ∙ place_group m (quorum f) grants (omega arith) in
      let three : requests_in r ≡ requests_from m (quorum f + grants) requests = ap requests_in er ∙ requests_group m (quorum f + grants) requests (omega arith) in
      ap (λ x. round x.round (stated g 0).place (requests_in r)) one
      ∙ ap (λ x. round (statement_at m 0).round x (requests_in r)) two
      ∙ ap (λ x. round (statement_at m 0).round (target m (quorum f) grants) x) three
      ∙ ap (said_of f m) (sym is)

  pub parts_round : (form : Form) (grants requests : ℕ) (s g r : List ℕ) (fs fg fr : ℕ) → Readable f m form → form ≡ Round grants requests
      → s ≡ group m 0 (quorum f) → g ≡ group m (quorum f) grants → r ≡ group m (quorum f + grants) requests
      → fs ≡ 0 → fg ≡ quorum f → fr ≡ quorum f + grants
      → ((fs ≡ 0) × (s ≡ group m 0 (quorum f)))
      × ((fg ≡ quorum f) × (g ≡ group m (quorum f) (records g)))
      × ((fr ≡ quorum f + records g) × (r ≡ group m (quorum f + records g) (records r)))
      × (records m ≡ quorum f + records g + records r)
  parts_round form grants requests s g r fs fg fr ok is es eg er zs zg zr =
      let long : records m ≡ quorum f + grants + requests = ok.long ∙ ap (size f) is in
      let ng : records g ≡ grants = ap records eg ∙ records-group m (quorum f) grants (omega arith) in
      let nr : records r ≡ requests = ap records er ∙ records-group m (quorum f + grants) requests (omega arith) in (
        (zs, es),
        (zg, eg ∙ ap (group m (quorum f)) (sym ng)),
        (zr ∙ ap (λ n. quorum f + n) (sym ng), er ∙ ap (λ n. group m (quorum f + n) requests) (sym ng) ∙ ap (group m (quorum f + records g)) (sym nr)),
        omega arith,
      )
