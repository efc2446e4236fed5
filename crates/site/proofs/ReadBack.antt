-- What a site writes is read back as it was meant: the one record of a reply, with the answer in eight bytes.
use Rattle.std.proofs.Common.{◌≡◌, ℕ, zero, suc, ◌+◌, ◌*◌, ◌/◌, ◌%◌, ◌^◌, ◌<◌, true, eqb, List, [], ◌∷◌, ◌++◌, length, take, drop, replicate, sym, refl, ap, ◌∙◌, pow-suc, div-add-mod', arith}
use mathlib.Core.Option.{some}
use Rattle.std.proofs.lemmas.List.{length-append, length-replicate, take_at, take_all}
use Rattle.std.proofs.lemmas.Bool.{cond-true, eq-eqb}
use Rattle.record.proofs.Digits.{length-bytes_of_number}
use Rattle.record.proofs.RoundTrip.{written_then_read}
use Rattle.record.specs.Layout.{statement_of, record_bytes}
use Rattle.record.specs.Numbers.{bytes_of_number}
use Rattle.record.specs.RoundTrip.{Fits}
use Rattle.record.specs.declared.fields.Record.{Record}
use Rattle.record.specs.declared.fields.Statement.{Statement}
use Rattle.message.specs.Records.{records, statement_at}
use Rattle.protocol.specs.Words.{Word, Deed}
use Rattle.site.specs.Life.{word_of, own_words, one_more}

-- A number's last bytes do not see multiples of the power of 256 above them.
low_bytes : (size n m : ℕ) → bytes_of_number size (n + m * 256 ^ size) ≡ bytes_of_number size n
unfolding bytes_of_number
low_bytes zero n m = refl
low_bytes (suc size) n m =
    let k = m * 256 ^ size in
    let up : m * 256 ^ suc size ≡ m * (256 ^ size * 256) = ap (λ x. m * x) (pow-suc 256 size) in
    let e : m * 256 ^ suc size ≡ k * 256 = omega arith in
    let quotient : (n + k * 256) / 256 ≡ n / 256 + k = omega arith in
    let remainder : (n + k * 256) % 256 ≡ n % 256 = omega arith in
    let before = low_bytes size (n / 256) m in
    cc

eight_bytes : (n : ℕ) → bytes_of_number 8 n ≡ bytes_of_number 8 (n % 2 ^ 64)
eight_bytes n =
    let e : n % 2 ^ 64 + n / 2 ^ 64 * 256 ^ 8 ≡ n = omega (arith, div-add-mod' n (2 ^ 64)) in
    ap (bytes_of_number 8) (sym e) ∙ low_bytes 8 (n % 2 ^ 64) (n / 2 ^ 64)

-- A statement with its answer in eight bytes.
abbrev pub in_bytes : Statement → Statement
in_bytes s = record {
  kind = s.kind;
  signer = s.signer;
  client = s.client;
  spare = s.spare;
  number = s.number;
  round = s.round;
  place = s.place;
  operation = s.operation;
  answer = s.answer % 2 ^ 64;
  nonce = s.nonce;
}

-- The record that a site writes for a statement: its seal is zero.
abbrev pub own_bytes : Statement → List ℕ
own_bytes s = record_bytes (record { statement = s; seal = replicate 32 0 })

same_bytes : (s : Statement) → own_bytes s ≡ own_bytes (in_bytes s)
same_bytes s =
    ap (λ l. (s.kind ∷ s.signer ∷ s.client ∷ s.spare ∷ bytes_of_number 4 s.number ++ (bytes_of_number 4 s.round ++ (bytes_of_number 4 s.place
    ++ (s.operation ++ (l ++ bytes_of_number 8 s.nonce))))) ++ replicate 32 0) (eight_bytes s.answer)

own_long : (s : Statement) → length s.operation ≡ 16 → length (own_bytes s) ≡ 80
own_long s long = simp (length-append, length-bytes_of_number, length-replicate) (omega arith)

-- The fields fit, the answer apart.
pub record Fitting (s : Statement) : Type 0 where
  pub number : s.number < 2 ^ 32
  pub round : s.round < 2 ^ 32
  pub place : s.place < 2 ^ 32
  pub operation : length s.operation ≡ 16
  pub nonce : s.nonce < 2 ^ 64

own_read : (s : Statement) → Fitting s → statement_of (own_bytes s) ≡ in_bytes s
own_read s fits =
    let all : Fits (in_bytes s) = record { number = fits.number; round = fits.round; place = fits.place; operation = fits.operation; answer = omega arith; nonce = fits.nonce } in
    let back = written_then_read (record { statement = in_bytes s; seal = replicate 32 0 }) all (length-replicate {A = ℕ} 32 0) in
    ap statement_of (same_bytes s) ∙ ap (λ (r : Record). r.statement) back

pub one_own : (deed : Word → Deed) (site : ℕ) (s : Statement) (w : Word) (output : List ℕ) → Fitting s → s.signer ≡ site → word_of (in_bytes s) ≡ some w →
    own_words deed site (take (length (own_bytes s)) (own_bytes s ++ drop (length (own_bytes s)) output)) (records (take (length (own_bytes s)) (own_bytes s ++ drop (length (own_bytes s)) output))) ≡ deed w ∷ []
one_own deed site s w output fits signer word =
    let long = own_long s fits.operation in
    let cut : take (length (own_bytes s)) (own_bytes s ++ drop (length (own_bytes s)) output) ≡ own_bytes s = take_at (own_bytes s) (drop (length (own_bytes s)) output) (length (own_bytes s)) refl in
    let one : records (own_bytes s) ≡ 1 = omega (arith, long) in
    let all : take 80 (drop 0 (own_bytes s)) ≡ own_bytes s = take_all 80 (own_bytes s) (omega (arith, long)) in
    let there : statement_at (own_bytes s) 0 ≡ in_bytes s = ap statement_of all ∙ own_read s fits in
    let by : eqb (statement_at (own_bytes s) 0).signer site ≡ true = eq-eqb _ _ (ap (λ (x : Statement). x.signer) there ∙ signer) in
    let says : word_of (statement_at (own_bytes s) 0) ≡ some w = ap word_of there ∙ word in
    ap (λ l. own_words deed site l (records l)) cut
    ∙ ap (own_words deed site (own_bytes s)) one
    ∙ cond-true (eqb (statement_at (own_bytes s) 0).signer site) (one_more deed (word_of (statement_at (own_bytes s) 0)) []) [] by
    ∙ ap (λ o. one_more deed o []) says
