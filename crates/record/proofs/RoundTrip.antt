-- Reading and writing are each other's inverse.
use Rattle.std.proofs.Common.{◌≡◌, ℕ, ◌+◌, ◌^◌, ◌<◌, List, [], ◌∷◌, ◌++◌, length, get_or, take, drop, sym, refl, ap, ◌∙◌, append_assoc, arith}
use Rattle.std.proofs.lemmas.List.{take-append-drop, take_all, drop-drop, drop_more, length-drop, take_at, drop_at}
use Rattle.record.specs.Numbers.{number_at, bytes_of_number, bytes_at}
use Rattle.record.specs.Layout.{record_bytes}
use Rattle.record.specs.RoundTrip.{ReadThenWritten, WrittenThenRead}
use Rattle.record.proofs.Same.{same_statements, same_records}
use Rattle.record.proofs.Digits.{written_as_read, number_behind, read_as_written, length-bytes_of_number}

-- A list is its part up to an index and the rest.
cut : (at size : ℕ) (bytes : List ℕ) → drop at bytes ≡ bytes_at at size bytes ++ drop (at + size) bytes
cut at size bytes = sym (take-append-drop size (drop at bytes)) ∙ ap (λ r. take size (drop at bytes) ++ r) (drop-drop size at bytes)

flat : (a b c d e f g : List ℕ) → (a ++ (b ++ (c ++ (d ++ (e ++ f))))) ++ g ≡ a ++ (b ++ (c ++ (d ++ (e ++ (f ++ g)))))
flat a b c d e f g = simp append_assoc

pub read_then_written : ReadThenWritten
read_then_written bytes long all =
    let n = written_as_read 4 4 bytes all (omega arith) in
    let r = written_as_read 8 4 bytes all (omega arith) in
    let p = written_as_read 12 4 bytes all (omega arith) in
    let a = written_as_read 32 8 bytes all (omega arith) in
    let m = written_as_read 40 8 bytes all (omega arith) in
    let b₀ : bytes ≡ get_or bytes 0 0 ∷ drop 1 bytes = drop_more bytes 0 0 (omega arith) in
    let b₁ : drop 1 bytes ≡ get_or bytes 1 0 ∷ drop 2 bytes = drop_more bytes 1 0 (omega arith) in
    let b₂ : drop 2 bytes ≡ get_or bytes 2 0 ∷ drop 3 bytes = drop_more bytes 2 0 (omega arith) in
    let b₃ : drop 3 bytes ≡ get_or bytes 3 0 ∷ drop 4 bytes = drop_more bytes 3 0 (omega arith) in
    let b₄ : drop 4 bytes ≡ bytes_at 4 4 bytes ++ drop 8 bytes = cut 4 4 bytes in
    let b₈ : drop 8 bytes ≡ bytes_at 8 4 bytes ++ drop 12 bytes = cut 8 4 bytes in
    let b₁₂ : drop 12 bytes ≡ bytes_at 12 4 bytes ++ drop 16 bytes = cut 12 4 bytes in
    let b₁₆ : drop 16 bytes ≡ bytes_at 16 16 bytes ++ drop 32 bytes = cut 16 16 bytes in
    let b₃₂ : drop 32 bytes ≡ bytes_at 32 8 bytes ++ drop 40 bytes = cut 32 8 bytes in
    let b₄₀ : drop 40 bytes ≡ bytes_at 40 8 bytes ++ drop 48 bytes = cut 40 8 bytes in
    let b₄₈ : bytes_at 48 32 bytes ≡ drop 48 bytes = take_all 32 (drop 48 bytes) (simp length-drop (omega arith)) in
    let whole = flat (bytes_at 4 4 bytes) (bytes_at 8 4 bytes) (bytes_at 12 4 bytes) (bytes_at 16 16 bytes) (bytes_at 32 8 bytes) (bytes_at 40 8 bytes) (bytes_at 48 32 bytes) in
    cc

-- What is read behind a part in front of a known length, a number or bytes.
skip : (front rest : List ℕ) (long at size : ℕ) → length front ≡ long → number_at (long + at) size (front ++ rest) ≡ number_at at size rest
skip front rest long at size e = rw e at (number_behind front rest at size)

skip_bytes : (front rest : List ℕ) (long at size : ℕ) → length front ≡ long → bytes_at (long + at) size (front ++ rest) ≡ bytes_at at size rest
skip_bytes front rest long at size e =
    ap (λ l. take size l) (sym (drop-drop at long (front ++ rest)) ∙ ap (λ l. drop at l) (drop_at front rest long e))

-- The fields of a record whose parts stand one behind another are read as they were written.
fields_read : (k s c z n r p : ℕ) (o : List ℕ) (a m : ℕ) (seal rest₁ rest₂ rest₃ rest₄ rest₅ rest₆ bytes : List ℕ) →
    n < 2 ^ 32 → r < 2 ^ 32 → p < 2 ^ 32 → length o ≡ 16 → a < 2 ^ 64 → m < 2 ^ 64 → length seal ≡ 32 →
    rest₆ ≡ bytes_of_number 8 m ++ seal → rest₅ ≡ bytes_of_number 8 a ++ rest₆ → rest₄ ≡ o ++ rest₅ → rest₃ ≡ bytes_of_number 4 p ++ rest₄ →
    rest₂ ≡ bytes_of_number 4 r ++ rest₃ → rest₁ ≡ bytes_of_number 4 n ++ rest₂ → bytes ≡ k ∷ s ∷ c ∷ z ∷ rest₁ →
    (number_at 4 4 bytes ≡ n) × (number_at 8 4 bytes ≡ r) × (number_at 12 4 bytes ≡ p) × (bytes_at 16 16 bytes ≡ o) × (number_at 32 8 bytes ≡ a) × (number_at 40 8 bytes ≡ m) × (bytes_at 48 32 bytes ≡ seal)
fields_read k s c z n r p o a m seal rest₁ rest₂ rest₃ rest₄ rest₅ rest₆ bytes n< r< p< o-long a< m< seal_long e₆ e₅ e₄ e₃ e₂ e₁ e₀ =
    let head = k ∷ s ∷ c ∷ z ∷ [] in
    let ln = length-bytes_of_number 4 n in
    let lr = length-bytes_of_number 4 r in
    let lp = length-bytes_of_number 4 p in
    let la = length-bytes_of_number 8 a in
    let lm = length-bytes_of_number 8 m in
    let past₀ : (at size : ℕ) → number_at (4 + at) size bytes ≡ number_at at size rest₁ = λ at size. rw e₀ (skip head rest₁ 4 at size refl) in
    let past₁ : (at size : ℕ) → number_at (4 + at) size rest₁ ≡ number_at at size rest₂ = λ at size. rw e₁ (skip (bytes_of_number 4 n) rest₂ 4 at size ln) in
    let past₂ : (at size : ℕ) → number_at (4 + at) size rest₂ ≡ number_at at size rest₃ = λ at size. rw e₂ (skip (bytes_of_number 4 r) rest₃ 4 at size lr) in
    let past₃ : (at size : ℕ) → number_at (4 + at) size rest₃ ≡ number_at at size rest₄ = λ at size. rw e₃ (skip (bytes_of_number 4 p) rest₄ 4 at size lp) in
    let past₄ : (at size : ℕ) → number_at (16 + at) size rest₄ ≡ number_at at size rest₅ = λ at size. rw e₄ (skip o rest₅ 16 at size o-long) in
    let past₅ : (at size : ℕ) → number_at (8 + at) size rest₅ ≡ number_at at size rest₆ = λ at size. rw e₅ (skip (bytes_of_number 8 a) rest₆ 8 at size la) in
    let over₀ : (at size : ℕ) → bytes_at (4 + at) size bytes ≡ bytes_at at size rest₁ = λ at size. rw e₀ (skip_bytes head rest₁ 4 at size refl) in
    let over₁ : (at size : ℕ) → bytes_at (4 + at) size rest₁ ≡ bytes_at at size rest₂ = λ at size. rw e₁ (skip_bytes (bytes_of_number 4 n) rest₂ 4 at size ln) in
    let over₂ : (at size : ℕ) → bytes_at (4 + at) size rest₂ ≡ bytes_at at size rest₃ = λ at size. rw e₂ (skip_bytes (bytes_of_number 4 r) rest₃ 4 at size lr) in
    let over₃ : (at size : ℕ) → bytes_at (4 + at) size rest₃ ≡ bytes_at at size rest₄ = λ at size. rw e₃ (skip_bytes (bytes_of_number 4 p) rest₄ 4 at size lp) in
    let over₄ : (at size : ℕ) → bytes_at (16 + at) size rest₄ ≡ bytes_at at size rest₅ = λ at size. rw e₄ (skip_bytes o rest₅ 16 at size o-long) in
    let over₅ : (at size : ℕ) → bytes_at (8 + at) size rest₅ ≡ bytes_at at size rest₆ = λ at size. rw e₅ (skip_bytes (bytes_of_number 8 a) rest₆ 8 at size la) in
    let over₆ : (at size : ℕ) → bytes_at (8 + at) size rest₆ ≡ bytes_at at size seal = λ at size. rw e₆ (skip_bytes (bytes_of_number 8 m) seal 8 at size lm) in (
      past₀ 0 4 ∙ rw e₁ (read_as_written 4 n rest₂ n<),
      past₀ 4 4 ∙ past₁ 0 4 ∙ rw e₂ (read_as_written 4 r rest₃ r<),
      past₀ 8 4 ∙ past₁ 4 4 ∙ past₂ 0 4 ∙ rw e₃ (read_as_written 4 p rest₄ p<),
      over₀ 12 16 ∙ over₁ 8 16 ∙ over₂ 4 16 ∙ over₃ 0 16 ∙ rw e₄ (take_at o rest₅ 16 o-long),
      past₀ 28 8 ∙ past₁ 24 8 ∙ past₂ 20 8 ∙ past₃ 16 8 ∙ past₄ 0 8 ∙ rw e₅ (read_as_written 8 a rest₆ a<),
      past₀ 36 8 ∙ past₁ 32 8 ∙ past₂ 28 8 ∙ past₃ 24 8 ∙ past₄ 8 8 ∙ past₅ 0 8 ∙ rw e₆ (read_as_written 8 m seal m<),
      over₀ 44 32 ∙ over₁ 40 32 ∙ over₂ 36 32 ∙ over₃ 32 32 ∙ over₄ 16 32 ∙ over₅ 8 32 ∙ over₆ 0 32 ∙ take_all 32 seal (omega arith),
    )

pub written_then_read : WrittenThenRead
written_then_read r fits seal_long =
    let t = r.statement in
    let rest₆ = bytes_of_number 8 t.nonce ++ r.seal in
    let rest₅ = bytes_of_number 8 t.answer ++ rest₆ in
    let rest₄ = t.operation ++ rest₅ in
    let rest₃ = bytes_of_number 4 t.place ++ rest₄ in
    let rest₂ = bytes_of_number 4 t.round ++ rest₃ in
    let rest₁ = bytes_of_number 4 t.number ++ rest₂ in
    let whole : record_bytes r ≡ t.kind ∷ t.signer ∷ t.client ∷ t.spare ∷ rest₁ =
    ap (λ l. t.kind ∷ t.signer ∷ t.client ∷ t.spare ∷ l)
    (flat (bytes_of_number 4 t.number) (bytes_of_number 4 t.round) (bytes_of_number 4 t.place) t.operation (bytes_of_number 8 t.answer) (bytes_of_number 8 t.nonce) r.seal) in
    let read = fields_read t.kind t.signer t.client t.spare t.number t.round t.place t.operation t.answer t.nonce r.seal rest₁ rest₂ rest₃ rest₄ rest₅ rest₆ (record_bytes r)
    fits.number fits.round fits.place fits.operation fits.answer fits.nonce seal_long refl refl refl refl refl refl whole in
    same_records (same_statements refl refl refl refl read.0 read.1 read.2 read.3 read.4 read.5) read.6
