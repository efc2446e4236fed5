-- A hasher that takes in one more part.
use Rattle.std.proofs.Common.{◌≡◌, ℕ, ◌+◌, ◌-◌, ◌%◌, ◌^◌, ◌<◌, List, [], ◌++◌, length, take, drop, sym, ap, ◌∙◌, add-zero, zero-add, arith}
use Rattle.std.proofs.lemmas.List.{append-nil, append_assoc, length-append, length-take-le, take_at, drop_all}
use Rattle.sha256.specs.Compression.{compressed}
use Rattle.sha256.specs.Digest.{absorbed, digest, initial, padding, sha_256, sha_256_from}
use Rattle.sha256.proofs.Absorbing.{absorbed_block}
use Rattle.sha256.proofs.Ending.{padding_same}

-- the whole message behind no blocks
pub from_nothing : (message : List ℕ) → sha_256_from initial 0 message ≡ sha_256 message
unfolding sha_256_from sha_256
from_nothing message = ap (λ n. digest (absorbed initial (message ++ padding n))) (zero-add (length message))

-- nothing more behind what was taken in
pub nothing_more
    : (hs held : List ℕ) (total : ℕ)
    → digest (absorbed hs (held ++ padding total)) ≡ digest (absorbed hs (held ++ ([] ++ padding (total + length {A = ℕ} []))))
nothing_more hs held total = ap (λ n. digest (absorbed hs (held ++ padding n))) (sym (add-zero total))

-- If what stands for the bytes so far was moved on by the part, so was the digest.
pub moved_on
    : (hs hs' held held' part : List ℕ) (total : ℕ)
    → ((z : List ℕ) → absorbed hs' (held' ++ z) ≡ absorbed hs (held ++ (part ++ z)))
    → (more : List ℕ)
    → digest (absorbed hs' (held' ++ (more ++ padding ((total + length part) % 2 ^ 64 + length more))))
    ≡ digest (absorbed hs (held ++ ((part ++ more) ++ padding (total + length (part ++ more)))))
moved_on hs hs' held held' part total core more =
    let n = (total + length part) % 2 ^ 64 + length more in
    let m = total + length (part ++ more) in
    let same : n % 2 ^ 64 ≡ m % 2 ^ 64 = omega (arith, length-append part more) in
    ap
    digest
    (core (more ++ padding n)
    ∙ ap (λ p. absorbed hs (held ++ (part ++ (more ++ p)))) (padding_same n m same)
    ∙ ap (λ x. absorbed hs (held ++ x)) (sym (append_assoc part more (padding m))))

-- a part that fills no block
module _ (hs tail tail' part : List ℕ) (total : ℕ) (long : length tail ≡ 64) where
  held_more
      : length part < 64 - total % 64
      → tail' ≡ take (total % 64) tail ++ (part ++ drop (total % 64 + length part) tail)
      → take ((total + length part) % 2 ^ 64 % 64) tail' ≡ take (total % 64) tail ++ part
  held_more h put =
      let n = length-take-le (total % 64) tail (omega arith) in
      ap
      (take ((total + length part) % 2 ^ 64 % 64))
      (put ∙ sym (append_assoc (take (total % 64) tail) part (drop (total % 64 + length part) tail)))
      ∙ take_at
      (take (total % 64) tail ++ part)
      (drop (total % 64 + length part) tail)
      ((total + length part) % 2 ^ 64 % 64)
      (omega (arith, length-append (take (total % 64) tail) part, n))

  pub KeptBack
      : length part < 64 - total % 64
      → tail' ≡ take (total % 64) tail ++ (part ++ drop (total % 64 + length part) tail)
      → (z : List ℕ)
      → absorbed hs (take ((total + length part) % 2 ^ 64 % 64) tail' ++ z)
      ≡ absorbed hs (take (total % 64) tail ++ (part ++ z))
  KeptBack h put z =
      ap (λ t. absorbed hs (t ++ z)) (held_more h put)
      ∙ ap (absorbed hs) (append_assoc (take (total % 64) tail) part z)

-- a part that fills a block
module _ (hs tail tail' part head others : List ℕ) (total : ℕ) (long : length tail ≡ 64) where
  filled
      : length head ≡ 64 - total % 64
      → tail' ≡ take (total % 64) tail ++ (head ++ drop (total % 64 + length head) tail)
      → tail' ≡ take (total % 64) tail ++ head
  filled h put =
      put
      ∙ ap
      (λ d. take (total % 64) tail ++ (head ++ d))
      (drop_all (total % 64 + length head) tail (omega arith))
      ∙ ap (λ d. take (total % 64) tail ++ d) (append-nil head)

  pub block_taken
      : length head ≡ 64 - total % 64
      → part ≡ head ++ others
      → tail' ≡ take (total % 64) tail ++ (head ++ drop (total % 64 + length head) tail)
      → (z : List ℕ)
      → absorbed (compressed hs tail') (others ++ z) ≡ absorbed hs (take (total % 64) tail ++ (part ++ z))
  block_taken h split put z =
      let t = take (total % 64) tail in
      let n = length-take-le (total % 64) tail (omega arith) in
      let whole : length (t ++ head) ≡ 64 = omega (arith, length-append t head, n) in
      ap (λ b. absorbed (compressed hs b) (others ++ z)) (filled h put)
      ∙ sym (absorbed_block hs (t ++ head) (others ++ z) whole)
      ∙ ap (absorbed hs) (append_assoc t head (others ++ z))
      ∙ ap (λ x. absorbed hs (t ++ x)) (sym (append_assoc head others z))
      ∙ ap (λ x. absorbed hs (t ++ (x ++ z))) (sym split)

-- what is left behind the whole blocks of a part, at the front of the tail
pub left_behind
    : (tail tail' rest part others : List ℕ) (total : ℕ)
    → length others + (64 - total % 64) ≡ length part
    → length rest ≡ length others % 64
    → tail' ≡ rest ++ drop (0 + length rest) tail
    → take ((total + length part) % 2 ^ 64 % 64) tail' ≡ rest
left_behind tail tail' rest part others total n m put =
    ap (take ((total + length part) % 2 ^ 64 % 64)) put
    ∙ take_at rest (drop (0 + length rest) tail) ((total + length part) % 2 ^ 64 % 64) (omega arith)
