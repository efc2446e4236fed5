-- How the hash value moves from block to block.
use Rattle.std.proofs.Common.{◌≡◌, ℕ, suc, ◌+◌, ◌*◌, ◌/◌, ◌<◌, ◌≤◌, List, [], ◌++◌, length, take, drop, sym, refl, ap, ◌∙◌, arith}
use Rattle.std.proofs.lemmas.List.{append-nil, append_assoc, length-append, length-drop, length-take-le, take-append-drop, take_at, drop-drop, drop_at}
use Rattle.sha256.specs.Compression.{compressed}
use Rattle.sha256.specs.Digest.{absorbed, chained}

pub absorbed_none : (hs : List ℕ) → absorbed hs [] ≡ hs
unfolding absorbed chained
absorbed_none hs = refl

-- the first block goes into the hash value
pub absorbed_block
    : (hs block rest : List ℕ) → length block ≡ 64 → absorbed hs (block ++ rest) ≡ absorbed (compressed hs block) rest
unfolding absorbed chained
absorbed_block hs block rest n =
    let count : length (block ++ rest) / 64 ≡ suc (length rest / 64) = omega (arith, length-append block rest) in
    ap (λ k. chained k hs (block ++ rest)) count
    ∙ ap (λ b. chained (length rest / 64) (compressed hs b) (drop 64 (block ++ rest))) (take_at block rest 64 n)
    ∙ ap (λ r. chained (length rest / 64) (compressed hs block) r) (drop_at block rest 64 n)

-- the same with the block cut off
pub absorbed_cut
    : (hs bytes more : List ℕ)
    → 64 ≤ length bytes
    → absorbed hs (bytes ++ more) ≡ absorbed (compressed hs (take 64 bytes)) (drop 64 bytes ++ more)
absorbed_cut hs bytes more h =
    ap (λ b. absorbed hs (b ++ more)) (sym (take-append-drop 64 bytes))
    ∙ ap (absorbed hs) (append_assoc (take 64 bytes) (drop 64 bytes) more)
    ∙ absorbed_block hs (take 64 bytes) (drop 64 bytes ++ more) (length-take-le 64 bytes h)

-- bytes that are one block
pub absorbed_one
    : (hs block bytes : List ℕ) → length block ≡ 64 → block ≡ bytes → compressed hs block ≡ absorbed hs bytes
absorbed_one hs block bytes n e =
    sym (absorbed_none (compressed hs block))
    ∙ sym (absorbed_block hs block [] n)
    ∙ ap (absorbed hs) (append-nil block ∙ e)

-- bytes that are two blocks
pub absorbed_two
    : (hs first second bytes : List ℕ)
    → length first ≡ 64
    → length second ≡ 64
    → first ++ second ≡ bytes
    → compressed (compressed hs first) second ≡ absorbed hs bytes
absorbed_two hs first second bytes n m e =
    absorbed_one (compressed hs first) second second m refl
    ∙ sym (absorbed_block hs first second n)
    ∙ ap (absorbed hs) e

-- one turn of the loop that takes in whole blocks
pub absorbed_turn
    : (hs after block from bytes : List ℕ) (i : ℕ)
    → i < length bytes / 64
    → block ≡ take 64 (drop (i * 64) bytes)
    → after ≡ compressed hs block
    → ((more : List ℕ) → absorbed hs (drop (i * 64) bytes ++ more) ≡ absorbed from (bytes ++ more))
    → (more : List ℕ)
    → absorbed after (drop ((i + 1) * 64) bytes ++ more) ≡ absorbed from (bytes ++ more)
absorbed_turn hs after block from bytes i within is-block is-after so_far more =
    let rest = drop (i * 64) bytes in
    let long : 64 ≤ length rest = omega (arith, length-drop (i * 64) bytes) in
    let next : drop ((i + 1) * 64) bytes ≡ drop 64 rest =
    ap (λ n. drop n bytes) {x = (i + 1) * 64} {y = i * 64 + 64} (omega arith) ∙ sym (drop-drop 64 (i * 64) bytes)
    in
    rw (is-after, is-block, next) (sym (absorbed_cut hs rest more long) ∙ so_far more)
