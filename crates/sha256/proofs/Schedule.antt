-- The steps of the two loops that write the message schedule.
use Rattle.std.proofs.Common.{◌≡◌, ℕ, suc, ◌+◌, ◌-◌, ◌*◌, ◌<◌, ◌≤◌, List, [], ◌∷◌, ◌++◌, length, get_or, take, drop, set, sym, ap, ◌∙◌, arith}
use Rattle.std.proofs.lemmas.List.Edits.{fill_by_more}
use Rattle.std.proofs.lemmas.List.FromFn.{fill_by_all}
use Rattle.std.proofs.lemmas.List.{length-set, take_more_set, length-take-le, get_or-take, get_or-drop, take_all}
use Rattle.sha256.specs.Compression.{extended, schedule_word, schedule, block_word, words_of}

-- a word of the schedule depends on the words before it only
schedule_word_front : (ws : List ℕ) (t : ℕ) → 16 ≤ t → schedule_word (take t ws) t ≡ schedule_word ws t
schedule_word_front ws t low =
    let e₂ = get_or-take t ws (t - 2) 0 (omega arith) in
    let e₇ = get_or-take t ws (t - 7) 0 (omega arith) in
    let e₁₅ = get_or-take t ws (t - 15) 0 (omega arith) in
    let e₁₆ = get_or-take t ws (t - 16) 0 (omega arith) in cc

one_more
    : (ws first : List ℕ) (t : ℕ)
    → 16 ≤ t
    → t < length ws
    → take t ws ≡ extended (t - 16) first
    → take (t + 1) (set ws t (schedule_word ws t)) ≡ extended (t + 1 - 16) first
unfolding extended
one_more ws first t low fits so_far =
    let at : t + 1 - 16 ≡ suc (t - 16) = omega arith in
    let n = length-take-le t ws (omega arith) in
    take_more_set ws t (schedule_word ws t) fits
    ∙ ap (λ v. take t ws ++ v ∷ []) (sym (schedule_word_front ws t low))
    ∙ ap (λ n. take t ws ++ schedule_word (take t ws) n ∷ []) (sym n)
    ∙ ap (λ xs. xs ++ schedule_word xs (length xs) ∷ []) so_far
    ∙ ap (λ n. extended n first) (sym at)

-- one more word written at its place t
pub extended_more
    : (ws first : List ℕ) (t : ℕ)
    → 16 ≤ t
    → t < 64
    → (length ws ≡ 64) × (take t ws ≡ extended (t - 16) first)
    → (length (set ws t (schedule_word ws t)) ≡ 64) × (take (t + 1) (set ws t (schedule_word ws t)) ≡ extended (t + 1 - 16) first)
extended_more ws first t low fits (n, so_far) =
    (length-set ws t (schedule_word ws t) ∙ n, one_more ws first t low (omega arith) so_far)

-- the first sixteen words written
pub words_written
    : (ws block : List ℕ)
    → length ws ≡ 64
    → ((k : ℕ) → k < 16 → get_or ws k 0 ≡ block_word block k)
    → take 16 ws ≡ extended 0 (words_of block)
unfolding extended words_of
words_written ws block n each =
    fill_by_all
    (block_word block)
    (take 16 ws)
    16
    0
    (length-take-le 16 ws (omega arith))
    (λ k h. get_or-take 16 ws k 0 h ∙ each k h)

-- all 64 words written
pub schedule_written
    : (ws block : List ℕ) → length ws ≡ 64 → take 64 ws ≡ extended 48 (words_of block) → ws ≡ schedule block
unfolding schedule
schedule_written ws block n written = sym (take_all 64 ws (omega arith)) ∙ written

-- byte k of chunk t of four bytes
byte_of_word : (block word : List ℕ) (t k : ℕ) → k < 4 → word ≡ take 4 (drop (t * 4) block) → get_or word k 0 ≡ get_or block (4 * t + k) 0
byte_of_word block word t k h e =
    ap (λ b. get_or b k 0) e
    ∙ get_or-take 4 (drop (t * 4) block) k 0 h
    ∙ get_or-drop (t * 4) block k 0
    ∙ ap (λ n. get_or block n 0) {x = t * 4 + k} {y = 4 * t + k} (omega arith)

-- the number that chunk t of four bytes writes is word t of the block
pub word_read
    : (block word : List ℕ) (t v : ℕ)
    → word ≡ take 4 (drop (t * 4) block)
    → v ≡ get_or word 0 0 * 16777216 + get_or word 1 0 * 65536 + get_or word 2 0 * 256 + get_or word 3 0
    → v ≡ block_word block t
word_read block word t v e is-v =
    let first : get_or block (4 * t + 0) 0 ≡ get_or block (4 * t) 0 = ap (λ n. get_or block n 0) {x = 4 * t + 0} {y = 4 * t} (omega arith) in
    let b₀ = byte_of_word block word t 0 (omega arith) e in
    let b₁ = byte_of_word block word t 1 (omega arith) e in
    let b₂ = byte_of_word block word t 2 (omega arith) e in
    let b₃ = byte_of_word block word t 3 (omega arith) e in cc

-- one more word of the block written at its place t
pub WordsMore
    : (ws block : List ℕ) (t v : ℕ)
    → t < 16
    → v ≡ block_word block t
    → (length ws ≡ 64) × ((k : ℕ) → k < t → get_or ws k 0 ≡ block_word block k)
    → (length (set ws t v) ≡ 64) × ((k : ℕ) → k < t + 1 → get_or (set ws t v) k 0 ≡ block_word block k)
WordsMore ws block t v h e (n, so_far) = (
  length-set ws t v ∙ n,
  rw e (fill_by_more (block_word block) ws t 0 (omega arith) so_far),
)
