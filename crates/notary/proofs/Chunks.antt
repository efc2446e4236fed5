-- What a run over the whole chunks of a list says of the chunks.
use Rattle.std.proofs.Common.{◌≡◌, ℕ, ◌+◌, ◌*◌, ◌/◌, ◌<◌, ◌≤◌, true, List, [], length, take, drop, Some, None, Option, ap, ◌∙◌, arith}
use Rattle.std.specs.Option.{IsSomeAnd, IfSome, option_map}
use Rattle.std.specs.Iterator.Runs.{Run, AnyItem, AllItems, IsChunksExactRun}
use denote.Ref.{Bor}

both : {A : Type 0} (o : Option A) (P Q : A → Type 0) → IsSomeAnd o P → IfSome o Q → (x : A) × P x × Q x
both None P Q p q = absurd p
both (Some x) P Q p q = (x, p, q)

there : {A : Type 0} (o : Option A) (P Q : A → Type 0) (y : A) → option_map (λ y. y) o ≡ Some y → IfSome o P → IfSome o Q → (x : A) × P x × Q x
there None P Q y e p q = absurd (grind arith)
there (Some x) P Q y e p q = (x, p, q)

chunk_cut
    : (n k : ℕ) (from xs x : List ℕ)
    → n ≡ 80
    → from ≡ xs
    → k * n + n ≤ length from
    → x ≡ take n (drop (k * n) from)
    → (k < length xs / 80) × (x ≡ take 80 (drop (80 * k) xs))
chunk_cut n k from xs x is_80 is_xs within cut =
    let fits : k * 80 + 80 ≤ length xs = rw (is_80, is_xs) at within in
    let part : x ≡ take 80 (drop (k * 80) xs) = rw (is_80, is_xs) at cut in
    let index : k * 80 ≡ 80 * k = omega arith in
    (omega arith, part ∙ ap (λ i. take 80 (drop i xs)) index)

module _
    {S : Type 0}
    {steps : S → Option (Bor (List ℕ)) → S → Type 0}
    (p : Run steps)
    (n : ℕ)
    (from xs : List ℕ)
    (is_80 : n ≡ 80)
    (is_xs : from ≡ xs)
    (chunks : IsChunksExactRun p n from)
  where
    -- what holds of some chunk
    pub some_chunk
        : (P : Bor (List ℕ) → Type 0)
        → AnyItem p P
        → (k : ℕ) × (k < length xs / 80) × (x : Bor (List ℕ)) × (x.now ≡ take 80 (drop (80 * k) xs)) × P x
    some_chunk P (k, below, here) =
        let (x, fact, part) = both (p.at k) P _ here (chunks.2 k) in
        let cut = chunk_cut n k from xs x.now is_80 is_xs part.1 part.2.0 in
        (k, cut.0, x, cut.1, fact)

    -- what holds of every chunk
    pub every_chunk
        : (P : Bor (List ℕ) → Type 0)
        → p.whole ≡ true
        → AllItems p P
        → (k : ℕ)
        → k < length xs / 80
        → (x : Bor (List ℕ)) × (x.now ≡ take 80 (drop (80 * k) xs)) × P x
    every_chunk P whole all k below =
        let few : p.len ≡ length xs / 80
        = chunks.1 whole ∙ ap (λ m. length from / m) is_80 ∙ ap (λ l. length l / 80) is_xs
        in
        let some = p.reads k (record { ref_ptr = (0, 0); now = [] }) (omega arith) in
        let (x, fact, part) = there (p.at k) P _ _ some (all k) (chunks.2 k) in
        let cut = chunk_cut n k from xs x.now is_80 is_xs part.1 part.2.0 in
        (x, cut.1, fact)
