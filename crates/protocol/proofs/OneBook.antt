-- The promise, from what one site's history says and what the pool's quorums share.
use Rattle.std.proofs.Common.{◌≡◌, ℕ, ◌≤◌, List, [], ◌∷◌, length, sym, refl, ap, subst, ⊎_elim, arith}
use Rattle.object.specs.Rules.{Rules}
use Rattle.protocol.specs.Words.{Claim, Question, Transcript}
use Rattle.protocol.specs.Quorum.{Pool, Sound}
use Rattle.protocol.specs.Book.{Closed, Confirmed, ConfirmedReading, Book, Begins, whole, more, but_last, writes}
use Rattle.protocol.specs.Moves.{writes_in}
use Rattle.protocol.specs.Promise.{Life, Stands, Looked, Unanswered, OneBook}
use Rattle.protocol.proofs.Quorums.{shared, reworded}
use Rattle.protocol.proofs.Lists.{begins_nil}
use Rattle.protocol.proofs.Shape.{shape}
use Rattle.protocol.proofs.Travel.{same_writes}
use Rattle.protocol.proofs.Answers.{answers, Read, at_first, after, readings, ordered, wrote-since}
use Rattle.protocol.proofs.Kept.{Stood}
use Rattle.protocol.proofs.Rounds.{history}
use Rattle.protocol.proofs.Targets.{below_answer, below_reading, one_claim, not_too_far}
use Rattle.protocol.proofs.Exists.{there_is_a_book}
use Rattle.protocol.proofs.Counting.{run_begins, one_book, older_count, all_count}

module _ {pool : Pool} {R : Rules} {first : R.Value} {T : Transcript} (life : Life pool R first T) where
  -- A site's writes but for the last begin the book.
  begun : {book : List Claim} → Book pool T book → (s : ℕ) → Sound pool s → Begins (but_last (writes s T)) book
  begun {book} b s i = subst (λ w. Begins (but_last w) book) (sym (same_writes (history life s i))) (from (writes_in (life.each s i).0) refl)
    where
      from : (w : List Claim) → writes_in (life.each s i).0 ≡ w → Begins (but_last w) book
      from [] e = begins_nil book
      from (c ∷ w) e = run_begins life w b (older_count life (shape (history life s i)) (subst (Begins w) (sym e) (more whole)) (let p = ap length e in omega arith))

  -- A claim that stood in a site's writes, and lies within the target of its round, stands there still, and in the book.
  stays : {book : List Claim} {s : ℕ} {c : Claim} {older : List Claim} → Book pool T book → (i : Sound pool s) → Stood s T (life.each s i).0 c older →
      ((t : ℕ) → Closed T c.round t → c.place ≤ t) → Begins (c ∷ older) book
  stays {s = s} {c} {older} b i h k = ⊎_elim
      (λ n. run_begins life (c ∷ older) b (all_count life (shape (history life s i)) n k))
      (λ n. let l = k (length older) (s, n.struck_by.0, n.struck_by.1) in absurd (omega (arith, h.placed))) h.how

  -- A confirmed write stands in the book, with the answer due.
  stands : {book : List Claim} → Book pool T book → (c : Claim) (a : ℕ) → Confirmed pool T c a → Stands R first book c a
  stands b c a q = let h = shared life.few q q in let i = h.1 in
      let k = answers (history life h.0 i) (h.2 i.is_sound) in
      record { older = k.older; there = stays b i k.stood (λ t e. below_answer life e q); at_place = omega (arith, k.stood.placed); is_due = k.is_due }

  -- A confirmed reading is of the book.
  looked : {book : List Claim} → Book pool T book → (q : Question) (r p a : ℕ) → ConfirmedReading pool T q r p a → Looked R first book q r p a
  looked {book} b q r p a k = let h = shared life.few k k in let i = h.1 in from h.0 i (readings (history life h.0 i) (h.2 i.is_sound))
    where
      from : (s : ℕ) (i : Sound pool s) → Read s R first T (life.each s i).0 q r p a → Looked R first book q r p a
      from s i (at_first e f z) = record { older = []; there = begins_nil book; at_place = sym f; of_round = sym e; is_look = z }
      from s i (after {c = c} {older = older} n e f z) = record {
        older = c ∷ older;
        there = stays b i n (λ t m. rw (← f) (below_reading life (subst (λ x. Closed T x t) (sym e) m) k));
        at_place = omega (arith, n.placed);
        of_round = sym e;
        is_look = z;
      }

  -- A confirmed reading is not older than a write that was confirmed before the question was first answered.
  in_order : (q : Question) (r p a : ℕ) → ConfirmedReading pool T q r p a → (past : Transcript) → Begins past T → Unanswered past q → (c : Claim) (b : ℕ) → Confirmed pool past c b → c.place ≤ p
  in_order q r p a k past l n c b w = let h = shared life.few k w in let i = h.1 in
      ⊎_elim (λ j. j) (λ j. let m = below_answer life (h.0, j.1, j.3) (reworded (λ s x y. wrote-since l (x y)) w) in absurd (omega arith))
      (ordered (history life h.0 i) l (h.3 i.is_sound) (n h.0) (h.2 i.is_sound))

  pub keeps_one_book : OneBook pool R first T
  keeps_one_book = let b = there_is_a_book life in
      record {
        one_claim = one_claim life;
        not_too_far = not_too_far life;
        book = b.0;
        is_book = b.1;
        only_book = λ o k. one_book life b.1 k;
        runs = λ w. run_begins life w b.1;
        begun = begun b.1;
        stands = stands b.1;
        looked = looked b.1;
        in_order = in_order;
      }
