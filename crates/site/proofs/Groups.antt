-- A group of records with different signers is a quorum.
use Rattle.std.proofs.Common.{◌≡◌, ℕ, zero, suc, ◌+◌, ◌<◌, ◌≤◌, List, [], ◌∷◌, length, sym, refl, ap, subst, arith}
use Rattle.message.specs.Forms.{quorum}
use Rattle.message.specs.Laws.{signer_at}
use Rattle.protocol.specs.Quorum.{Pool, sites, Quorum, In, here, there, Different, different_none, different_more}
use Rattle.protocol.proofs.Signers.{quorum_signers}

-- The signers of n records from an index on.
signers_from : List ℕ → ℕ → ℕ → List ℕ
signers_from m first zero = []
signers_from m first (suc n) = signer_at m (first + n) ∷ signers_from m first n

signers_long : (m : List ℕ) (first n : ℕ) → length (signers_from m first n) ≡ n
unfolding signers_from
signers_long m first zero = refl
signers_long m first (suc n) = ap suc (signers_long m first n)

-- A signer of one of the records.
record Signed (m : List ℕ) (first n s : ℕ) : Type 0 where
  index : ℕ
  from : first ≤ index
  below : index < first + n
  is : s ≡ signer_at m index

signed : (m : List ℕ) (first n s : ℕ) → In s (signers_from m first n) → Signed m first n s
unfolding signers_from
signed m first zero s h = elim h [ ]
signed m first (suc n) s here = record { index = first + n; from = omega arith; below = omega arith; is = refl }
signed m first (suc n) s (there h) = let k = signed m first n s h in record { index = k.index; from = k.from; below = omega (arith, k.below); is = k.is }

-- Records of one group have different signers.
abbrev pub Apart : List ℕ → ℕ → ℕ → Type 0
Apart m first n = (i j : ℕ) → first ≤ i → i < first + n → first ≤ j → j < first + n → signer_at m i ≡ signer_at m j → i ≡ j

all_different : (m : List ℕ) (first n : ℕ) → Apart m first n → Different (signers_from m first n)
unfolding signers_from
all_different m first zero apart = different_none
all_different m first (suc n) apart = different_more
    (λ h. let k = signed m first n (signer_at m (first + n)) h in
    let e = apart (first + n) k.index (omega arith) (omega arith) k.from (omega (arith, k.below)) k.is in
    omega (arith, e, k.below))
    (all_different m first n (λ i j a b c d. apart i j a (omega arith) c (omega arith)))

pub group_quorum : (pool : Pool) (m : List ℕ) (first : ℕ) (P : ℕ → Type 0) → Apart m first (quorum pool.f) →
    ((i : ℕ) → first ≤ i → i < first + quorum pool.f → (signer_at m i < sites pool) × P (signer_at m i)) → Quorum pool P
group_quorum pool m first P apart each = quorum_signers.1 (record {
  signers = signers_from m first (quorum pool.f);
  different = all_different m first (quorum pool.f) apart;
  enough = omega (arith, signers_long m first (quorum pool.f));
  each = λ s h. let k = signed m first (quorum pool.f) s h in
      subst (λ x. (x < sites pool) × P x) (sym k.is) (each k.index k.from k.below);
})
