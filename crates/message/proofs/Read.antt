-- What checks 2 to 4 leave known.
use Rattle.std.proofs.Common.{◌≡◌, ℕ, ◌<◌, true, not, List, Some, None, arith}
use Rattle.std.proofs.lemmas.Bool.{and_parts, leb-true, not-false}
use Rattle.record.specs.Ranges.{in_range}
use Rattle.message.proofs.FormsTold.{told}
use Rattle.message.proofs.Found.{none_never}
use Rattle.message.proofs.Signers.{small_in_pool, small_request, small_question, small_show_grant, small_show_cert}
use Rattle.message.specs.Checks.{whole, first_outside}
use Rattle.message.specs.Forms.{form_of}
use Rattle.message.specs.Laws.{HasForm}
use Rattle.message.specs.Records.{records, statement_at}
use Rattle.message.specs.Sizes.{SmallSigners, size, Readable}
use Rattle.message.specs.declared.form.Form.{Form}
use Rattle.message.specs.declared.form.Form.TheVariants.{Write1, Read, Write2, Resolve, Round, ShowGrant, ShowCert}

-- each record is in range
pub ranges : (f : ℕ) (m : List ℕ) → first_outside f m ≡ None → (i : ℕ) → i < records m → in_range f (statement_at m i) ≡ true
ranges f m e i less = not-false _ (none_never (λ i. not (in_range f (statement_at m i))) 0 (records m) e i (omega arith) (omega arith))

long : (f : ℕ) (m : List ℕ) (form : Form) → HasForm f m form → records m ≡ size f form
long f m Write1 h = h.0
long f m Read h = h.0
long f m Write2 h = h.1
long f m Resolve h = h.1
long f m (Round grants requests) h = h.3
long f m ShowGrant h = h.0
long f m ShowCert h = h.0

module _ (f : ℕ) (m : List ℕ) (ok : (i : ℕ) → i < records m → in_range f (statement_at m i) ≡ true) where
  signers : (form : Form) → HasForm f m form → SmallSigners m
  signers Write1 h k less = small_request f (statement_at m k) (ok k less) (h.1 k (omega arith) (omega (arith, h.0)))
  signers Read h k less = small_question f (statement_at m k) (ok k less) (h.1 k (omega arith) (omega (arith, h.0)))
  signers Write2 h k less = small_in_pool f (statement_at m k) h.0 (ok k less)
  signers Resolve h k less = small_in_pool f (statement_at m k) h.0 (ok k less)
  signers (Round grants requests) h k less = small_in_pool f (statement_at m k) h.0 (ok k less)
  signers ShowGrant h k less = small_show_grant f (statement_at m k) (ok k less) (h.1 k (omega arith) (omega (arith, h.0)))
  signers ShowCert h k less = small_show_cert f (statement_at m k) (ok k less) (h.1 k (omega arith) (omega (arith, h.0)))

pub readable : (f : ℕ) (m : List ℕ) (form : Form) → whole m ≡ true → form_of f m ≡ Some form → first_outside f m ≡ None → Readable f m form
readable f m form w e ok =
    let h = told f m form e in
    record { few = leb-true _ _ (and_parts _ _ w).1; long = long f m form h; signers = signers f m (ranges f m ok) form h }
