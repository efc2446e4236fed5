-- Statements and records with equal fields are equal.
use Rattle.std.proofs.Common.{◌≡◌, ℕ, List}
use Rattle.record.specs.declared.fields.Record.{Record}
use Rattle.record.specs.declared.fields.Statement.{Statement}

pub same_statements : {k k' s s' c c' z z' n n' r r' p p' a a' m m' : ℕ} {o o' : List ℕ} →
    k ≡ k' → s ≡ s' → c ≡ c' → z ≡ z' → n ≡ n' → r ≡ r' → p ≡ p' → o ≡ o' → a ≡ a' → m ≡ m' →
    ◌≡◌ {A = Statement}
    record { kind = k; signer = s; client = c; spare = z; number = n; round = r; place = p; operation = o; answer = a; nonce = m }
    record { kind = k'; signer = s'; client = c'; spare = z'; number = n'; round = r'; place = p'; operation = o'; answer = a'; nonce = m' }
same_statements ek es ec ez en er ep eo ea em = cc

pub same_records : {s s' : Statement} {e e' : List ℕ} → s ≡ s' → e ≡ e' → ◌≡◌ {A = Record} record { statement = s; seal = e } record { statement = s'; seal = e' }
same_records es ee = cc
