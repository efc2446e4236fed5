-- What was written to outputs stands in the transcript, and stays there.
use Rattle.std.proofs.Common.{◌≡◌, ℕ, zero, suc, ◌<◌, eqb, List, [], ◌∷◌, length, take, Ok, Err, Result, sym, refl, ap, ◌∙◌, subst, inl, inr, ⊎_elim, arith}
use mathlib.Core.Option.{Option, none, some}
use Rattle.std.proofs.lemmas.Bool.{cond_both, eqb-false, cases_eq}
use Rattle.object.specs.Rules.{Rules}
use Rattle.record.specs.declared.fields.Statement.{Statement}
use Rattle.message.specs.Records.{records, statement_at}
use Rattle.message.specs.Said.{Said, write_1, read, write_2, resolve, round, show_grant, show_cert}
use Rattle.message.specs.Refusals.{refusal_of}
use Rattle.message.specs.declared.faults.CertificateFault.{CertificateFault}
use Rattle.message.specs.declared.faults.SiteFault.TheVariants.{Certificate}
use Rattle.message.specs.declared.refusal.Refusal.{Refusal}
use Rattle.protocol.specs.Book.{Wrote, saying, answering, earlier}
use Rattle.protocol.specs.Words.{Word, grant, answer, start, reading, Deed, said, did, Transcript}
use Rattle.site.specs.Call.{board_after, accepted, stepped}
use Rattle.site.specs.Life.{Event, word_of, put, own_words, one_more, as_answered, deeds_by, deeds, then_did, Setting, copy_after, called, checked, transcript, WroteStatement}

-- What was written stays written.
pub still_wrote : {s : ℕ} {w : Word} {T : Transcript} (x : ℕ) (ds : List Deed) → Wrote s w T → Wrote s w (then_did x ds T)
still_wrote x [] h = h
still_wrote x (d ∷ ds) h = earlier (still_wrote x ds h)

-- A deed that writes its word.
abbrev pub Writes : (Word → Deed) → Type 0
Writes deed = (s : ℕ) (w : Word) (T : Transcript) → Wrote s w (did s (deed w) ∷ T)

pub saying_writes : Writes said
saying_writes s w T = saying

pub answering_writes : Writes as_answered
answering_writes s (grant c) T = saying
answering_writes s (answer c a) T = answering
answering_writes s (start r p) T = saying
answering_writes s (reading q r p a) T = saying

module _ (deed : Word → Deed) (writes : Writes deed) (s : ℕ) (w : Word) (T : Transcript) where
  newest : (o : Option Word) (ds : List Deed) → o ≡ some w → Wrote s w (then_did s (one_more deed o ds) T)
  newest none ds e = grind arith
  newest (some x) ds e = let same : x ≡ w = cc in subst (λ y. Wrote s w (did s (deed y) ∷ then_did s ds T)) (sym same) (writes s w (then_did s ds T))

  older : (o : Option Word) (ds : List Deed) → Wrote s w (then_did s ds T) → Wrote s w (then_did s (one_more deed o ds) T)
  older none ds h = h
  older (some x) ds h = earlier h

  pub wrote_own : (bytes : List ℕ) (n i : ℕ) → i < n → (statement_at bytes i).signer ≡ s → word_of (statement_at bytes i) ≡ some w → Wrote s w (then_did s (own_words deed s bytes n) T)
  wrote_own bytes zero i l e o = absurd (omega arith)
  wrote_own bytes (suc n) i l e o =
      cond_both (eqb (statement_at bytes n).signer s) (one_more deed (word_of (statement_at bytes n)) (own_words deed s bytes n)) (own_words deed s bytes n)
      (λ ds. Wrote s w (then_did s ds T))
      (λ b. ⊎_elim (λ same. newest (word_of (statement_at bytes n)) (own_words deed s bytes n) (ap (λ k. word_of (statement_at bytes k)) (sym same) ∙ o))
      (λ other. older (word_of (statement_at bytes n)) (own_words deed s bytes n) (wrote_own bytes n i (omega arith) e o)) (cases_eq i n))
      (λ b. ⊎_elim (λ same. absurd (eqb-false _ _ b (ap (λ k. (statement_at bytes k).signer) (sym same) ∙ e)))
      (λ other. wrote_own bytes n i (omega arith) e o) (cases_eq i n))

wrote_by : (m : Said) (s : ℕ) (w : Word) (T : Transcript) (bytes : List ℕ) (i : ℕ) → i < records bytes → (statement_at bytes i).signer ≡ s → word_of (statement_at bytes i) ≡ some w →
    Wrote s w (then_did s (deeds_by m s bytes) T)
wrote_by (write_1 r) s w T bytes i l e o = wrote_own said saying_writes s w T bytes (records bytes) i l e o
wrote_by (read q) s w T bytes i l e o = wrote_own said saying_writes s w T bytes (records bytes) i l e o
wrote_by (write_2 c m) s w T bytes i l e o = wrote_own as_answered answering_writes s w T bytes (records bytes) i l e o
wrote_by (resolve n p r) s w T bytes i l e o = wrote_own said saying_writes s w T bytes (records bytes) i l e o
wrote_by (round n t rs) s w T bytes i l e o = earlier (wrote_own said saying_writes s w T bytes (records bytes) i l e o)
wrote_by (show_grant p) s w T bytes i l e o = wrote_own said saying_writes s w T bytes (records bytes) i l e o
wrote_by show_cert s w T bytes i l e o = wrote_own said saying_writes s w T bytes (records bytes) i l e o

wrote_in : (c : Result Said CertificateFault) (r : Result ℕ Refusal) (out : List ℕ) (s : ℕ) (w : Word) (T : Transcript) (i : ℕ) →
    ((fault : CertificateFault) → c ≡ Err fault → r ≡ Err (refusal_of (Certificate fault))) →
    i < records (put r out) → (statement_at (put r out) i).signer ≡ s → word_of (statement_at (put r out) i) ≡ some w → Wrote s w (then_did s (deeds c s r out) T)
wrote_in (Err fault) r out s w T i h l e o = absurd (no_records (subst (λ x. i < records (put x out)) (h fault refl) l))
  where
    no_records : i < 0 → ⊥
    no_records l = omega arith
wrote_in (Ok m) (Err x) out s w T i h l e o = absurd (no_records l)
  where
    no_records : i < 0 → ⊥
    no_records l = omega arith
wrote_in (Ok m) (Ok n) out s w T i h l e o = wrote_by m s w T (take n out) i l e o

module _ {R : Rules} (in_a : Setting R) where
  unchecked : (life : List Event) (e : Event) (fault : CertificateFault) → checked in_a e ≡ Err fault → (called in_a life e).result ≡ Err (refusal_of (Certificate fault))
  unchecked life e fault h =
      ap (λ c. (stepped R in_a.pool.f (copy_after in_a life e.site).state (copy_after in_a life e.site).kept e.output (board_after (length e.output) e.board) (accepted R in_a.pool.f e.site (copy_after in_a life e.site).state (copy_after in_a life e.site).kept c)).result) h

  -- A statement that a site wrote is a word that it wrote.
  pub wrote_word : (s : ℕ) (statement : Statement) (w : Word) (life : List Event) → word_of statement ≡ some w → WroteStatement in_a s statement life → Wrote s w (transcript in_a life)
  wrote_word s statement w [] o h = absurd h
  wrote_word s statement w (e ∷ life) o (inl h) =
      subst (λ x. Wrote s w (then_did x (deeds (checked in_a e) x (called in_a life e).result (called in_a life e).output) (transcript in_a life))) (sym h.0)
      (wrote_in (checked in_a e) (called in_a life e).result (called in_a life e).output s w (transcript in_a life) h.2.0 (unchecked life e) h.2.1 (ap (λ (x : Statement). x.signer) h.2.2 ∙ h.1) (ap word_of h.2.2 ∙ o))
  wrote_word s statement w (e ∷ life) o (inr h) =
      still_wrote e.site (deeds (checked in_a e) e.site (called in_a life e).result (called in_a life e).output) (wrote_word s statement w life o h)
