-- A life of real calls is a life of the protocol: each sound site has a history, and ROUNDs agree.
use Rattle.std.proofs.Common.{◌≡◌, ℕ, zero, suc, ◌+◌, Bool, eqb, ◌⊎◌, List, [], ◌∷◌, length, take, Ok, Err, Result, sym, refl, ap, ◌∙◌, subst, inl, inr, ⊎_elim, arith}
use mathlib.Core.Option.{Option as Maybe, none, some}
use Rattle.std.proofs.lemmas.Bool.{cond_both, cond-true, cond-false, eq-eqb, ne_eqb, cases_eq}
use Rattle.object.specs.Rules.{Rules}
use Rattle.record.specs.declared.fields.Statement.{Statement}
use Rattle.message.specs.Checks.{checks}
use Rattle.message.specs.Forms.{quorum}
use Rattle.message.specs.Laws.{place_at, Passed}
use Rattle.message.specs.Records.{records, statement_at}
use Rattle.message.specs.Said.{Said, write_1, read, write_2, resolve, round, show_grant, show_cert}
use Rattle.message.specs.Saying.{said_of, target}
use Rattle.message.specs.declared.faults.CertificateFault.{CertificateFault}
use Rattle.message.specs.declared.form.Form.{Form}
use Rattle.message.specs.declared.form.Form.TheVariants.{Write1, Read, Write2, Resolve, Round, ShowGrant, ShowCert}
use Rattle.message.specs.declared.refusal.Refusal.{Refusal}
use Rattle.message.specs.declared.request.Request.{Request}
use Rattle.message.proofs.Outcome.{accepted_when_passed}
use Rattle.protocol.specs.Book.{Happened, happened_now, happened_before, Begins, whole, more}
use Rattle.protocol.specs.Moves.{Site, standing, opened, History, begins, others}
use Rattle.protocol.specs.Promise.{Agreed, Life}
use Rattle.protocol.specs.Quorum.{Pool, Sound}
use Rattle.protocol.specs.Words.{Word, grant, answer, start, reading, Deed, took, said, did, Transcript}
use Rattle.site.specs.Call.{board_after}
use Rattle.site.specs.Life.{Event, own_words, one_more, word_of, as_answered, deeds_by, deeds, then_did, Setting, Copy, left, copy_after, called, checked, transcript}
use Rattle.site.specs.OneBook.{in_records, EqualButSeals, Happens, RoundsAgree, Premises}
use Rattle.site.proofs.Calling.{call_goes}
use Rattle.site.proofs.Going.{still_like}
use Rattle.site.proofs.Hearing.{tells}
use Rattle.site.proofs.Likeness.{Telling, Like, like_open, no_out, unsettled, no_write}
use Rattle.site.proofs.Telling.{wrote_word}

-- What others did is no part of a site's history.
others_did : {pool : Pool} {R : Rules} {first : R.Value} {s x : ℕ} {T : Transcript} {a : Site} (ds : List Deed) → (x ≡ s → ⊥) → History pool R first s T a → History pool R first s (then_did x ds T) a
others_did [] n h = h
others_did (d ∷ ds) n h = others n (others_did ds n h)

-- Whose deeds are in a transcript -------------------------------------------------------------------------------

newest_or : {s x : ℕ} {d b : Deed} {T : Transcript} → Happened s d (did x b ∷ T) → ((x ≡ s) × (b ≡ d)) ⊎ Happened s d T
newest_or happened_now = inl (refl, refl)
newest_or (happened_before h) = inr h

by_whom : {s x : ℕ} {d : Deed} {T : Transcript} (ds : List Deed) → Happened s d (then_did x ds T) → (x ≡ s) ⊎ Happened s d T
by_whom [] h = inr h
by_whom (b ∷ ds) h = ⊎_elim (λ e. inl e.0) (λ k. by_whom ds k) (newest_or h)

-- Words are no ROUNDs.
module _ (deed : Word → Deed) (x r t n : ℕ) (not_round : (w : Word) → deed w ≡ took r t n → ⊥) where
  one_less : (s : ℕ) (T : Transcript) (o : Maybe Word) (ds : List Deed) → Happened s (took r t n) (then_did x (one_more deed o ds) T) → Happened s (took r t n) (then_did x ds T)
  one_less s T none ds h = h
  one_less s T (some w) ds h = ⊎_elim (λ e. absurd (not_round w e.1)) (λ k. k) (newest_or h)

  no_round : {s : ℕ} {T : Transcript} (bytes : List ℕ) (m : ℕ) → Happened s (took r t n) (then_did x (own_words deed x bytes m) T) → Happened s (took r t n) T
  no_round bytes zero = λ h. h
  no_round {s} {T} bytes (suc m) =
      cond_both (eqb (statement_at bytes m).signer x) (one_more deed (word_of (statement_at bytes m)) (own_words deed x bytes m)) (own_words deed x bytes m)
      (λ ds. Happened s (took r t n) (then_did x ds T) → Happened s (took r t n) T)
      (λ b h. no_round bytes m (one_less s T (word_of (statement_at bytes m)) (own_words deed x bytes m) h)) (λ b h. no_round bytes m h)

saying_no_round : {r t n : ℕ} (w : Word) → said w ≡ took r t n → ⊥
saying_no_round w e = grind arith

answering_no_round : {r t n : ℕ} (w : Word) → as_answered w ≡ took r t n → ⊥
answering_no_round (grant c) e = grind arith
answering_no_round (answer c a) e = grind arith
answering_no_round (start r p) e = grind arith
answering_no_round (reading q r p a) e = grind arith

-- A ROUND among the deeds of a call is what its message says.
abbrev Taken : Result Said CertificateFault → ℕ → ℕ → ℕ → Type 0
Taken c r t n = ((rs : List Request) × (c ≡ Ok (round r t rs))) × (n ≡ r + 1)

module _ (s x r t n : ℕ) (T : Transcript) where
  took_by : (m : Said) (bytes : List ℕ) → Happened s (took r t n) (then_did x (deeds_by m x bytes) T) → Taken (Ok m) r t n ⊎ Happened s (took r t n) T
  took_by (write_1 q) bytes h = inr (no_round said x r t n saying_no_round bytes (records bytes) h)
  took_by (read q) bytes h = inr (no_round said x r t n saying_no_round bytes (records bytes) h)
  took_by (write_2 c b) bytes h = inr (no_round as_answered x r t n answering_no_round bytes (records bytes) h)
  took_by (resolve a b q) bytes h = inr (no_round said x r t n saying_no_round bytes (records bytes) h)
  took_by (round a b rs) bytes h = ⊎_elim (λ e. inl (now e.1)) (λ k. inr (no_round said x r t n saying_no_round bytes (records bytes) k)) (newest_or h)
    where
      now : took a b (a + 1) ≡ took r t n → Taken (Ok (round a b rs)) r t n
      now e =
          let er : a ≡ r = cc in
          let et : b ≡ t = cc in
          let en : a + 1 ≡ n = cc in
          ((rs, cc), omega arith)
  took_by (show_grant p) bytes h = inr (no_round said x r t n saying_no_round bytes (records bytes) h)
  took_by show_cert bytes h = inr (no_round said x r t n saying_no_round bytes (records bytes) h)

  took_in : (c : Result Said CertificateFault) (res : Result ℕ Refusal) (out : List ℕ) → Happened s (took r t n) (then_did x (deeds c x res out) T) → Taken c r t n ⊎ Happened s (took r t n) T
  took_in (Err fault) res out h = inr h
  took_in (Ok m) (Err refusal) out h = inr h
  took_in (Ok m) (Ok k) out h = took_by m (take k out) h

-- ROUNDs that are equal but for seals have one target -----------------------------------------------------------

record RoundOf (f : ℕ) (accepts : List ℕ → Bool) (m : List ℕ) (t : ℕ) : Type 0 where
  grants : ℕ
  requests : ℕ
  passed : Passed f accepts m (Round grants requests)
  is : t ≡ target m (quorum f) grants

module _ (f : ℕ) (accepts : List ℕ → Bool) where
  of_form : (m : List ℕ) (r t : ℕ) (rs : List Request) (form : Form) → Passed f accepts m form → round r t rs ≡ said_of f m form → RoundOf f accepts m t
  of_form m r t rs Write1 p e = grind arith
  of_form m r t rs Read p e = grind arith
  of_form m r t rs Write2 p e = grind arith
  of_form m r t rs Resolve p e = grind arith
  of_form m r t rs (Round g n) p e = record { grants = g; requests = n; passed = p; is = cc }
  of_form m r t rs ShowGrant p e = grind arith
  of_form m r t rs ShowCert p e = grind arith

  round_of_message : (m : List ℕ) (room board r t : ℕ) (rs : List Request) → checks f accepts m room board ≡ Ok (round r t rs) → RoundOf f accepts m t
  round_of_message m room board r t rs e = let p = (accepted_when_passed f accepts m room board (round r t rs)).0 e in of_form m r t rs p.2.0 p.2.1 p.2.2

  -- One ROUND has GRANTs, and the other has REQUESTs in their place.
  mixed : (m n : List ℕ) (a b : ℕ) → Passed f accepts m (Round 0 a) → Passed f accepts n (Round (quorum f) b) → EqualButSeals m n → ⊥
  mixed m n a b p q same =
      let x = p.kinds.3 in
      let y = q.kinds.3 in
      let z = same.as_long in
      let request = p.kinds.6 (quorum f) (omega arith) (omega arith) in
      let grant = q.kinds.5 (quorum f) (omega arith) (omega arith) in
      let both = ap (λ (w : Statement). w.kind) (same.alike (quorum f) (omega arith)) in
      absurd (omega arith)

  flip : {m n : List ℕ} → EqualButSeals m n → EqualButSeals n m
  flip same = record { as_long = sym same.as_long; alike = λ i l. sym (same.alike i (let z = same.as_long in omega arith)) }

  same_target : (m n : List ℕ) (t u : ℕ) → RoundOf f accepts m t → RoundOf f accepts n u → EqualButSeals m n → t ≡ u
  same_target m n t u p q same = ⊎_elim
      (λ a. ⊎_elim (λ b. nothing a b) (λ b. absurd (mixed m n p.requests q.requests (subst (λ g. Passed f accepts m (Round g p.requests)) a p.passed) (subst (λ g. Passed f accepts n (Round g q.requests)) b q.passed) same)) q.passed.kinds.1)
      (λ a. ⊎_elim (λ b. absurd (mixed n m q.requests p.requests (subst (λ g. Passed f accepts n (Round g q.requests)) b q.passed) (subst (λ g. Passed f accepts m (Round g p.requests)) a p.passed) (flip same))) (λ b. both a b) q.passed.kinds.1)
      p.passed.kinds.1
    where
      nothing : p.grants ≡ 0 → q.grants ≡ 0 → t ≡ u
      nothing a b =
          let x : target m (quorum f) p.grants ≡ 0 = cond-true (eqb p.grants 0) 0 (place_at m (quorum f)) (eq-eqb _ _ a) in
          let y : target n (quorum f) q.grants ≡ 0 = cond-true (eqb q.grants 0) 0 (place_at n (quorum f)) (eq-eqb _ _ b) in
          p.is ∙ x ∙ sym y ∙ sym q.is

      both : p.grants ≡ quorum f → q.grants ≡ quorum f → t ≡ u
      both a b =
          let l = p.passed.kinds.3 in
          let x : target m (quorum f) p.grants ≡ place_at m (quorum f) = cond-false (eqb p.grants 0) 0 (place_at m (quorum f)) (ne_eqb _ _ (λ z. omega arith)) in
          let y : target n (quorum f) q.grants ≡ place_at n (quorum f) = cond-false (eqb q.grants 0) 0 (place_at n (quorum f)) (ne_eqb _ _ (λ z. omega arith)) in
          let z : place_at m (quorum f) ≡ place_at n (quorum f) = ap (λ (w : Statement). w.place) (same.alike (quorum f) (omega arith)) in
          p.is ∙ x ∙ z ∙ sym y ∙ sym q.is

-- Each sound site of a life has a history, and a copy like its state -----------------------------------------------

module _ {R : Rules} (in_a : Setting R) where
  pub record Alive (life : List Event) (s : ℕ) : Type 0 where
    pub site : Site
    pub history : History in_a.pool (in_records R) in_a.first s (transcript in_a life) site
    pub like : Like in_a.pool R in_a.first s (transcript in_a life) (copy_after in_a life s).state (copy_after in_a life s).kept site

  -- What the message of an event tells, after the events before it.
  pub told_by : (life : List Event) (e : Event) → Happens in_a (e ∷ life) → (x : Said) → checked in_a e ≡ Ok x → Telling in_a.pool e.site (transcript in_a life) x
  told_by life e h x c = tells in_a.pool in_a.accepts e.site (transcript in_a life) e.message (length e.output) (length e.board) x h.0 h.1
      (λ i w l a o k. wrote_word in_a (statement_at e.message i).signer (statement_at e.message i) w life o (h.2 i w l a o k)) c

  pub alive : (life : List Event) → Happens in_a life → (s : ℕ) → Sound in_a.pool s → Alive life s
  alive [] h s i = record {
    site = standing opened 0 0 [] none [];
    history = begins;
    like = like_open {b = 0} {cs = []} (record { place = refl; short = omega arith; current = no_write; done = refl; value = refl; sized = tt }) tt no_out unsettled (omega arith);
  }
  alive (e ∷ life) h s i = ⊎_elim (λ m. own m (alive life h.3 s i)) (λ m. other m (alive life h.3 s i)) (cases_eq s e.site)
    where
      own : s ≡ e.site → Alive life s → Alive (e ∷ life) s
      own m k =
          let at : Alive life e.site = subst (Alive life) m k in
          let g = call_goes in_a.pool R in_a.first e.site (transcript in_a life) e.output (board_after (length e.output) e.board) (checked in_a e) at.like (told_by life e h) in
          let is : copy_after in_a (e ∷ life) e.site ≡ left in_a (called in_a life e) = cond-true (eqb e.site e.site) (left in_a (called in_a life e)) (copy_after in_a life e.site) (eq-eqb e.site e.site refl) in
          subst (Alive (e ∷ life)) (sym m) (record {
            site = g.new;
            history = g.history at.history;
            like = subst (λ (c : Copy in_a). Like in_a.pool R in_a.first e.site (transcript in_a (e ∷ life)) c.state c.kept g.new) (sym is) g.like;
          })

      other : (s ≡ e.site → ⊥) → Alive life s → Alive (e ∷ life) s
      other m k =
          let done = deeds (checked in_a e) e.site (called in_a life e).result (called in_a life e).output in
          let is : copy_after in_a (e ∷ life) s ≡ copy_after in_a life s = cond-false (eqb s e.site) (left in_a (called in_a life e)) (copy_after in_a life s) (ne_eqb s e.site m) in
          record {
            site = k.site;
            history = others_did done (λ n. m (sym n)) k.history;
            like = subst (λ (c : Copy in_a). Like in_a.pool R in_a.first s (transcript in_a (e ∷ life)) c.state c.kept k.site) (sym is) (still_like in_a.pool R in_a.first s e.site done k.like);
          }

  -- Deeds are of sound sites.
  ours : (life : List Event) → Happens in_a life → (s : ℕ) (d : Deed) → Happened s d (transcript in_a life) → Sound in_a.pool s
  ours [] h s d k = elim k [ ]
  ours (e ∷ life) h s d k =
      ⊎_elim (λ m. subst (Sound in_a.pool) m h.0) (λ m. ours life h.3 s d m) (by_whom (deeds (checked in_a e) e.site (called in_a life e).result (called in_a life e).output) k)

  -- A ROUND that a site took is the message of an event.
  record RoundEvent (life : List Event) (r t n : ℕ) : Type 0 where
    event : Event
    before : List Event
    there : Begins (event ∷ before) life
    requests : List Request
    says : checked in_a event ≡ Ok (round r t requests)
    next : n ≡ r + 1

  round_event : (life : List Event) (s r t n : ℕ) → Happened s (took r t n) (transcript in_a life) → RoundEvent life r t n
  round_event [] s r t n k = elim k [ ]
  round_event (e ∷ life) s r t n k = ⊎_elim
      (λ m. record { event = e; before = life; there = whole; requests = m.0.0; says = m.0.1; next = m.1 })
      (λ m. later (round_event life s r t n m))
      (took_in s e.site r t n (transcript in_a life) (checked in_a e) (called in_a life e).result (called in_a life e).output k)
    where
      later : RoundEvent life r t n → RoundEvent (e ∷ life) r t n
      later q = record { event = q.event; before = q.before; there = more q.there; requests = q.requests; says = q.says; next = q.next }

  agreed : (life : List Event) → RoundsAgree in_a life → Agreed (transcript in_a life)
  agreed life agree x y r t u n o g h =
      let a = round_event life x r t n g in
      let b = round_event life y r u o h in
      let f = in_a.pool.f in
      let same = agree a.event b.event a.before b.before r t u a.requests b.requests a.there b.there a.says b.says in (
        same_target f in_a.accepts a.event.message b.event.message t u
            (round_of_message f in_a.accepts a.event.message (length a.event.output) (length a.event.board) r t a.requests a.says)
            (round_of_message f in_a.accepts b.event.message (length b.event.output) (length b.event.board) r u b.requests b.says) same,
        a.next ∙ sym b.next,
      )

  pub lives : (life : List Event) → Premises in_a life → Life in_a.pool (in_records R) in_a.first (transcript in_a life)
  lives life p = record {
    few = p.few;
    agreed = agreed life p.agree;
    ours = ours life p.happens;
    each = λ s i. let k = alive life p.happens s i in (k.site, k.history);
  }

  -- The moments of a life are lives.
  pub moment : {past life : List Event} → Begins past life → Premises in_a life → Premises in_a past
  moment whole p = p
  moment (more b) p = moment b (record {
    few = p.few;
    happens = p.happens.3;
    agree = λ x y here there named t u rs ss i j. p.agree x y here there named t u rs ss (more i) (more j);
  })
