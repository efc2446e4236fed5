-- A call of real bytes is a move of the protocol, or no move at all.
use Rattle.std.proofs.Common.{◌≡◌, ℕ, List, [], Ok, Err, Result, refl, subst, arith}
use Rattle.object.specs.Rules.{Rules}
use Rattle.message.specs.Forms.{quorum}
use Rattle.message.specs.Records.{records}
use Rattle.message.specs.Said.{Said, write_1, read, write_2, resolve, round, show_grant, show_cert}
use Rattle.message.specs.declared.faults.CertificateFault.{CertificateFault}
use Rattle.message.specs.declared.faults.SiteFault.{SiteFault}
use Rattle.message.specs.declared.request.Request.{Request}
use Rattle.protocol.specs.Moves.{Site}
use Rattle.protocol.specs.Quorum.{Pool}
use Rattle.protocol.specs.Words as words
use Rattle.protocol.specs.Words.{Word, Deed, Transcript}
use Rattle.site.specs.Call.{finished, stepped, accepted}
use Rattle.site.specs.Ledgers.{Kept}
use Rattle.site.specs.Life.{own_words, as_answered, deeds_by, deeds}
use Rattle.site.specs.Rules.{Outcome, step, write_1_in, resolve_in}
use Rattle.site.specs.declared.reply.Reply.{Reply}
use Rattle.site.specs.declared.reply.Reply.TheVariants.{Silent, Says, Shows}
use Rattle.site.specs.declared.state.State.{State}
use Rattle.site.proofs.Asking.{requested_fine, resolve_fine}
use Rattle.site.proofs.Doing.{write_2_fine}
use Rattle.site.proofs.Going.{bytes_put, Goes, Fine}
use Rattle.site.proofs.Likeness.{Telling, Like, like_open, like_frozen, like_pulling, like_settling}
use Rattle.site.proofs.Rounding.{RoundFine, round_fine}
use Rattle.site.proofs.Showing.{show_grant_fine, read_fine, frozen_fine, show_cert_fine}

module _ (pool : Pool) (R : Rules) (first : R.Value) (s : ℕ) (T : Transcript) (output : List ℕ) where
  -- A reply to a message goes as its bytes say.
  abbrev Replied : Said → Site → State → Kept R → Result Reply SiteFault → Type 0
  Replied x a st k (Err fault) = Unit {0}
  Replied x a st k (Ok reply) = Goes pool R first s T a (deeds_by x s (bytes_put pool.f st reply output)) st k

  by_words : (x : Said) (deed : Word → Deed) → ((b : List ℕ) → own_words deed s b (records b) ≡ deeds_by x s b) → (a : Site) (st : State) (k : Kept R) (r : Result Reply SiteFault) →
      Fine pool R first s deed T a output st k r → Replied x a st k r
  by_words x deed same a st k (Err fault) h = tt
  by_words x deed same a st k (Ok reply) h = subst (λ ds. Goes pool R first s T a ds st k) (same (bytes_put pool.f st reply output)) h

  by_round : (named t : ℕ) (rs : List Request) (a : Site) (st : State) (k : Kept R) (r : Result Reply SiteFault) → RoundFine pool R first s T a named t st k r → Replied (round named t rs) a st k r
  by_round named t rs a st k (Err fault) h = tt
  by_round named t rs a st k (Ok Silent) h = h
  by_round named t rs a st k (Ok (Says x)) h = absurd h
  by_round named t rs a st k (Ok Shows) h = absurd h

  write_1_fine : {st : State} {k : Kept R} {a : Site} (r : Request) → Like pool R first s T st k a → Telling pool s T (write_1 r) →
      Fine pool R first s words.said T a output (write_1_in s st r st.stage).state k (write_1_in s st r st.stage).reply
  write_1_fine r (like_open {v = v} {b = b} {cs = cs} {out = out} {o = o} {S = S} {g = g} {ws = ws} {l = l} {k = k} h back x y small) z =
      requested_fine pool R first s T output v b cs out o S g ws l k h back x y small r 0 z
  write_1_fine r (like_frozen h back x y small) z = tt
  write_1_fine r (like_pulling h e q small) z = tt
  write_1_fine r (like_settling h e q small) z = tt

  resolved_fine : {st : State} {k : Kept R} {a : Site} (index named place : ℕ) (r : Request) → Like pool R first s T st k a → Telling pool s T (resolve named place r) →
      Fine pool R first s words.said T a output (resolve_in s index st named place r st.stage).state k (resolve_in s index st named place r st.stage).reply
  resolved_fine index named place r (like_open {v = v} {b = b} {cs = cs} {out = out} {o = o} {S = S} {g = g} {ws = ws} {l = l} {k = k} h back x y small) z =
      resolve_fine pool R first s T output v b cs out o S g ws l k h back x y small r index named place z
  resolved_fine index named place r (like_frozen {cs = cs} {l = l} h back x y small) z =
      frozen_fine pool R first s T output cs (like_frozen h back x y small) (omega arith) h.short l.place h.place
  resolved_fine index named place r (like_pulling h e q small) z = tt
  resolved_fine index named place r (like_settling h e q small) z = tt

  step_fine : {st : State} {k : Kept R} {a : Site} (index : ℕ) (x : Said) → Like pool R first s T st k a → Telling pool s T x →
      Replied x a (step R s index st k x).state (step R s index st k x).kept (step R s index st k x).reply
  step_fine {st} {k} {a} index (write_1 r) like z = let o = step R s index st k (write_1 r) in
      by_words (write_1 r) words.said (λ b. refl) a o.state o.kept o.reply (write_1_fine r like z)
  step_fine {st} {k} {a} index (read q) like z = let o = step R s index st k (read q) in
      by_words (read q) words.said (λ b. refl) a o.state o.kept o.reply (read_fine pool R first s T output q z.0 z.1 like)
  step_fine {st} {k} {a} index (write_2 c bytes) like z = let o = step R s index st k (write_2 c bytes) in
      by_words (write_2 c bytes) as_answered (λ b. refl) a o.state o.kept o.reply (write_2_fine pool R first s T output c bytes like z.0 z.1 z.2)
  step_fine {st} {k} {a} index (resolve named place r) like z = let o = step R s index st k (resolve named place r) in
      by_words (resolve named place r) words.said (λ b. refl) a o.state o.kept o.reply (resolved_fine index named place r like z)
  step_fine {st} {k} {a} index (round named t rs) like z = let o = step R s index st k (round named t rs) in
      by_round named t rs a o.state o.kept o.reply (round_fine pool R first s T named t rs like z.0 z.1)
  step_fine {st} {k} {a} index (show_grant place) like z = let o = step R s index st k (show_grant place) in
      by_words (show_grant place) words.said (λ b. refl) a o.state o.kept o.reply (show_grant_fine pool R first s T output place z like)
  step_fine {st} {k} {a} index show_cert like z = let o = step R s index st k show_cert in
      by_words show_cert words.said (λ b. refl) a o.state o.kept o.reply (show_cert_fine pool R first s T output like)

  -- A call that is refused leaves all as it is.
  refused_goes : {st : State} {k : Kept R} {a : Site} → Like pool R first s T st k a → Goes pool R first s T a [] st k
  refused_goes {a = a} like = record { new = a; history = λ h. h; like = like }

  finished_goes : {st : State} {k : Kept R} {a : Site} (board : List ℕ) (x : Said) (o : Outcome R) (r : Result Reply SiteFault) → Like pool R first s T st k a → Replied x a o.state o.kept r →
      Goes pool R first s T a (deeds (Ok x) s (finished R pool.f st k output board o r).result (finished R pool.f st k output board o r).output)
      (finished R pool.f st k output board o r).state (finished R pool.f st k output board o r).kept
  finished_goes board x o (Err fault) like h = refused_goes like
  finished_goes board x o (Ok reply) like h = h

  -- The call itself.
  pub call_goes : {st : State} {k : Kept R} {a : Site} (board : List ℕ) (c : Result Said CertificateFault) → Like pool R first s T st k a → ((x : Said) → c ≡ Ok x → Telling pool s T x) →
      Goes pool R first s T a (deeds c s (stepped R pool.f st k output board (accepted R pool.f s st k c)).result (stepped R pool.f st k output board (accepted R pool.f s st k c)).output)
      (stepped R pool.f st k output board (accepted R pool.f s st k c)).state (stepped R pool.f st k output board (accepted R pool.f s st k c)).kept
  call_goes board (Err fault) like z = refused_goes like
  call_goes {st} {k} board (Ok x) like z =
      finished_goes board x (step R s (quorum pool.f) st k x) (step R s (quorum pool.f) st k x).reply like (step_fine (quorum pool.f) x like (z x refl))
