-- What a match on the stage and the message tells.
use Rattle.std.proofs.Common.{◌≡◌, ℕ, eqb, ◌⊎◌, List, Option, Result, sym, ap, ◌∙◌, subst, inl, inr}
use Rattle.std.proofs.lemmas.Bool.{cond-true, eq-eqb}
use Rattle.object.specs.Rules.{Rules}
use Rattle.message.specs.Records.{stated}
use Rattle.message.specs.Said.{Said, round}
use Rattle.message.specs.Saying.{sent}
use Rattle.message.specs.declared.faults.SiteFault.{SiteFault}
use Rattle.message.specs.declared.part.Part.{Part}
use Rattle.message.specs.declared.request.Request.{Request}
use Rattle.message.specs.declared.said.Message.{Message}
use Rattle.message.specs.declared.said.Message.TheVariants.{Write2}
use Rattle.site.specs.Answers.{taken}
use Rattle.site.specs.Ledgers.{Kept}
use Rattle.site.specs.Rules.{Does, then_in, if_taken, round_in, step}
use Rattle.site.specs.declared.reply.Reply.{Reply}
use Rattle.site.specs.declared.reply.Then.TheVariants.{Stay, Settle, Opens}
use Rattle.site.specs.declared.state.Stage.{Stage}
use Rattle.site.specs.declared.state.Stage.TheVariants.{Open, Frozen, Pulling, Settling}
use Rattle.site.specs.declared.state.State.{State}

-- PULLING at its target settles.
pub settles : (stage : Stage) (m : Message) (left target : ℕ) (requests : List (Option Request)) (certificate : Part) →
    stage ≡ Pulling left target requests → m ≡ Write2 certificate → (stated certificate.bytes.now 0).place ≡ target → Settle ≡ then_in stage (sent m)
settles stage m left target requests certificate is-stage is-message reached =
    sym (cond-true (eqb (stated certificate.bytes.now 0).place target) Settle Stay (eq-eqb _ _ reached))
    ∙ ap (λ (y : Stage). then_in y (sent (Write2 certificate))) (sym is-stage)
    ∙ ap (λ (x : Message). then_in stage (sent x)) (sym is-message)

-- SETTLING at its last place opens.
pub opens : (stage : Stage) (m : Message) (last : ℕ) (certificate : Part) →
    stage ≡ Settling last → m ≡ Write2 certificate → (stated certificate.bytes.now 0).place ≡ last → Opens ≡ then_in stage (sent m)
opens stage m last certificate is-stage is-message reached =
    sym (cond-true (eqb (stated certificate.bytes.now 0).place last) Opens Stay (eq-eqb _ _ reached))
    ∙ ap (λ (y : Stage). then_in y (sent (Write2 certificate))) (sym is-stage)
    ∙ ap (λ (x : Message). then_in stage (sent x)) (sym is-message)

-- A ROUND at an OPEN or FROZEN site.
module _ (R : Rules) (site index : ℕ) (st : State) (kept : Kept R) (m : Message) (named target : ℕ) (requests : List Request)
    (after : State) (object : Kept R) (replied : Result Reply SiteFault) where
  pub in_round : sent m ≡ round named target requests → (st.stage ≡ Open) ⊎ (st.stage ≡ Frozen) →
      Does R (if_taken R st kept target requests (taken st.round st.ledger.place named target)) after object replied →
      Does R (step R site index st kept (sent m)) after object replied
  in_round is-message (inl open-stage) does =
      subst (λ (x : Said). Does R (step R site index st kept x) after object replied) (sym is-message)
      (subst (λ (y : Stage). Does R (round_in R st kept named target requests y) after object replied) (sym open-stage) does)
  in_round is-message (inr frozen-stage) does =
      subst (λ (x : Said). Does R (step R site index st kept x) after object replied) (sym is-message)
      (subst (λ (y : Stage). Does R (round_in R st kept named target requests y) after object replied) (sym frozen-stage) does)
