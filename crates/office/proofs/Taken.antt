-- A reply that is taken, or refused.
use Rattle.std.proofs.Common.{◌≡◌, ℕ, Bool, true, false, cond, List, Ok, Err, Result, sym, refl, ap, ◌∙◌, arith}
use Rattle.message.specs.Checks.{after}
use Rattle.message.specs.Refusals.{refusal_of}
use Rattle.message.specs.declared.faults.CertificateFault.{CertificateFault}
use Rattle.message.specs.declared.faults.MessageFault.TheVariants.{Short}
use Rattle.message.specs.declared.faults.CertificateFault.TheVariants.{Message}
use Rattle.message.specs.declared.faults.SiteFault.{SiteFault}
use Rattle.message.specs.declared.faults.SiteFault.TheVariants.{Certificate}
use Rattle.message.specs.declared.refusal.Refusal.{Refusal}
use Rattle.record.specs.Layout.{record_of}
use Rattle.office.specs.Calls.{Leaves, finished, silently}
use Rattle.office.specs.Taking.{in_certificate, took, filing, desk_or, done_or}
use Rattle.office.specs.declared.desk.Desk.{Desk}

abbrev short : SiteFault
short = Certificate (Message Short)

-- A reply that has passed is filed, or there is nothing that it could reply to.
pub passed
    : (fits : Bool) (found : Result (List ℕ) CertificateFault) (client : ℕ) (desk : Desk) (bytes : List ℕ)
    → Ok bytes ≡ after (in_certificate (cond fits (Ok tt) (Err Short))) found
    → cond fits (took client desk found) (Err short) ≡ filing client desk (record_of bytes)
passed true found client desk bytes e = ap (took client desk) (sym e)
passed false found client desk bytes e = let z : ◌≡◌ {A = ℕ} 0 1 = cc in absurd (omega arith)

-- What TAKE leaves where it refuses.
pub refused
    : (fits : Bool) (step : Result Desk SiteFault) (desk now : Desk) (output board : List ℕ) (cleared : List ℕ) (fault : SiteFault) (returned : Result ℕ Refusal)
    → now ≡ desk_or desk (cond fits step (Err short))
    → Err fault ≡ done_or (cond fits step (Err short))
    → cleared ≡ board
    → returned ≡ Err (refusal_of fault)
    → Leaves (finished desk output board (cond fits (silently step) (Err short))) now output cleared returned
refused true (Ok after) desk now output board cleared fault returned ed ef eb er = let z : ◌≡◌ {A = ℕ} 0 1 = cc in absurd (omega arith)
refused true (Err why) desk now output board cleared fault returned ed ef eb er =
    let same : fault ≡ why = cc in record { desk = ed; output = refl; board = eb; result = er ∙ ap (λ (x : SiteFault). Err (refusal_of x)) same }
refused false step desk now output board cleared fault returned ed ef eb er =
    let same : fault ≡ short = cc in record { desk = ed; output = refl; board = eb; result = er ∙ ap (λ (x : SiteFault). Err (refusal_of x)) same }

-- What it leaves where it does not.
pub taken_in
    : (fits : Bool) (step : Result Desk SiteFault) (desk now : Desk) (output board : List ℕ) (cleared : List ℕ)
    → now ≡ desk_or desk (cond fits step (Err short))
    → Ok tt ≡ done_or (cond fits step (Err short))
    → cleared ≡ board
    → Leaves (finished desk output board (cond fits (silently step) (Err short))) now output cleared (Ok 0)
taken_in true (Ok after) desk now output board cleared ed ef eb = record { desk = ed; output = refl; board = eb; result = refl }
taken_in true (Err why) desk now output board cleared ed ef eb = let z : ◌≡◌ {A = ℕ} 0 1 = cc in absurd (omega arith)
taken_in false step desk now output board cleared ed ef eb = let z : ◌≡◌ {A = ℕ} 0 1 = cc in absurd (omega arith)
