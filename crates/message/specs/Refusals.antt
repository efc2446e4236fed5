-- The number, index and layer of each refusal.
use Rattle.std.specs.Prelude.{ℕ, cond, List, codes, ◌==◌}
use Rattle.message.specs.declared.faults.CertificateFault.{CertificateFault}
use Rattle.message.specs.declared.faults.CertificateFault.TheVariants as certificate
use Rattle.message.specs.declared.faults.MessageFault.{MessageFault}
use Rattle.message.specs.declared.faults.MessageFault.TheVariants as message
use Rattle.message.specs.declared.faults.SiteFault.{SiteFault}
use Rattle.message.specs.declared.faults.SiteFault.TheVariants as site
use Rattle.message.specs.declared.refusal.Refusal.{Refusal}

abbrev pub refusal_at : ℕ → ℕ → ℕ → Refusal
refusal_at number index layer = record { number = number; index = index; layer = layer }

-- Layer 1: the message.
abbrev pub refusal_of_message : MessageFault → Refusal
refusal_of_message message.Short = refusal_at 1 0 1
refusal_of_message message.Length = refusal_at 2 0 1
refusal_of_message message.Kind = refusal_at 3 0 1
refusal_of_message (message.Field i) = refusal_at 4 i 1

-- Layer 2: its certificates.
abbrev pub refusal_of_certificate : CertificateFault → Refusal
refusal_of_certificate (certificate.Message fault) = refusal_of_message fault
refusal_of_certificate (certificate.Mixed i) = refusal_at 5 i 2
refusal_of_certificate certificate.Same = refusal_at 6 0 2
refusal_of_certificate (certificate.Twice i) = refusal_at 7 i 2
refusal_of_certificate (certificate.Unvouched i) = refusal_at 8 i 2
refusal_of_certificate (certificate.Low i) = refusal_at 9 i 2
refusal_of_certificate (certificate.Order i) = refusal_at 10 i 2

-- Layer 3: the site or office. This one definition has every refusal's number, index and layer.
abbrev pub refusal_of : SiteFault → Refusal
refusal_of (site.Certificate fault) = refusal_of_certificate fault
refusal_of site.Wait = refusal_at 11 0 3
refusal_of (site.Old r) = refusal_at 12 r 3
refusal_of (site.Spent r) = refusal_at 13 r 3
refusal_of (site.Busy r) = refusal_at 14 r 3
refusal_of site.Ahead = refusal_at 15 0 3
refusal_of site.Stale = refusal_at 16 0 3
refusal_of site.Taken = refusal_at 17 0 3
refusal_of site.Gap = refusal_at 18 0 3
refusal_of (site.UsedUp r) = refusal_at 19 r 3
refusal_of site.TooFar = refusal_at 20 0 3
refusal_of site.Nothing = refusal_at 21 0 3

-- The name of each refusal, by its number.
abbrev pub name_of : ℕ → List ℕ
name_of n =
    cond (n == 1) (codes "SHORT")
    (cond (n == 2) (codes "LENGTH")
    (cond (n == 3) (codes "KIND")
    (cond (n == 4) (codes "FIELD")
    (cond (n == 5) (codes "MIXED")
    (cond (n == 6) (codes "SAME")
    (cond (n == 7) (codes "TWICE")
    (cond (n == 8) (codes "UNVOUCHED")
    (cond (n == 9) (codes "LOW")
    (cond (n == 10) (codes "ORDER")
    (cond (n == 11) (codes "WAIT")
    (cond (n == 12) (codes "OLD")
    (cond (n == 13) (codes "SPENT")
    (cond (n == 14) (codes "BUSY")
    (cond (n == 15) (codes "AHEAD")
    (cond (n == 16) (codes "STALE")
    (cond (n == 17) (codes "TAKEN")
    (cond (n == 18) (codes "GAP")
    (cond (n == 19) (codes "USED-UP")
    (cond (n == 20) (codes "TOO-FAR")
    (cond (n == 21) (codes "NONE") (codes "")))))))))))))))))))))
