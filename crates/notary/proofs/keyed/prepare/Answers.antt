use Rattle.std.proofs.Common.{◌≡◌, ℕ, ◌<◌, [], get_or, map, rules, sym, ◌∙◌, arith}
use Rattle.std.proofs.lemmas.List.{ext_get_or, get_or-map, length-map}
use Rattle.sha256.specs.Sealing.{prepared}
use Rattle.sha256.specs.declared.mac.Sealer.{Sealer}
use Rattle.notary.proofs.keyed.prepare.Goals as goal

pub returns : goal.returns
returns c =
    let blank : Sealer = record { inner = []; outer = [] } in
    let keys = c.args.keys.now in
    let m = c.map.ensures.items in
    let each : (k : ℕ) → k < 16 → get_or c.map.result k blank ≡ prepared (get_or keys k [])
    = λ k h. let call = m.at k [] blank h in search rules
    in
    ext_get_or blank c.map.result (map prepared keys) (m.long ∙ sym (length-map keys prepared ∙ c.told-keys))
    (λ k h. each k (omega arith) ∙ sym (get_or-map prepared keys k [] blank (omega (arith, c.told-keys))))
