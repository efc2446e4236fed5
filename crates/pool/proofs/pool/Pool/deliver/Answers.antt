use Rattle.std.proofs.Common.{◌≡◌, ◌<◌, ◌≤◌, List, [], ◌∷◌, ◌++◌, map, length, sym, refl, ap, ◌∙◌, arith}
use Rattle.std.proofs.lemmas.List.{length-map}
use Rattle.std.proofs.lemmas.Option.{slice_get_past}
use Rattle.site.specs.Life.{put}
use Rattle.pool.specs.Views.{heard, view}
use Rattle.pool.specs.declared.entry.Entry.{Entry}
use Rattle.pool.proofs.Handing.{called_there, same_heard}
use Rattle.pool.proofs.Standing.{in_lives}
use Rattle.pool.proofs.pool.Pool.deliver.Goals as goal

pub returns-then-at-len : goal.returns-then-at-len
returns-then-at-len g c =
    let all = c.args.self.now.sites.items in
    let f = view g.O.Object.rules g.N.Notary.means g.O.Object.holds in
    let long : length all ≤ c.args.site = omega (arith, c.args.self.now.sites.ok.0, c.len.ensures, c.if-at-len.true, c.from-at.ensures) in
    let past : length (map f all) ≤ c.args.site = omega (arith, length-map all f) in
    record { delivers = (slice_get_past (map f all) c.args.site past, refl); lives = tt }

pub returns : goal.returns
returns g c =
    let R = g.O.Object.rules in
    let i = c.from-at.result in
    let new : Entry = c.of.result in
    let s = c.from-at.ensures in
    let told : heard new ≡ record { site = i; message = c.args.message.now; result = c.call-result.result; written = put c.call-result.result c.call-result.new.output } =
    c.of.ensures ∙ same_heard _ _ _ _ _ _ c.call-result.result (sym s) c.in_ok-message_kept.ensures.items c.fill.ensures in
    let below : i < length c.args.self.now.sites.items = omega (arith, c.args.self.now.sites.ok.0, c.len.ensures, c.if-at-len.false) in
    let more : c.push_reserved.new.self.items ≡ c.args.self.now.transcript.items ++ new ∷ [] =
    c.push_reserved.ensures.items ∙ ap (λ (l : List Entry). l ++ new ∷ []) c.in_ok-reserve.ensures.items in
    let done = called_there R g.N.Notary.means g.O.Object.holds c.index_mut.result.now c.call-result.new.self
    c.args.self.now.sites.items c.args.self.now.transcript.items c.push_reserved.new.self.items new i c.args.site c.args.message.now c.args.output.now c.args.board.now
    c.call-result.new.output c.call-result.new.board c.call-result.result
    s below c.index_mut.ensures.value c.call-result.ensures.leaves c.call-result.ensures.same.0 c.call-result.ensures.same.1 more told in
    record { delivers = done; lives = in_lives _ _ _ _ _ done }
