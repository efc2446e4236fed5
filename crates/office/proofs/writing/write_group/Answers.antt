use Rattle.std.proofs.Common.{◌≡◌, ℕ, ◌+◌, ◌*◌, ◌<◌, List, ◌++◌, length, get_or, take, drop, sym, ap, ◌∙◌, arith, length-append, rules}
use Rattle.finder.specs.Members.{members}
use Rattle.office.proofs.Records.{records-none, records-more, one_more}
use Rattle.office.specs.Judging.{bytes_in, records_of}
use Rattle.office.specs.Slots.{slot_at}
use Rattle.office.proofs.writing.write_group.Goals as goal

pub loop-k-init : goal.loop-k-init
loop-k-init c = (ap length (records-none c.args.slots.now), simp (records-none c.args.slots.now))

pub loop-k-preserved : goal.loop-k-preserved
loop-k-preserved c =
    let slots = c.args.slots.now in
    let sites = members c.args.group.now in
    let n = 80 * c.loop-k.k in
    let same : c.members-sites.result.now ≡ sites = c.members-sites.ensures in
    let front = records_of slots (take c.loop-k.k sites) in
    let bytes = c.bytes_in.result in
    let size : length bytes ≡ 80 = search rules in
    let less : c.loop-k.k < length sites = omega (arith, ap length same) in
    let here : bytes ≡ bytes_in (slot_at slots (get_or sites c.loop-k.k 0)).filed = c.bytes_in.ensures ∙ ap (λ (l : List ℕ). bytes_in (slot_at slots (get_or l c.loop-k.k 0)).filed) same in
    let more : records_of slots (take (c.loop-k.k + 1) sites) ≡ front ++ bytes = records-more slots sites c.loop-k.k less ∙ ap (λ (b : List ℕ). front ++ b) (sym here) in
    let long : n + 80 ≡ 80 * (c.loop-k.k + 1) = omega arith in (
      ap length more ∙ length-append front bytes ∙ omega (arith, c.loop-k.invariant.0),
      one_more front bytes c.loop-k.output c.args.output.now c.put.new.output n c.loop-k.invariant.0 c.loop-k.invariant.1 c.put.ensures
          ∙ ap (λ (w : List ℕ). w ++ drop (n + 80) c.args.output.now) (sym more)
          ∙ ap (λ (k : ℕ). records_of slots (take (c.loop-k.k + 1) sites) ++ drop k c.args.output.now) long,
    )
