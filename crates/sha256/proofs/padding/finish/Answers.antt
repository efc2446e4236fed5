use Rattle.std.proofs.Common.{length, sym, ap, ◌∙◌}
use Rattle.std.proofs.lemmas.Bool.{ltb-true, ltb-false}
use Rattle.sha256.specs.Compression.{compressed}
use Rattle.sha256.specs.Digest.{digest}
use Rattle.sha256.proofs.Ending.{ended_short, ended_long, length-behind}
use Rattle.sha256.proofs.padding.finish.Goals as goal
use Rattle.sha256.proofs.padding.finish.Goals.{then-not-has_room, else-not-has_room}

pub returns : goal.returns
returns c =
    let block = c.put_length.new.block in
    let tail = c.args.tail.now in
    c.to_bytes.ensures
    ∙ ap
    digest
    (c.compress-2.ensures
    ∙ elim c.if-not-has_room.branch [
      | then-not-has_room w ↦
          ap (λ ws. compressed ws block) (w.words-is ∙ w.compress.ensures)
          ∙ ended_long
          c.args.words.now
          tail
          c.marked-block.result
          block
          c.args.total
          c.requires
          (ltb-false (length tail) 56 (sym w.if-not-has_room.ensures))
          c.marked-block.ensures
          (c.put_length.ensures ∙ length-behind c.args.total w.block-is)
          c.put_length.array_long
      | else-not-has_room w ↦
          ap (λ ws. compressed ws block) w.words-is
          ∙ ended_short
          c.args.words.now
          tail
          c.marked-block.result
          block
          c.args.total
          c.requires
          (ltb-true (length tail) 56 (sym w.if-not-has_room.ensures))
          c.marked-block.ensures
          (c.put_length.ensures ∙ length-behind c.args.total w.block-is)
          c.put_length.array_long
    ])
