use Rattle.std.proofs.Common.{◌≡◌, ◌*◌, ◌++◌, ℕ, List, length, take, sym, ap, ◌∙◌, append_assoc, rules}
use Rattle.std.proofs.Output.{has_written_append}
use Rattle.std.proofs.lemmas.Str.{IsUtf8-from_ascii}
use Rattle.std.proofs.lemmas.Str.Ascii.{IsAscii-from_all}
use Rattle.std.specs.Fmt.{HasWritten}
use Rattle.std.specs.Slice.Iter.{chunks_rest}
use Rattle.std.specs.Str.{IsUtf8}
use Rattle.text.specs.Hex.{hex_text}
use Rattle.text.proofs.HexText.{text_append}
use Rattle.text.proofs.hex.HexDisplay.fmt.Goals as goal

pub unwrap-requires : goal.unwrap-requires
unwrap-requires g c =
    let utf8 : IsUtf8 (take (2 * length c.in-Some.run'.now) c.digits_of-digits.result) = IsUtf8-from_ascii _ (IsAscii-from_all _ c.digits_of-digits.ensures.ascii) in
    search (rules, utf8)

pub loop-run-preserved : goal.loop-run-preserved
loop-run-preserved g c = (
  search rules,
  tt,
  search rules,
  λ plain.
      let run = c.in-Some.run'.now in
      let rest = chunks_rest c.next.new.self in
      let so_far = c.loop-run.invariant.3 plain in
      let said : c.unwrap.result.now ≡ hex_text run = search (rules, c.digits_of-digits.ensures.written) in
      let parts : chunks_rest c.loop-run.run-iterator ≡ run ++ rest = c.in-Some.ensures.steps.1.0 in
      let left : hex_text (chunks_rest c.loop-run.run-iterator) ≡ hex_text run ++ hex_text rest = ap hex_text parts ∙ text_append run rest in
      let now : HasWritten g.W.Write.write_str_gives c.args.f.now (so_far.0 ++ c.unwrap.result.now) c.write_str.new.self
      = has_written_append _ _ _ _ c.unwrap.result.now c.write_str.new.self so_far.1 (search rules) in
      let written : HasWritten g.W.Write.write_str_gives c.args.f.now (so_far.0 ++ hex_text run) c.write_str.new.self = rw (sym said) now in (
        so_far.0 ++ hex_text run,
        written,
        append_assoc so_far.0 (hex_text run) (hex_text rest) ∙ ap (λ (t : List ℕ). so_far.0 ++ t) (sym left) ∙ so_far.2,
      ),
)
