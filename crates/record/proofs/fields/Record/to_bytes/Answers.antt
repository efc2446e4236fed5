use Rattle.std.proofs.Common.{◌≡◌, length, rules}
use Rattle.record.proofs.Digits.{written_4, written_8}
use Rattle.record.proofs.Chain.{fills, part_ends}
use Rattle.record.proofs.fields.Record.to_bytes.Goals as goal

pub returns : goal.returns
returns c =
    let n : length c.to_be_bytes.result ≡ 4 = search rules in
    let r : length c.to_be_bytes-2.result ≡ 4 = search rules in
    let p : length c.to_be_bytes-3.result ≡ 4 = search rules in
    let o : length c.args.self.now.statement.operation ≡ 16 = search rules in
    let a : length c.to_be_bytes-4.result ≡ 8 = search rules in
    let m : length c.to_be_bytes-5.result ≡ 8 = search rules in
    let s : length c.args.self.now.seal ≡ 32 = search rules in
    let long : length c.put-8.new.out ≡ 80 = search rules in
    let wn = written_4 c.args.self.now.statement.number in
    let wr = written_4 c.args.self.now.statement.round in
    let wp = written_4 c.args.self.now.statement.place in
    let wa = written_8 c.args.self.now.statement.answer in
    let wm = written_8 c.args.self.now.statement.nonce in
    let whole = fills c.put.new.out c.put-2.new.out c.put-3.new.out c.put-4.new.out c.put-5.new.out c.put-6.new.out c.put-7.new.out c.put-8.new.out
    _ _ _ _ _ _ _ _
    c.put.ensures (part_ends 4 4 _ _ _ n c.put-2.ensures) (part_ends 8 4 _ _ _ r c.put-3.ensures) (part_ends 12 4 _ _ _ p c.put-4.ensures)
    (part_ends 16 16 _ _ _ o c.put-5.ensures) (part_ends 32 8 _ _ _ a c.put-6.ensures) (part_ends 40 8 _ _ _ m c.put-7.ensures) (part_ends 48 32 _ _ _ s c.put-8.ensures) long in
    cc
