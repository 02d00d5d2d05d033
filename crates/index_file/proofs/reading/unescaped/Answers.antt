use Rattle.std.proofs.Common.{◌≡◌, [], drop, false, sym, ◌∙◌, ◌++◌}
use Rattle.std.proofs.lemmas.List.{append-nil, drop_all}
use Rattle.index_file.proofs.Escapes.{unescaped, unescaped-escaped}
use Rattle.index_file.proofs.reading.unescaped.Goals as goal

pub returns : goal.returns
returns c = λ path same.
    let past : drop c.loop-byte.byte-index c.args.bytes.now ≡ [] = drop_all c.loop-byte.byte-index c.args.bytes.now c.loop-byte-test.false in
    let whole : c.loop-byte.path.items ++ unescaped c.loop-byte.is_held (drop c.loop-byte.byte-index c.args.bytes.now) ≡ unescaped false c.args.bytes.now = c.loop-byte.invariant in
    sym (append-nil c.loop-byte.path.items) ∙ (rw past at whole) ∙ rw same (unescaped-escaped path)
