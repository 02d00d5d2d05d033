use Rattle.std.proofs.Common.{◌≡◌, ◌++◌, take}
use Rattle.index_file.specs.Index.{escaped}
use Rattle.index_file.proofs.printing.push_escaped.Given as goal

abbrev pub invariant-loop-byte : goal.invariant-loop-byte
invariant-loop-byte l = l.out.items ≡ l.fn.out.items ++ escaped (take l.byte-index l.path)
