use Rattle.std.proofs.Common.{◌≡◌, ◌++◌, drop, false}
use Rattle.index_file.proofs.Escapes.{unescaped}
use Rattle.index_file.proofs.reading.unescaped.Given as goal

abbrev pub invariant-loop-byte : goal.invariant-loop-byte
invariant-loop-byte l = l.path.items ++ unescaped l.is_held (drop l.byte-index l.bytes) ≡ unescaped false l.bytes
