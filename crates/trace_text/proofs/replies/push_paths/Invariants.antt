use Rattle.std.proofs.Common.{◌≡◌, ◌++◌, take}
use Rattle.std.specs.List.{flat_map}
use Rattle.trace_text.specs.Replies.{body_line}
use Rattle.trace_text.proofs.replies.push_paths.Given as goal

abbrev pub invariant-loop-path : goal.invariant-loop-path
invariant-loop-path l = l.out.items ≡ l.fn.out.items ++ flat_map body_line (take l.path-index l.paths)
