use Rattle.std.proofs.Common.{◌≡◌, ◌++◌, take}
use Rattle.std.specs.List.{flat_map}
use Rattle.trace_text.specs.Replies.{body_line, mount_text}
use Rattle.trace_text.proofs.replies.push_mounts.Given as goal

abbrev pub invariant-loop-mount : goal.invariant-loop-mount
invariant-loop-mount l = l.out.items ≡ l.fn.out.items ++ flat_map (λ mount. body_line (mount_text mount)) (take l.mount-index l.mounts)
