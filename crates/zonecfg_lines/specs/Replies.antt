-- The reply that a run gives.
use Rattle.std.specs.Prelude.{◌≡◌, IsTrue, Result, Ok, Err}
use Rattle.std.specs.declared.alloc.AllocError.{AllocError}
use Rattle.zonecfg_scopes.specs.Edited.{Edited}
use Rattle.zonecfg_lines.specs.declared.reply.LineReply.{LineReply}
use Rattle.zonecfg_lines.specs.Halts.{has_cause}
use Rattle.zonecfg_lines.specs.Runs.{Run, run}

-- a run leaves something edited, and its lines and its end are replied, or memory ran out
abbrev pub Replies : Run → Edited → Result LineReply AllocError → Type 0
Replies r new (Ok reply) = (r ≡ run new reply.told reply.end) × IsTrue (has_cause reply.end)
Replies r new (Err _) = Unit {0}
