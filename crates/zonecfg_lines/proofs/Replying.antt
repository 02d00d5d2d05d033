-- The reply to a line, by its run.
use Rattle.std.proofs.Common.{◌≡◌, ℕ, List, [], Result, Ok, Err, subst}
use Rattle.std.specs.Prelude.{IfOk, IsTrue}
use Rattle.std.specs.declared.alloc.AllocError.{AllocError}
use Rattle.zonecfg_scopes.specs.Edited.{Edited}
use Rattle.zonecfg_lines.specs.declared.refusal.Halt.{Halt}
use Rattle.zonecfg_lines.specs.declared.reply.Ending.{Ending}
use Rattle.zonecfg_lines.specs.declared.reply.LineReply.{LineReply}
use Rattle.zonecfg_lines.specs.Halts.{Makes, has_cause}
use Rattle.zonecfg_lines.specs.Replies.{Replies}
use Rattle.zonecfg_lines.specs.Runs.{Run, run}

module _ (r : Run) (new : Edited) (before told : List (List ℕ)) (end : Result Ending Halt) (result : Result LineReply AllocError) where
  replies : ((s : Run) (e : Edited) → Makes s [] e told end → Replies s e result) → before ≡ [] → Makes r before new told end → Replies r new result
  replies by_run none made = let P : List (List ℕ) → Type 0 = λ xs. Makes r xs new told end in by_run r new (subst P none made)

replied_run : (r : Run) (new : Edited) (result : Result LineReply AllocError) → Replies r new result → IfOk result (λ reply. r ≡ run new reply.told reply.end)
replied_run r new (Ok reply) h = h.0
replied_run r new (Err e) h = tt

replied_cause : (r : Run) (new : Edited) (result : Result LineReply AllocError) → Replies r new result → IfOk result (λ reply. IsTrue (has_cause reply.end))
replied_cause r new (Ok reply) h = h.1
replied_cause r new (Err e) h = tt

module _ (r : Run) (new : Edited) (before told : List (List ℕ)) (end : Result Ending Halt) (result : Result LineReply AllocError) where
  pub reply_run : ((s : Run) (e : Edited) → Makes s [] e told end → Replies s e result) → before ≡ [] → Makes r before new told end → IfOk result (λ reply. r ≡ run new reply.told reply.end)
  reply_run by_run none made = replied_run r new result (replies r new before told end result by_run none made)

  pub reply_cause : ((s : Run) (e : Edited) → Makes s [] e told end → Replies s e result) → before ≡ [] → Makes r before new told end → IfOk result (λ reply. IsTrue (has_cause reply.end))
  reply_cause by_run none made = replied_cause r new result (replies r new before told end result by_run none made)
