-- A reply where nothing goes as the last.
use Rattle.std.proofs.Common.{◌≡◌, refl}
use Rattle.zone_cases.specs.Code.Replies.{reply_with}
use Rattle.zoneadmd_steps.specs.declared.requests.Gone.TheVariants.{Nothing as Nothing_gone}
use Rattle.zone_cases.specs.declared.replies.Head.{Head}
use Rattle.zone_cases.specs.declared.replies.Head.TheVariants.{Turned as Told}
use Rattle.zone_cases.specs.declared.replies.Reply.{Reply}

-- where nothing goes as the last, a reply is as it is
pub nothing_told : (r : Reply) → reply_with Nothing_gone r ≡ r
nothing_told r = at_head r.head
  where
    at_head : (h : Head) → reply_with Nothing_gone (record r { head = h }) ≡ record r { head = h }
    at_head (Told t) = refl
    at_head h = refl
