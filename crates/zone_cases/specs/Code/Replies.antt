-- A reply, once what went as the last is known.
use Rattle.zoneadmd_steps.specs.Code.Works.{with_gone}
use Rattle.zoneadmd_steps.specs.declared.requests.Gone.{Gone}
use Rattle.zone_cases.specs.declared.replies.Head.{Head}
use Rattle.zone_cases.specs.declared.replies.Head.TheVariants.{Turned as Told}
use Rattle.zone_cases.specs.declared.replies.Reply.{Reply}

-- a reply, once the last mount or the latest claim went
abbrev pub head_with : Gone → Head → Head
head_with gone (Told t) = Told (with_gone gone t)
head_with gone h = h

abbrev pub reply_with : Gone → Reply → Reply
reply_with gone r = record r { head = head_with gone r.head }
