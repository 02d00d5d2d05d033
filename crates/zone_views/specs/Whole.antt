-- The entries of the whole system.
use Rattle.std.specs.Prelude.{List, map, filter, Bool, true, false}
use Rattle.zone_cases.specs.declared.events.Entry.{Entry}
use Rattle.zone_cases.specs.declared.events.Subject.{Subject}
use Rattle.zone_cases.specs.declared.events.Subject.TheVariants.{Zone, Global, Whole}
use Rattle.zone_cases.specs.declared.replies.Reply.{Reply}

abbrev pub is_whole : Subject → Bool
is_whole (Zone z) = false
is_whole Global = false
is_whole Whole = true

-- the replies to events of the whole system
abbrev pub whole_replies : List Entry → List Reply
whole_replies h = map (λ e. e.reply) (filter (λ e. is_whole e.subject) h)
