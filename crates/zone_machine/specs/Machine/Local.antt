-- Turns of a zone's daemon that touch nothing which other zones may ask, and which zones have work for theirs.
use Rattle.std.specs.Prelude.{Bool, false, is_some, not, ◌&&◌, ◌||◌, bytes_eq, Option, Some, None}
use Rattle.zn_base.specs.Names.{Name}
use Rattle.zone_pools.specs.Firsts.{is_nil}
use Rattle.zone_pools.specs.Same.{same_grant}
use Rattle.zone_pools.specs.declared.grant.Grant.TheVariants.{Nothing}
use Rattle.zone_cases.specs.State.Decisions.{says}
use Rattle.zone_machine.specs.Machine.Same.{same_reply, same_subject}
use Rattle.zoneadmd_steps.specs.Turns as turns
use Rattle.zoneadmd_steps.specs.Turns.{local_turn}
use Rattle.zone_cases.specs.State.Worlds.{World, objects_of}
use Rattle.zone_cases.specs.declared.events.Entry.{Entry}
use Rattle.zone_cases.specs.declared.events.Event.{Event}
use Rattle.zone_cases.specs.declared.events.Event.TheVariants.{Process as Call_of, Restart, Session, System, Turn}
use Rattle.zone_cases.specs.declared.events.Subject.TheVariants.{Zone}
use Rattle.zone_cases.specs.declared.replies.Head.TheVariants.{Turned}
use Rattle.zone_cases.specs.declared.replies.Reply.{Reply}

-- the zone is stored, and a request waits or is under way
abbrev pub is_busy : World → Bool
is_busy w = is_some w.stored && (is_some w.desk.job || not (is_nil w.desk.waiting))

-- a request under way is of a stored zone; it is so in every state that a history reaches
abbrev pub job_has_record : World → Bool
job_has_record w = not (is_some w.desk.job) || is_some w.stored

-- the turn is local and has this reply
abbrev pub tells_local : Option turns.Turned → Reply → Bool
tells_local None reply = false
tells_local (Some t) reply = same_reply reply (says (Turned t.reply))

abbrev pub is_turn_of : Name → Event → Bool
is_turn_of z (Session n text) = false
is_turn_of z (Turn y) = bytes_eq z y
is_turn_of z (Call_of y pid c) = false
is_turn_of z (System what) = false
is_turn_of z Restart = false

-- the entry of such a turn of z
abbrev pub is_local : Name → World → Entry → Bool
is_local z w e = is_turn_of z e.event && same_subject e.subject (Zone z) && same_grant e.grant Nothing && tells_local (local_turn w.brands (objects_of w) w.desk) e.reply
