-- What a turn tells that touches nothing which other zones may ask.
use Rattle.std.specs.Prelude.{Bool, true, false}
use Rattle.zoneadmd_steps.specs.Objects.{Devices_are, Ids_change, Object_edit, Of_mounts}
use Rattle.zoneadmd_steps.specs.declared.requests.Outcome.{Outcome}
use Rattle.zoneadmd_steps.specs.declared.requests.Outcome.TheVariants.{HookRefused}
use Rattle.zoneadmd_steps.specs.declared.requests.Step.{Step}
use Rattle.zoneadmd_steps.specs.declared.requests.Step.TheVariants.{Hook, Copy, Erase, Limits, Devices, Root, Mounted, Unmount}
use Rattle.zoneadmd_steps.specs.declared.requests.TurnReply.{TurnReply}
use Rattle.zoneadmd_steps.specs.declared.requests.TurnReply.TheVariants.{Failed, Idle, Stepped, Stuck, Undone}

abbrev pub is_idle : TurnReply → Bool
is_idle Idle = true
is_idle _ = false

-- an edit of the zone's mounts and devices, or of its id but for the number
abbrev pub is_of_own : Object_edit → Bool
is_of_own (Of_mounts e) = true
is_of_own (Devices_are ds) = true
is_of_own (Ids_change f) = true
is_of_own _ = false

-- a step of a hook, of the zone's files and limits, and of what is mounted in it
abbrev pub is_local_step : Step → Bool
is_local_step (Hook change) = true
is_local_step (Copy part) = true
is_local_step (Erase part) = true
is_local_step Limits = true
is_local_step Root = true
is_local_step (Mounted dir) = true
is_local_step (Unmount dir) = true
is_local_step _ = false

-- a step that only the zone's own mounts, devices and limits are needed to undo
abbrev pub is_local_undo : Step → Bool
is_local_undo Limits = true
is_local_undo (Devices count) = true
is_local_undo Root = true
is_local_undo (Mounted dir) = true
is_local_undo _ = false

abbrev pub is_refused : Outcome → Bool
is_refused (HookRefused code) = true
is_refused _ = false

abbrev pub is_local_reply : TurnReply → Bool
is_local_reply (Stepped s) = is_local_step s
is_local_reply (Failed place outcome) = is_refused outcome
is_local_reply (Undone s) = is_local_undo s
is_local_reply Stuck = true
is_local_reply _ = false
