-- Room on a desk that is taken before anything is changed.
use Rattle.std.specs.Prelude.{◌≡◌, ◌<◌, Bool, true, false, vec_capacity, vec_len, IfSome, IsOkAnd, Option, Result}
use Rattle.zoneadmd_steps.specs.declared.cases.JobCase.{JobCase}
use Rattle.zoneadmd_steps.specs.declared.cases.JobCase.TheVariants.{Pass, Ask}
use Rattle.zoneadmd_steps.specs.declared.cases.TurnCase.{TurnCase}
use Rattle.zoneadmd_steps.specs.declared.cases.TurnCase.TheVariants.{GoOn}
use Rattle.zoneadmd_steps.specs.declared.desks.Desk.{Desk}
use Rattle.zoneadmd_steps.specs.declared.desks.Job.{Job}
use Rattle.zoneadmd_steps.specs.declared.requests.Step.{Step}
use Rattle.zoneadmd_steps.specs.declared.requests.Step.TheVariants.{Zid, Limits, Devices, Root, Mounted, Claimed}

-- room for a step that a failure undoes
abbrev pub HasMadeRoom : Job → Type 0
HasMadeRoom j = vec_len j.made < vec_capacity j.made

-- whether a failure may undo a step
abbrev pub is_undone : Step → Bool
is_undone (Zid n) = true
is_undone Limits = true
is_undone (Devices n) = true
is_undone Root = true
is_undone (Mounted dir) = true
is_undone (Claimed claim) = true
is_undone _ = false

abbrev pub HasRoomToKeep : Job → Step → Type 0
HasRoomToKeep j s = is_undone s ≡ true → HasMadeRoom j

-- whether a case takes room on a desk
abbrev pub takes_room : JobCase → Bool
takes_room (Pass p) = is_undone p.shown
takes_room (Ask c next) = true
takes_room _ = false

abbrev pub turn_takes_room : TurnCase → Bool
turn_takes_room (GoOn c) = takes_room c
turn_takes_room _ = false

-- a case was decided without memory, and takes no room
abbrev pub IsFree : {A E : Type 0} → (A → Bool) → Result A E → Type 0
IsFree takes r = IsOkAnd r (λ c. takes c ≡ false)

abbrev pub IsSomeFree : {A E : Type 0} → (A → Bool) → Result (Option A) E → Type 0
IsSomeFree takes r = IsOkAnd r (λ o. IfSome o (λ c. takes c ≡ false))

abbrev pub HasJobRoom : Job → JobCase → Type 0
HasJobRoom j (Pass p) = HasRoomToKeep j p.shown
HasJobRoom j (Ask c next) = HasMadeRoom j
HasJobRoom j _ = Unit {0}

abbrev pub HasTurnRoom : Desk → TurnCase → Type 0
HasTurnRoom d (GoOn c) = IfSome d.job (λ j. HasJobRoom j c)
HasTurnRoom d _ = Unit {0}

-- room for one more request that waits
abbrev pub HasRequestRoom : Desk → Type 0
HasRequestRoom d = vec_len d.waiting < vec_capacity d.waiting
