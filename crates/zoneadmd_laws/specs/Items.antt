-- What a turn is about: the next item of a request, and what may answer it.
use Rattle.kernel_objects.specs.Processes.{count_of}
use Rattle.std.specs.Prelude.{◌≡◌, ◌⊎◌, ℕ, List, [], ◌∷◌, length, Bool, true, false, Option, Some, None, Result, Ok as Right, Err}
use Rattle.zone_pools.specs.Decisions.{number_in}
use Rattle.zone_pools.specs.declared.grant.Grant.{Grant}
use Rattle.zone_pools.specs.declared.grant.Pool.{Pool}
use Rattle.zoneadmd_laws.specs.Trails.{is_done}
use Rattle.zoneadmd_steps.specs.Configs.{devices_by}
use Rattle.zoneadmd_steps.specs.Desks.{Fails, Goes, Job, Stage}
use Rattle.zoneadmd_steps.specs.Objects.{zid_of}
use Rattle.zoneadmd_steps.specs.Plans.{kind_of}
use Rattle.zoneadmd_steps.specs.Turns.{A_claim_left, A_mount, A_step, Next, Nothing_left, Seen, next}
use Rattle.zoneadmd_steps.specs.declared.requests.Outcome.TheVariants.{Done}
use Rattle.zoneadmd_steps.specs.declared.requests.Outcome.{Outcome}
use Rattle.zoneadmd_steps.specs.declared.requests.Request.TheVariants as request
use Rattle.zoneadmd_steps.specs.declared.requests.Request.{Request}
use Rattle.zoneadmd_steps.specs.declared.requests.Step.TheVariants.{Zid, Devices, Init, Kill, Unmount, Release, ZidBack}
use Rattle.zoneadmd_steps.specs.declared.requests.Step.{Step}
use Rattle.zoneadmd_steps.specs.declared.requests.TurnReply.TheVariants.{Idle, Began, Stepped, Failed, Undone, Stuck, Finished}
use Rattle.zoneadmd_steps.specs.declared.requests.TurnReply.{TurnReply}

pub data Item : Type 0 where
  -- no request waits in a stored zone, and none is under way
  Nothing_to_do : Item
  -- a request begins, or a reboot goes on as a boot
  A_begin : (ticket : ℕ) → Request → Item
  -- a step of a plan, after so many
  A_turn : Job → Step → Item
  -- one step back
  A_step_back : Step → Item
  An_end : (ticket : ℕ) → Outcome → Item

abbrev pub over_item : Job → Request → Item
over_item j (request.Reboot args) = A_begin j.ticket (request.Boot args)
over_item j r = An_end j.ticket Done

abbrev pub next_item : Job → Next → Item
next_item j Nothing_left = over_item j j.request
next_item j (A_step s rest) = A_turn j s
next_item j (A_mount m left) = A_turn j (Unmount (Some m.mount.dir))
next_item j (A_claim_left c left) = A_turn j (Release (Some c))

abbrev pub stage_item : Seen → Job → Stage → Item
stage_item w j (Goes left) = next_item j (next w.objects left)
stage_item w j (Fails o []) = An_end j.ticket o
stage_item w j (Fails o (s ∷ rest)) = A_step_back s

abbrev pub waiting_item : List (ℕ × Request) → Item
waiting_item [] = Nothing_to_do
waiting_item (r ∷ rs) = A_begin r.0 r.1

abbrev pub item_of : Seen → Option Job → Item
item_of w None = waiting_item w.desk.waiting
item_of w (Some j) = stage_item w j j.stage

-- the next item of a zone
abbrev pub item : Seen → Item
item w = item_of w w.desk.job

abbrev pub given : Result ℕ Pool → Option ℕ
given (Right n) = Some n
given (Err p) = None

-- a step with its number: that of the grant, or by what stands
abbrev pub shown : Seen → Job → Grant → Step → Step
shown w j g (Zid o) = Zid (given (number_in g))
shown w j g (Devices o) = Devices (Some (length (devices_by j.config w.declared)))
shown w j g (Init o) = Init (given (number_in g))
shown w j g (Kill o) = Kill (Some (count_of w.objects.processes))
shown w j g (ZidBack o) = ZidBack (zid_of w.objects.ids)
shown w j g s = s

abbrev pub may_stick : Step → Bool
may_stick (Unmount d) = true
may_stick s = false

-- a fault ends the request, or the step
abbrev pub With_fault : (Outcome → TurnReply) → TurnReply → Type 0
With_fault says r = (o : Outcome) × (is_done o ≡ false) × (r ≡ says o)

abbrev pub Answers : Seen → Grant → Item → TurnReply → Type 0
Answers w g Nothing_to_do r = r ≡ Idle
Answers w g (A_begin t q) r = (r ≡ Began t (kind_of q)) ⊎ With_fault (Finished t) r
Answers w g (A_turn j s) r = (r ≡ Stepped (shown w j g s)) ⊎ (With_fault (Failed j.done.place) r ⊎ ((may_stick s ≡ true) × (r ≡ Stuck)))
Answers w g (A_step_back s) r = (r ≡ Undone s) ⊎ (r ≡ Stuck)
Answers w g (An_end t o) r = r ≡ Finished t o
