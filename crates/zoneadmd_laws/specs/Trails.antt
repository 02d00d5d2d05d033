-- What the turns of one request tell, as whole lists. Numbers are left out here: each is told by the turn that it
-- comes in.
use Rattle.brand_hooks.specs.Brands.{Tabled}
use Rattle.commit_journal.specs.declared.records.Record.{Record}
use Rattle.datalink_table.specs.declared.claims.Claim.{Claim}
use Rattle.loopback_mounts.specs.Mounts.{in_order}
use Rattle.loopback_mounts.specs.declared.mount.MountEntry.{MountEntry}
use Rattle.std.specs.List.{list_all, list_any}
use Rattle.std.specs.Prelude.{◌≡◌, ◌⊎◌, ℕ, List, [], ◌∷◌, ◌++◌, map, filter, not, Bool, true, false, is_some, Some, None, if◌then◌else◌}
use Rattle.zn_base.specs.declared.state.ZoneState.TheVariants.{Ready}
use Rattle.zn_base.specs.declared.state.ZoneState.{ZoneState}
use Rattle.zone_config.specs.declared.terms.Contents.{Contents}
use Rattle.zone_pools.specs.declared.grant.Grant.{Grant}
use Rattle.zoneadmd_laws.specs.Afters.{After, after}
use Rattle.zoneadmd_laws.specs.Lists.{onto}
use Rattle.zoneadmd_steps.specs.Desks.{Progress, state_now}
use Rattle.zoneadmd_steps.specs.Plans.{kind_of, plan, refusal}
use Rattle.zoneadmd_steps.specs.Turns.{Seen, no_progress, turn, with_step}
use Rattle.zoneadmd_steps.specs.declared.requests.Outcome.TheVariants.{Done}
use Rattle.zoneadmd_steps.specs.declared.requests.Outcome.{Outcome}
use Rattle.zoneadmd_steps.specs.declared.requests.Request.TheVariants as request
use Rattle.zoneadmd_steps.specs.declared.requests.Request.{Request}
use Rattle.zoneadmd_steps.specs.declared.requests.Step.TheVariants.{Hook, State, Zid, Devices, Init, Kill, Unmount, Release, ZidBack}
use Rattle.zoneadmd_steps.specs.declared.requests.Step.{Step}
use Rattle.zoneadmd_steps.specs.declared.requests.TurnReply.TheVariants.{Began, Stepped, Failed, Undone, Stuck, Finished}
use Rattle.zoneadmd_steps.specs.declared.requests.TurnReply.{TurnReply}

-- a step without its number
abbrev pub bare : Step → Step
bare (Zid n) = Zid None
bare (Devices n) = Devices None
bare (Init n) = Init None
bare (Kill n) = Kill None
bare (ZidBack n) = ZidBack None
bare s = s

abbrev pub bare_progress : Progress → Progress
bare_progress p = record { place = p.place; made = map bare p.made }

abbrev pub bare_reply : TurnReply → TurnReply
bare_reply (Stepped s) = Stepped (bare s)
bare_reply (Undone s) = Undone (bare s)
bare_reply r = r

abbrev pub is_stuck : TurnReply → Bool
is_stuck Stuck = true
is_stuck r = false

abbrev pub is_done : Outcome → Bool
is_done Done = true
is_done o = false

-- the steps of a plan as turns, where these directories go in the place of its unmounts, and these claims in the place
-- of its releases
abbrev pub in_full : List (List ℕ) → List Claim → List Step → List Step
in_full ds cs [] = []
in_full ds cs (Unmount d ∷ rest) = map (λ d. Unmount (Some d)) ds ++ in_full [] cs rest
in_full ds cs (Release c ∷ rest) = map (λ c. Release (Some c)) cs ++ in_full ds [] rest
in_full ds cs (s ∷ rest) = bare s ∷ in_full ds cs rest

abbrev pub IsFront : List TurnReply → List TurnReply → Type 0
IsFront rs all = (rest : List TurnReply) × (rs ++ rest ≡ all)

-- what is told after a failure: it, what is undone, and the end
abbrev pub failing : ℕ → Progress → Outcome → List TurnReply
failing t p o = Failed p.place o ∷ (map Undone p.made ++ Finished t o ∷ [])

abbrev pub with_steps : List Step → Progress → Progress
with_steps [] p = p
with_steps (s ∷ steps) p = with_steps steps (with_step s p)

-- what is told of the steps of one plan that are left after some, where `Later` may come once all are done: a front of
-- them; or all of them, and what comes later; or those before one that failed, and a front of what a failure tells
pub data Tells (t : ℕ) (p : Progress) (steps : List Step) (Later : List TurnReply → Type 0) (rs : List TurnReply) : Type 0 where
  So_far : IsFront rs (map Stepped steps) → Tells t p steps Later rs
  All_done : (more : List TurnReply) → rs ≡ map Stepped steps ++ more → Later more → Tells t p steps Later rs
  One_failed : (front : List Step) (s : Step) (rest : List Step) (o : Outcome) (more : List TurnReply)
      → steps ≡ front ++ s ∷ rest → is_done o ≡ false → rs ≡ map Stepped front ++ more
      → IsFront more (failing t (with_steps front p) o) → Tells t p steps Later rs

-- a turn: the zone as its daemon finds it, and what the turn is granted
pub record Moment : Type 0 where
  pub seen : Seen
  pub grant : Grant

abbrev pub result : Moment → After
result m = after (turn m.seen) m.grant m.seen

-- where some mounts are, in order and the last one first
abbrev pub dirs_in : List MountEntry → List (List ℕ)
dirs_in ms = map (λ m. m.mount.dir) ms

abbrev pub dirs_of : List MountEntry → List (List ℕ)
dirs_of ms = onto (dirs_in ms) []

-- what may happen to a zone between two turns of a request: the request, the claims, that the zone is stored and the brands
-- stay, its mounts are in order, and, where it has no process, none comes and its mounts stay where they are
pub record Between (w v : Seen) : Type 0 where
  pub job : v.desk.job ≡ w.desk.job
  pub stored : is_some v.stored ≡ true
  pub brands : v.brands ≡ w.brands
  pub claims : v.objects.claims ≡ w.objects.claims
  pub order : in_order v.objects.mounts ≡ true
  pub quiet : w.objects.processes ≡ [] → (v.objects.processes ≡ []) × (dirs_in v.objects.mounts ≡ dirs_in w.objects.mounts)

-- turns of the request that is under way, from there on
abbrev pub Goes_on : Seen → List Moment → Type 0
Goes_on w [] = Unit {0}
Goes_on w (m ∷ ms) = Between w m.seen × (is_some m.seen.desk.job ≡ true) × Goes_on (result m).seen ms

-- what turns tell, stuck ones left out
abbrev pub told : List Moment → List TurnReply
told [] = []
told (m ∷ ms) =
    let r = (result m).reply in
    if is_stuck r then told ms else bare_reply r ∷ told ms

-- the mounts and claims that the first kill leaves are these, the latest first
abbrev pub is_kill : TurnReply → Bool
is_kill (Stepped (Kill n)) = true
is_kill r = false

abbrev pub Either : Bool → Type 0 → Type 0 → Type 0
Either true A B = A
Either false A B = B

abbrev pub Killed_first : List (List ℕ) → List Claim → List Moment → Type 0
Killed_first ds cs [] = Unit {0}
Killed_first ds cs (m ∷ ms) =
    let a = result m in
    Either (is_kill a.reply) ((ds ≡ dirs_of a.seen.objects.mounts) × (cs ≡ onto a.seen.objects.claims [])) (Killed_first ds cs ms)

-- a request ends well
abbrev pub Ends : ℕ → List TurnReply → Type 0
Ends t more = IsFront more (Finished t Done ∷ [])

-- a request that waited, by its state and configuration at that turn: it ends at once, by the check that failed; or it
-- begins, and its plan is told
abbrev pub Begins : List Tabled → ℕ → Request → (ds : List (List ℕ)) → List Claim → ZoneState → Contents → (Later : List TurnReply → Type 0) → List TurnReply → Type 0
Begins brands t r ds cs s c Later rs =
    ((o : Outcome) × (refusal brands (kind_of r) s c ≡ Some o) × IsFront rs (Finished t o ∷ []))
    ⊎ ((more : List TurnReply) × (refusal brands (kind_of r) s c ≡ None) × (rs ≡ Began t (kind_of r) ∷ more)
    × Tells t no_progress (in_full ds cs (plan r s c)) Later more)

abbrev pub IsOneOf : Moment → List Moment → Type 0
IsOneOf m [] = ⊥
IsOneOf m (k ∷ ms) = (m ≡ k) ⊎ IsOneOf m ms

-- what comes once the plan of a request with these turns is done: of a reboot the zone boots, by its state and its stored
-- configuration at one of them
abbrev pub Later : List Tabled → List Moment → ℕ → Request → List TurnReply → Type 0
Later brands ms t (request.Reboot args) more =
    (ds : List (List ℕ)) × (cs : List Claim) × (m : Moment) × (row : Record) × IsOneOf m ms × (m.seen.stored ≡ Some row)
    × Begins brands t (request.Boot args) ds cs (state_now row m.seen.desk) row.config (Ends t) more
Later brands ms t r more = Ends t more

-- the turns of a request from its begin: it waits first in a zone that is stored and has none under way, and then it is
-- under way
pub record IsRun (t : ℕ) (r : Request) (row : Record) (m : Moment) (ms : List Moment) : Type 0 where
  pub others : List (ℕ × Request)
  pub idle : m.seen.desk.job ≡ None
  pub first : m.seen.desk.waiting ≡ (t, r) ∷ others
  pub stored : m.seen.stored ≡ Some row
  pub goes : Goes_on (result m).seen ms

-- what a request tells from its begin, with the mounts and claims that its kill leaves
pub record Trail (brands : List Tabled) (t : ℕ) (r : Request) (s : ZoneState) (c : Contents) (ms : List Moment) : Type 0 where
  pub dirs : List (List ℕ)
  pub claims : List Claim
  pub killed : Killed_first dirs claims ms
  pub told : Begins brands t r dirs claims s c (Later brands ms t r) (told ms)

-- a request ended well
abbrev pub is_well : TurnReply → Bool
is_well (Finished t o) = is_done o
is_well r = false

abbrev pub are_free : List Moment → Bool
are_free ms = list_all (λ m. not (is_stuck (result m).reply)) ms

abbrev pub is_hook : Step → Bool
is_hook (Hook change) = true
is_hook s = false

abbrev pub is_ready : Step → Bool
is_ready (State Ready) = true
is_ready s = false

-- what is undone after these steps, before the others: while the zone is still to be made ready, all that is done since
-- the request began, hooks left out, the latest first; else nothing
abbrev pub undone_after : (front rest : List Step) → List Step
undone_after front rest = if list_any is_ready rest then filter (λ s. not (is_hook s)) (onto front []) else []
