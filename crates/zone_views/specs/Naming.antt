-- The objects that a zone has, and those that a reply to it names.
use Rattle.std.specs.Prelude.{ℕ, List, [], ◌∷◌, ◌++◌, Bool, ◌||◌, Option, Some, decimal, is_some, map, nat_eq, not, if◌then◌else◌}
use Rattle.std.specs.List.{All, Contains, flat_map}
use Rattle.console_link.specs.Consoles.{Console as Console_kept}
use Rattle.datalink_table.specs.declared.claims.Claim.{Claim}
use Rattle.datalink_table.specs.declared.claims.ClaimKind as claims
use Rattle.datalink_table.specs.declared.claims.ClaimKind.TheVariants.{Address as Address_claim, Dataset as Dataset_claim, Link as Link_claim}
use Rattle.kernel_objects.specs.declared.objects.ProcRow.{ProcRow}
use Rattle.zn_base.specs.Names.{Name}
use Rattle.zone_pools.specs.Firsts.{is_nil}
use Rattle.zone_pools.specs.declared.grant.Grant.{Grant}
use Rattle.zoneadmd_steps.specs.Arrivals.{Arrival, New_id, New_process}
use Rattle.zoneadmd_steps.specs.Configs.{root_dir}
use Rattle.zoneadmd_steps.specs.Objects.{Objects}
use Rattle.zoneadmd_steps.specs.declared.requests.Step.{Step}
use Rattle.zoneadmd_steps.specs.declared.requests.Step.TheVariants.{Zid, Root, Mounted, Claimed, Init, Unmount, Release, ZidBack}
use Rattle.zoneadmd_steps.specs.declared.requests.TurnReply.{TurnReply}
use Rattle.zoneadmd_steps.specs.declared.requests.TurnReply.TheVariants.{Stepped, Undone}
use Rattle.zone_cases.specs.State.{State}
use Rattle.zone_cases.specs.State.Decisions.{act_of}
use Rattle.zone_cases.specs.State.Worlds.{World, objects_of, view, world}
use Rattle.zone_cases.specs.declared.events.Event.{Event}
use Rattle.zone_cases.specs.declared.replies.Body.{Body}
use Rattle.zone_cases.specs.declared.replies.Body.TheVariants.{Child, Datasets, Devices, Mounts, Net, Processes}
use Rattle.zone_cases.specs.declared.replies.Head.{Head}
use Rattle.zone_cases.specs.declared.replies.Head.TheVariants.{Turned}
use Rattle.zone_cases.specs.declared.replies.Reply.{Reply}
use Rattle.zone_machine.specs.Machine.{decide, one}
pub use Rattle.zone_views.specs.declared.viewing.Object.{Object}
pub use Rattle.zone_views.specs.declared.viewing.ObjectKind.{ObjectKind as Kind}
pub use Rattle.zone_views.specs.declared.viewing.ObjectKind.TheVariants.{Address, Console, Dataset, Device, Id, Link, Mount, Process}

-- an object of a zone. Its key is its number in decimal, its directory, its item or its path; a console has an empty one
abbrev pub object : Name → Kind → List ℕ → Object
object z kind key = record { zone = z; kind = kind; key = key }

abbrev pub process : Name → ℕ → Object
process z pid = object z Process (decimal pid)

abbrev pub mount : Name → List ℕ → Object
mount z dir = object z Mount dir

abbrev pub claimed_kind : claims.ClaimKind → Kind
claimed_kind Link_claim = Link
claimed_kind Address_claim = Address
claimed_kind Dataset_claim = Dataset

abbrev pub claim : Name → Claim → Object
claim z c = object z (claimed_kind c.kind) c.item

abbrev pub id : Name → ℕ → Object
id z zid = object z Id (decimal zid)

-- what is in the tables of z
abbrev pub tables : Name → Objects → List Object
tables z o =
    map (λ p. process z p.pid) o.processes ++ map (λ m. mount z m.mount.dir) o.mounts ++ map (claim z) o.claims ++ map (object z Device) o.devices
    ++ map (λ i. id z i.zid) o.ids

-- a console is an object while something is kept of it or a session has it
abbrev pub is_in_use : Console_kept → Bool
is_in_use c = not (is_nil c.output) || is_some c.holder

abbrev pub consoles : Name → Console_kept → List Object
consoles z c = if is_in_use c then object z Console [] ∷ [] else []

-- the objects of z, by its world
abbrev pub objects : Name → World → List Object
objects z w = tables z (objects_of w) ++ consoles z w.console

-- what a step names that is told: a mount, a claim, a process or an id
abbrev pub named_by_step : Name → Step → List Object
named_by_step z (Zid (Some n)) = id z n ∷ []
named_by_step z (ZidBack (Some n)) = id z n ∷ []
named_by_step z (Init (Some n)) = process z n ∷ []
named_by_step z Root = mount z root_dir ∷ []
named_by_step z (Mounted dir) = mount z dir ∷ []
named_by_step z (Unmount (Some dir)) = mount z dir ∷ []
named_by_step z (Claimed c) = claim z c ∷ []
named_by_step z (Release (Some c)) = claim z c ∷ []
named_by_step z s = []

abbrev pub named_by_turn : Name → TurnReply → List Object
named_by_turn z (Stepped s) = named_by_step z s
named_by_turn z (Undone s) = named_by_step z s
named_by_turn z r = []

abbrev pub named_by_head : Name → Head → List Object
named_by_head z (Turned r) = named_by_turn z r
named_by_head z h = []

-- a process without a parent has 0 for its parent's number
abbrev pub named_by_row : Name → ProcRow → List Object
named_by_row z row = process z row.pid ∷ (if nat_eq row.parent 0 then [] else process z row.parent ∷ [])

-- what a body names, a line for each kind of body. A text names what it was given to say: the zone's own words
abbrev pub named_by_body : Name → Body → List Object
named_by_body z (Child pid) = process z pid ∷ []
named_by_body z (Processes rows) = flat_map (named_by_row z) rows
named_by_body z (Mounts ms) = map (λ m. mount z m.dir) ms
named_by_body z (Net links addresses) = map (object z Link) links ++ map (object z Address) addresses
named_by_body z (Datasets items) = map (object z Dataset) items
named_by_body z (Devices paths) = map (object z Device) paths
named_by_body z body = []

-- what a reply to z names
abbrev pub names : Name → Reply → List Object
names z r = named_by_head z r.head ++ named_by_body z r.body

-- the process or the id whose number the grant of an event gives
abbrev pub granted : Name → Option Arrival → List Object
granted z (Some (New_process p)) = process z p.pid ∷ []
granted z (Some (New_id i)) = id z i.zid ∷ []
granted z came = []

-- the objects that are z's own at an event of it: before it, after it, or by its grant. A process that enters the zone for one
-- call is there neither before nor after
abbrev pub own : Name → State → Event → Grant → List Object
own z S e g = objects z (world z S) ++ objects z (world z (one S e g).state) ++ granted z (act_of (decide (view z S) e) g).came

-- each object of a list is in another
abbrev pub AreAmong : (named own : List Object) → Type 0
AreAmong named own = All (Contains own) named
