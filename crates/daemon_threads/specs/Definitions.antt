-- The machine of all zones as threads see it: its places, and what an entry does to each. Its states are histories from what was stored
-- before any event, the latest entry first.
use Rattle.std.specs.Prelude.{◌≡◌, ℕ, List, [], ◌∷◌, ◌&&◌, Bool, false, Option, Some, None, bytes_eq, nat_eq, if◌then◌else◌}
use Rattle.brand_hooks.specs.Brands.{Tabled}
use Rattle.brand_hooks.specs.declared.table.HookAnswer.{HookAnswer}
use Rattle.commit_journal.specs.declared.records.Commit.{Commit}
use Rattle.session_records.specs.Places.{is_local_of, is_right_at, own_world_one, place_of, world_at, zone_at}
use Rattle.zn_base.specs.Names.{Name}
use Rattle.zn_io.specs.Disk.{View}
use Rattle.zone_cases.specs.Code.Cells.{CellOf, IsHeardIn}
use Rattle.zone_cases.specs.State.{State}
use Rattle.zone_cases.specs.State.Worlds.{World}
use Rattle.zone_cases.specs.declared.cell.Cell.{Cell}
use Rattle.zone_cases.specs.declared.events.Entry.{Entry}
use Rattle.zone_cases.specs.declared.events.Event.{Event}
use Rattle.zone_cases.specs.declared.events.Event.TheVariants.{Process as Call_of, Restart, Session, System, Turn}
use Rattle.zone_cases.specs.declared.events.Subject.TheVariants.{Zone}
use Rattle.zone_cases.specs.declared.replies.Head.{Head}
use Rattle.zone_cases.specs.declared.replies.Head.TheVariants.{Ticket, Turned}
use Rattle.zone_machine.specs.Machine.{opening}
use Rattle.zone_machine.specs.Machine.Histories.{after_entry}
use Rattle.zone_machine.specs.Machine.Local.{is_busy}
use Rattle.zone_threads.specs.Machines.{Definitions}
use Rattle.zone_threads.specs.declared.machine.Said.{Said}
use Rattle.zone_threads.specs.declared.machine.Said.TheVariants as says
use Rattle.zone_threads.specs.declared.machine.Told.{Told}
use Rattle.zoneadmd_steps.specs.declared.requests.TurnReply.{TurnReply}
use Rattle.zoneadmd_steps.specs.declared.requests.TurnReply.TheVariants.{Finished, Idle, Stuck}
use Rattle.daemon_threads.specs.Goods.{Goods}
use Rattle.daemon_threads.specs.Parts.{Known, Stands, commons}
use Rattle.daemon_threads.specs.declared.cell.PlaceCell.{PlaceCell}
use Rattle.daemon_threads.specs.declared.cell.PlaceCell.TheVariants as cells
use Rattle.daemon_threads.specs.declared.past.Past.{Past}

-- the state that a history leaves
abbrev pub state_in : List Tabled → List Commit → List Entry → State
state_in brands commits [] = opening brands commits
state_in brands commits (e ∷ h) = after_entry (state_in brands commits h) e

abbrev pub state_of : List Tabled → Past → State
state_of brands s = state_in brands s.commits s.entries

-- what a place has: its zone, if it is one's, and that zone's world
pub record PlaceWorld : Type 0 where
  pub zone : Option Name
  pub world : World

abbrev pub place_world : List Name → ℕ → State → PlaceWorld
place_world zones p S = record { zone = zone_at zones p; world = world_at zones p S }

-- the number that stands for a session where there is none
abbrev pub no_session : ℕ
no_session = 255

-- the session whose line an event is, 0 of a turn, and of any other event that there is none, since no record of sessions has it
abbrev pub session_of : Event → ℕ
session_of (Session n text) = if nat_eq n 0 then no_session else n
session_of (Turn z) = 0
session_of (Call_of z pid c) = no_session
session_of (System what) = no_session
session_of Restart = no_session

-- what an answer says
abbrev pub turn_says : TurnReply → Said
turn_says Idle = says.Idle
turn_says (Finished t outcome) = says.Finished t
turn_says Stuck = says.Stuck
turn_says reply = says.Other

abbrev pub turned_says : Head → Said
turned_says (Turned reply) = turn_says reply
turned_says head = says.Other

abbrev pub line_says : Head → Said
line_says (Ticket t) = says.Ticket t
line_says head = says.Other

abbrev pub said_by : Event → Head → Said
said_by (Session n text) head = line_says head
said_by (Turn z) head = turned_says head
said_by (Call_of z pid c) head = says.Other
said_by (System what) head = says.Other
said_by Restart head = says.Other

abbrev pub told : Entry → Told
told e = record { session = session_of e.event; said = said_by e.event e.reply.head }

-- an event is this line
abbrev pub is_text : List ℕ → Event → Bool
is_text line (Session n text) = bytes_eq text line
is_text line (Turn z) = false
is_text line (Call_of z pid c) = false
is_text line (System what) = false
is_text line Restart = false

-- a zone has a place
abbrev pub is_placed : List Name → ℕ → Option Name → Bool
is_placed zones p None = false
is_placed zones p (Some z) = nat_eq (place_of zones (Zone z)) p

abbrev pub is_busy_of : Option Name → World → Bool
is_busy_of None w = false
is_busy_of (Some z) w = is_busy w

-- a zone's cell has the world of a place that is the zone's, and sees these brands
pub record IsZoneCell (brands : List Tabled) (z : Name) (c : Cell) (w : PlaceWorld) : Type 0 where
  pub zone : w.zone ≡ Some z
  pub brands_are : w.world.brands ≡ brands
  pub cell : CellOf c w.world

-- what lies in a place has the place's world
abbrev pub CellIn : List Tabled → PlaceCell → PlaceWorld → Type 0
CellIn brands cells.Global w = w.zone ≡ None
CellIn brands (cells.Zone z c) w = IsZoneCell brands z c w

-- what the brand answers to the next step of a place's daemon
abbrev pub IsHeardOf : List Tabled → PlaceCell → HookAnswer → Type 0
IsHeardOf brands cells.Global answer = Unit {0}
IsHeardOf brands (cells.Zone z c) answer = IsHeardIn brands c answer

-- the machine of all zones, in which these zones have a place and there are these brands. Its disk was the view v when the sessions began
abbrev pub daemons : {D : Type 0} → (D → View) → (v : View) → List Name → List Tabled → Definitions Past PlaceCell (Goods D) (List ℕ) Entry HookAnswer
daemons view v zones brands = record {
  World = PlaceWorld;
  Common = Known;
  world = λ p s. place_world zones p (state_of brands s);
  common = λ s. record { stored = s.stored; now = commons (state_of brands s) };
  one = λ s e. record s { entries = e ∷ s.entries };
  right = λ s e. is_right_at zones (state_of brands s) e;
  by = λ e. place_of zones e.subject;
  told = told;
  place_of = λ k n line. place_of zones (k.now.whose n line);
  is_line = λ line e. is_text line e.event;
  world_one = λ w e. record w { world = own_world_one w.world e };
  is_local = λ p w e. is_placed zones p w.zone && is_local_of w.zone w.world e;
  is_busy = λ w. is_busy_of w.zone w.world;
  is_sound = λ m. m.bank.sound;
  cell_of = CellIn brands;
  shared_of = λ m k. Stands view v k.stored m k.now;
  heard = IsHeardOf brands;
}
