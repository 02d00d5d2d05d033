-- What zoneadm(8) tells: `help`, what `verify` finds, and the rows of `list`.
use Rattle.std.specs.Prelude.{ℕ, ◌-◌, List, [], ◌∷◌, ◌++◌, ◌||◌, length, filter, map, replicate, codes, decimal, Bool, true, false, Option, Some, None, Result, Ok as Right, Err}
use Rattle.std.specs.Option.{option_or}
use Rattle.brand_hooks.specs.Brands.{Tabled, tabled_names}
use Rattle.commit_journal.specs.Stored as rows
use Rattle.commit_journal.specs.declared.records.Record.{Record}
use Rattle.config_terms.specs.Fields.{path_text}
use Rattle.config_terms.specs.declared.terms.IpType.{IpType}
use Rattle.config_terms.specs.declared.terms.IpType.TheVariants.{Exclusive, Shared}
use Rattle.config_verify.specs.Flaws.{first, flaws}
use Rattle.config_verify.specs.declared.flaw.Flaw.{Flaw}
use Rattle.index_file.specs.Index.{colon, escaped}
use Rattle.kernel_objects.specs.Kernel.{zid_of}
use Rattle.kernel_objects.specs.declared.objects.Id.{Id}
use Rattle.priv_sets.specs.Limit.{limit_of}
use Rattle.priv_sets.specs.declared.limit.PrivFault.{PrivFault}
use Rattle.uuid_text.specs.Text.{uuid_text}
use Rattle.zn_base.specs.Names.{Name}
use Rattle.zn_base.specs.States.{state_text}
use Rattle.zn_base.specs.declared.state.ZoneState.{ZoneState}
use Rattle.zn_base.specs.declared.state.ZoneState.TheVariants.{Configured, Down, Incomplete, Installed, Ready, Running, ShuttingDown}
use Rattle.zone_config.specs.declared.terms.Contents.{Contents}
use Rattle.zone_pools.specs.Firsts.{first_of}
use Rattle.zone_pools.specs.Owned_lists.{mine}
use Rattle.zone_pools.specs.declared.owned.Owned.{Owned}
use Rattle.zone_cases.specs.State.{State}
use Rattle.zone_cases.specs.State.Decisions.{head_of, says, told}
use Rattle.zone_cases.specs.declared.replies.Body.TheVariants.{Lines}
use Rattle.zone_cases.specs.declared.replies.Head.TheVariants.{Refused}
use Rattle.zone_cases.specs.declared.replies.Refusal.{Refusal}
use Rattle.zone_cases.specs.declared.replies.Refusal.TheVariants.{Flawed, NoZone, Privilege}
use Rattle.zone_cases.specs.declared.replies.Reply.{Reply}
use Rattle.zone_cases.specs.declared.session.listing.Form.{Form}
use Rattle.zone_cases.specs.declared.session.listing.Form.TheVariants.{Columns, Fields, Names}
use Rattle.zone_cases.specs.declared.session.listing.Options.{Options}
use Rattle.zoneadmd_steps.specs.Desks.{Desk, state_now}

-- `help`: the subcommands that there are, in alphabetical order
abbrev pub help_line : List ℕ
help_line = codes "attach boot clone detach halt help install list mark move ready reboot uninstall verify"

-- `verify`: the first flaw of the configuration, else why its limitpriv denotes no limit set
abbrev pub flaw_refusal : Result (Unit {0}) Flaw → Option Refusal
flaw_refusal (Err flaw) = Some (Flawed flaw)
flaw_refusal (Right fine) = None

abbrev pub limit_refusal : Result (List ℕ) PrivFault → Option Refusal
limit_refusal (Err fault) = Some (Privilege fault)
limit_refusal (Right limit) = None

abbrev pub config_refusal : List Tabled → Contents → Option Refusal
config_refusal brands config = option_or (flaw_refusal (first (flaws (tabled_names brands) config))) (limit_refusal (limit_of config.limitpriv))

abbrev pub verify_reply : List Tabled → Option Record → Reply
verify_reply brands None = says (Refused NoZone)
verify_reply brands (Some row) = says (head_of (config_refusal brands row.config))

-- what `list` tells of a zone, or of the global zone, which has no UUID
pub record Zone_row : Type 0 where
  pub id : Option ℕ
  pub name : List ℕ
  pub state : ZoneState
  pub path : List ℕ
  pub uuid : List ℕ
  pub brand : List ℕ
  pub ip : IpType

abbrev pub zone_row : Name → Record → ZoneState → Option ℕ → Zone_row
zone_row z row state id = record { id = id; name = z; state = state; path = path_text row.config.zonepath; uuid = uuid_text row.uuid; brand = row.config.brand; ip = row.config.ip }

-- by the zone's desk and its id, if it has one
abbrev pub row_now : Name → Record → Desk → List Id → Zone_row
row_now z row d ids = zone_row z row (state_now row d) (zid_of (first_of ids))

abbrev pub global_row : Zone_row
global_row = record { id = Some 0; name = codes "global"; state = Running; path = codes "/"; uuid = []; brand = codes "ipkg"; ip = Shared }

-- an id is a number, or `-` where there is none
abbrev pub id_text : Option ℕ → List ℕ
id_text None = codes "-"
id_text (Some id) = decimal id

abbrev pub ip_text : IpType → List ℕ
ip_text Shared = codes "shared"
ip_text Exclusive = codes "excl"

-- `-p`: `ID:NAME:STATE:PATH:UUID:BRAND:IP`, with a backslash before each colon and each backslash of the path
abbrev pub fields_text : Zone_row → List ℕ
fields_text r =
    id_text r.id ++ colon ∷ r.name ++ colon ∷ state_text r.state ++ colon ∷ escaped r.path ++ colon ∷ r.uuid ++ colon ∷ r.brand ++ colon ∷ ip_text r.ip

-- a column of a width, with its text at the left or at the right; what is longer is not cut
abbrev pub left : ℕ → List ℕ → List ℕ
left width text = text ++ replicate (width - length text) 32

abbrev pub right : ℕ → List ℕ → List ℕ
right width text = replicate (width - length text) 32 ++ text

-- `-v`: six columns, a space between two
abbrev pub columns : (id name state path brand ip : List ℕ) → List ℕ
columns id name state path brand ip =
    right 4 id ++ 32 ∷ left 16 name ++ 32 ∷ left 10 state ++ 32 ∷ left 30 path ++ 32 ∷ left 8 brand ++ 32 ∷ left 6 ip

-- a row in a form: its name alone, `-p`, or `-v`, where a header comes first
abbrev pub row_text : Form → Zone_row → List ℕ
row_text Names r = r.name
row_text Fields r = fields_text r
row_text Columns r = columns (id_text r.id) r.name (state_text r.state) r.path r.brand (ip_text r.ip)

abbrev pub header : Form → List (List ℕ)
header Columns = columns (codes "ID") (codes "NAME") (codes "STATUS") (codes "PATH") (codes "BRAND") (codes "IP") ∷ []
header form = []

abbrev pub listing : Form → List Zone_row → List (List ℕ)
listing form rows = header form ++ map (row_text form) rows

-- `list` of one zone, whatever its state
abbrev pub list_one_reply : Name → Form → Option Record → Desk → List Id → Reply
list_one_reply z form None d ids = says (Refused NoZone)
list_one_reply z form (Some row) d ids = told (Lines (listing form (row_now z row d ids ∷ [])))

-- whether `list` tells of a zone in a state: of those that run; with `-i` also of those that are installed, come up or go down; with
-- `-c` of all
abbrev pub is_listed : Options → ZoneState → Bool
is_listed o Running = true
is_listed o Configured = o.configured
is_listed o Incomplete = o.configured
is_listed o Installed = o.configured || o.installed
is_listed o Ready = o.configured || o.installed
is_listed o ShuttingDown = o.configured || o.installed
is_listed o Down = o.configured || o.installed

abbrev pub global_rows : (no_global : Bool) → List Zone_row
global_rows true = []
global_rows false = global_row ∷ []

abbrev pub stored_row : State → Owned Record → Zone_row
stored_row S o = row_now o.zone o.it (S.desks o.zone) (mine o.zone S.ids)

-- `list`: the global zone, unless `-n`, and then the stored zones, in the order in which they were made
abbrev pub list_zones : Options → State → List Zone_row
list_zones o S = global_rows o.no_global ++ filter (λ r. is_listed o r.state) (map (stored_row S) (rows.stored S.commits))

abbrev pub list_zones_reply : Options → State → Reply
list_zones_reply o S = told (Lines (listing o.form (list_zones o S)))
