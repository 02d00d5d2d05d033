-- What a line of zonecfg(8) does that is said to an editor: it commits what was edited, removes the zone, goes on, or leaves.
-- What its subcommands tell is told whatever its end.
use Rattle.std.specs.Prelude.{ℕ, List, [], ◌∷◌, ◌++◌, Bool, true, false, not, ◌&&◌, ◌||◌, ◌==◌, Option, Some, None, Result, Ok as Right, Err, bytes_eq, if◌then◌else◌}
use Rattle.std.specs.Option.{option_map}
use Rattle.zn_base.specs.Names.{Name}
use Rattle.zn_base.specs.declared.state.ZoneState.{ZoneState}
use Rattle.zn_base.specs.declared.state.ZoneState.TheVariants.{Configured}
use Rattle.brand_hooks.specs.Brands.{tabled_names}
use Rattle.config_terms.specs.Fields.{path_text}
use Rattle.config_verify.specs.Flaws.{first, flaws}
use Rattle.config_verify.specs.declared.flaw.Flaw.{Flaw}
use Rattle.zone_config.specs.Same.{same_contents}
use Rattle.zone_config.specs.declared.terms.Contents.{Contents}
use Rattle.zonecfg_scopes.specs.Edited.{Edited, is_changed, opened_on, revision_of}
use Rattle.zonecfg_scopes.specs.OpenOf.{config_of}
use Rattle.zonecfg_scopes.specs.declared.base.Base.{Base}
use Rattle.zonecfg_lines.specs.Runs.{Run, alone_run, line_run}
use Rattle.zonecfg_lines.specs.declared.reply.Ending.{Ending}
use Rattle.zonecfg_lines.specs.declared.reply.Ending.TheVariants as ending
use Rattle.zonecfg_lines.specs.declared.refusal.LineRefusal.{LineRefusal}
use Rattle.zonecfg_lines.specs.declared.refusal.LineRefusal.TheVariants as line
use Rattle.commit_journal.specs.Uuids.{uuid_of}
use Rattle.commit_journal.specs.declared.records.Record.{Record}
use Rattle.zone_pools.specs.Asked.{A_path, A_zone, Asked}
use Rattle.zone_pools.specs.Decisions.{Ask, Just}
use Rattle.zoneadmd_steps.specs.Arrivals.{A_record, record_asked}
use Rattle.zoneadmd_steps.specs.Desks.{Desk, has_request, state_now}
use Rattle.zone_cases.specs.State.{Editing}
use Rattle.zone_cases.specs.State.Decisions.{Decision, Effect}
use Rattle.zone_cases.specs.State.Edits.{Edit as Edit_of, Here}
use Rattle.zone_cases.specs.State.Worlds.{View}
use Rattle.zone_cases.specs.declared.cases.Novelty.{Novelty}
use Rattle.zone_cases.specs.declared.cases.Novelty.TheVariants as novelty
use Rattle.zone_cases.specs.declared.replies.Body.TheVariants.{Lines, Nothing}
use Rattle.zone_cases.specs.declared.replies.Head.{Head}
use Rattle.zone_cases.specs.declared.replies.Head.TheVariants.{Ok, Refused}
use Rattle.zone_cases.specs.declared.replies.Refusal.{Refusal}
use Rattle.zone_cases.specs.declared.replies.Refusal.TheVariants.{Changed, Denied, DeskInUse, Edit, Flawed, NoZone, Usage, WrongState}

-- the stored configuration, as an editor takes it
abbrev pub base_of : Record → Base
base_of row = record { config = row.config; revision = row.revision }

-- the revision that is stored, or 0 where none is
abbrev pub revision_now : Option Record → ℕ
revision_now stored = revision_of (option_map base_of stored)

-- whose line it is: one that is a session of its own, whose editor is dropped; or a session's, which edits this by then, and
-- goes on or leaves once what the line asks for is done
pub data Typist : Type 0 where
  Alone : Typist
  Goes_on : Edited → Typist
  Leaves : Edited → Typist

-- whether a line is a session of its own
pub data Hearer : Type 0 where
  Of_its_own : Hearer
  A_session : Hearer

abbrev pub typist : Hearer → Ending → Edited → Typist
typist Of_its_own e edited = Alone
typist A_session (ending.Exit force) edited = Leaves edited
typist A_session ending.Delete edited = Leaves edited
typist A_session ending.Commit edited = Goes_on edited
typist A_session ending.Nothing edited = Goes_on edited

-- what becomes of the session where it stays in the editor
abbrev pub stays : Typist → List Edit_of
stays Alone = []
stays (Goes_on e) = Here (Some (Editing e)) ∷ []
stays (Leaves e) = Here (Some (Editing e)) ∷ []

-- where the line is done, and nothing was stored
abbrev pub goes : Typist → List Edit_of
goes Alone = []
goes (Goes_on e) = Here (Some (Editing e)) ∷ []
goes (Leaves e) = Here None ∷ []

-- an editor whose base is what was committed
abbrev pub based : Contents → ℕ → Edited → Edited
based config n e = record e { base = Some (record { config = config; revision = n }) }

-- where a configuration was stored under a number
abbrev pub goes_over : Contents → ℕ → Typist → List Edit_of
goes_over config n Alone = []
goes_over config n (Goes_on e) = Here (Some (Editing (based config n e))) ∷ []
goes_over config n (Leaves e) = Here None ∷ []

-- lines are told
abbrev pub telling : List Edit_of → Head → List (List ℕ) → Effect
telling edits head told = record { edits = edits; reply = record { head = head; body = Lines told } }

abbrev pub refuses : Typist → Refusal → List (List ℕ) → Effect
refuses t refusal told = telling (stays t) (Refused refusal) told

-- what is new to the system in a configuration that is committed: the zone, or its path
abbrev pub keeps_path : Record → Contents → Bool
keeps_path row config = bytes_eq (path_text config.zonepath) (path_text row.config.zonepath)

abbrev pub novelty_of : Option Record → Contents → Novelty
novelty_of None config = novelty.Zone
novelty_of (Some row) config = if keeps_path row config then novelty.Nothing else novelty.Path

-- the pools that are asked for it, before the record
abbrev pub places_for : Novelty → List ℕ → List Asked
places_for novelty.Zone path = A_zone ∷ A_path path ∷ []
places_for novelty.Path path = A_path path ∷ []
places_for novelty.Nothing path = []

-- the record of a commit: a new zone is configured, and has its UUID by the number; one that is stored keeps state and UUID
abbrev pub committed_record : Name → Option Record → Contents → ℕ → Record
committed_record z None config n = record { state = Configured; uuid = uuid_of z n; revision = n; config = config }
committed_record z (Some row) config n = record row { revision = n; config = config }

abbrev pub records : Name → Option Record → Contents → List (List ℕ) → Typist → Decision
records z stored config told t =
    Ask (A_record (λ n. Some (committed_record z stored config n)))
    (places_for (novelty_of stored config) (path_text config.zonepath) ++ record_asked (λ n. Some (committed_record z stored config n)) ∷ [])
    (λ pool. refuses t (Denied pool) told) (λ n. telling (goes_over config n t) Ok told)

-- the zonepath and the brand may change in the state configured alone
abbrev pub keeps_place : Record → Contents → Bool
keeps_place row config = keeps_path row config && bytes_eq config.brand row.config.brand

abbrev pub is_configured : ZoneState → Bool
is_configured Configured = true
is_configured s = false

-- a commit of a configuration without a flaw, over what is stored: no record where nothing is new
abbrev pub commit_over : Name → Desk → Option Record → Contents → List (List ℕ) → Typist → Decision
commit_over z d None config told t = records z None config told t
commit_over z d (Some row) config told t =
    if same_contents config row.config then Just (telling (goes t) Ok told)
    else if keeps_place row config || is_configured (state_now row d) then records z (Some row) config told t
    else Just (refuses t (WrongState (state_now row d)) told)

-- the same, where what is stored is what the editor has seen
abbrev pub commit_seen : (seen : ℕ) → Name → Desk → Option Record → Contents → List (List ℕ) → Typist → Decision
commit_seen seen z d stored config told t =
    if revision_now stored == seen then commit_over z d stored config told t
    else Just (refuses t (Changed seen (revision_now stored)) told)

abbrev pub commit_unless : Result (Unit {0}) Flaw → (seen : ℕ) → Name → Desk → Option Record → Contents → List (List ℕ) → Typist → Decision
commit_unless (Err flaw) seen z d stored config told t = Just (refuses t (Flawed flaw) told)
commit_unless (Right fine) seen z d stored config told t = commit_seen seen z d stored config told t

-- what is open is committed, where something is
abbrev pub commit : View → (seen : ℕ) → Option Contents → List (List ℕ) → Typist → Decision
commit v seen None told t = Just (telling (goes t) Ok told)
commit v seen (Some config) told t =
    commit_unless (first (flaws (tabled_names v.world.brands) config)) seen v.zone v.world.desk v.world.stored config told t

-- why a line is refused, as a reply says it
abbrev pub line_refusal : LineRefusal → Refusal
line_refusal (line.Edit fault) = Edit fault
line_refusal (line.Flawed flaw) = Flawed flaw
line_refusal line.NoZone = NoZone
line_refusal line.Usage = Usage

-- whether the end of a line commits: `exit` does so where something was changed and `-F` is missing
abbrev pub commits : Ending → (changed : Bool) → Bool
commits ending.Commit changed = true
commits (ending.Exit force) changed = not force && changed
commits ending.Delete changed = false
commits ending.Nothing changed = false

-- the zone is removed
abbrev pub removes : List (List ℕ) → Typist → Decision
removes told t =
    Ask (A_record (λ n. None)) (record_asked (λ n. None) ∷ []) (λ pool. refuses t (Denied pool) told) (λ n. telling (goes t) Ok told)

-- a zone may be removed in the state configured, while nothing is asked of its daemon
abbrev pub delete_seen : Desk → Record → List (List ℕ) → Typist → Decision
delete_seen d row told t =
    if not (is_configured (state_now row d)) then Just (refuses t (WrongState (state_now row d)) told)
    else if has_request d then Just (refuses t DeskInUse told)
    else removes told t

-- and where what is stored is what the editor has seen
abbrev pub delete : (seen : ℕ) → Desk → Option Record → List (List ℕ) → Typist → Decision
delete seen d None told t = Just (refuses t NoZone told)
delete seen d (Some row) told t =
    if row.revision == seen then delete_seen d row told t
    else Just (refuses t (Changed seen row.revision) told)

-- what the end of a line does that commits nothing
abbrev pub leaves : View → (seen : ℕ) → Ending → List (List ℕ) → Typist → Decision
leaves v seen ending.Delete told t = delete seen v.world.desk v.world.stored told t
leaves v seen e told t = Just (telling (goes t) Ok told)

abbrev pub ends : View → (seen : ℕ) → Run → Ending → Typist → Decision
ends v seen run e t =
    if commits e (is_changed run.edited) then commit v seen (config_of run.edited.opened) run.told t
    else leaves v seen e run.told t

abbrev pub ended : View → Hearer → Run → Result Ending LineRefusal → Decision
ended v h run (Err refusal) = Just (refuses (typist h ending.Nothing run.edited) (line_refusal refusal) run.told)
ended v h run (Right e) = ends v (revision_of run.edited.base) run e (typist h e run.edited)

-- what is stored, as a line finds it and an editor takes it
abbrev pub base_now : View → Option Base
base_now v = option_map base_of v.world.stored

-- subcommands that follow the name of a zone
abbrev pub said_alone : View → List ℕ → Run
said_alone v text = alone_run (base_now v) (tabled_names v.world.brands) text (opened_on v.zone (base_now v))

abbrev pub zonecfg : View → List ℕ → Decision
zonecfg v text = ended v Of_its_own (said_alone v text) (said_alone v text).end

-- a line of a session that edits
abbrev pub said_to : View → Edited → List ℕ → Run
said_to v e text = line_run (base_now v) (tabled_names v.world.brands) text e

abbrev pub edits_line : View → Edited → List ℕ → Decision
edits_line v e text = ended v A_session (said_to v e text) (said_to v e text).end

-- a session edits the zone from now on, over what is stored
abbrev pub opens : View → Decision
opens v = Just (record { edits = Here (Some (Editing (opened_on v.zone (base_now v)))) ∷ []; reply = record { head = Ok; body = Nothing } })
