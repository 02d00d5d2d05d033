-- What the code's cases decide, as the definitions have it.
use Rattle.std.specs.Prelude.{◌≡◌, ◌≤◌, ◌+◌, ◌++◌, ℕ, List, [], ◌∷◌, map, false, IfOk, IfSome, Option, Some, Bool, true, is_some}
use Rattle.zone_pools.specs.declared.grant.Grant.{Grant}
use Rattle.zn_base.specs.Names.{Name}
use Rattle.zone_pools.specs.Asked.{A_pid}
use Rattle.zone_pools.specs.Decisions as decisions
use Rattle.zoneadmd_steps.specs.Arrivals.{A_process, A_record, record_asked}
use Rattle.zone_cases.specs.State.Decisions.{Decision, answers, done_saying, effects, refused, says, tells, turned}
use Rattle.kernel_objects.specs.Processes.{process_of}
use Rattle.zone_cases.specs.declared.replies.Body.TheVariants.{Child, Why}
use Rattle.zoneadmd_steps.specs.Code.Cases.{IsNamedTurn, IsNumberedTurn, IsTurnOf, object_edits, turn_decision_of, turn_active, IsFreeFor, turn_objects}
use Rattle.zoneadmd_steps.specs.Code.Desks.{as_desk}
use Rattle.zone_cases.specs.State.Edits as edits
use Rattle.zone_cases.specs.State.Edits.{Here, Of_console, Of_objects, Set_desk}
use Rattle.zone_cases.specs.State.{Awaiting, Logged_in}
use Rattle.zoneadmd_steps.specs.Desks.{is_full, with_request}
use Rattle.zone_cases.specs.declared.cases.Case.{Case}
use Rattle.zone_config.specs.declared.terms.Contents.{Contents}
use Rattle.zone_cases.specs.declared.cases.Committer.{Committer}
use Rattle.zone_cases.specs.declared.cases.Committer.TheVariants.{Alone, GoesOn, Leaves}
use Rattle.zone_cases.specs.declared.cases.Case.TheVariants.{Answers, AtConsole, Change, Commit, Enter, Fork, Login, Says, Put, Remove, Sit, Tells, Turn, Write}
use Rattle.zone_cases.specs.declared.cases.Manner.{Manner}
use Rattle.zone_cases.specs.declared.cases.Manner.TheVariants.{Plain, Status}
use Rattle.zone_cases.specs.declared.cases.Novelty.{Novelty}
use Rattle.zone_cases.specs.declared.cases.Novelty.TheVariants as novelty
use Rattle.zone_cases.specs.Session.Commits.{Alone as Alone_line, Goes_on, Leaves as Leaves_then, Typist, goes_over, places_for, refuses, removes, telling}
use Rattle.zone_cases.specs.Code.Consoles.{console_edits}
use Rattle.zone_cases.specs.Code.Errands.{errand_effect}
use Rattle.zone_cases.specs.Session.Logins.{goes_after}
use Rattle.zone_cases.specs.declared.cases.Errand.{Errand}
use Rattle.zone_cases.specs.declared.cases.Errand.TheVariants.{Does, Writes}
use Rattle.zone_cases.specs.Code.Doings.{sits}
use Rattle.zn_base.specs.declared.state.ZoneState.{ZoneState}
use Rattle.zoneadmd_steps.specs.declared.desks.Desk.{Desk}
use Rattle.commit_journal.specs.Uuids.{uuid_of}
use Rattle.commit_journal.specs.declared.records.Record as records
use Rattle.config_terms.specs.Fields.{path_text}
use Rattle.zone_cases.specs.declared.replies.Head.{Head}
use Rattle.zone_cases.specs.declared.replies.Head.TheVariants.{Ok, Refused, Status as Status_is, Ticket}
use Rattle.zone_cases.specs.declared.replies.Refusal.{Refusal}
use Rattle.zone_cases.specs.declared.replies.Reply.{Reply}
use Rattle.zone_cases.specs.declared.replies.Refusal.TheVariants.{Denied}
use Rattle.zone_cases.specs.Code.Cells.{Outside, cell_world}
use Rattle.zone_cases.specs.State.Worlds.{View, view_of}
use Rattle.zone_cases.specs.declared.cell.Cell.{Cell}
use Rattle.zone_cases.specs.declared.cases.ConsoleEdit.{ConsoleEdit}
use Rattle.zone_cases.specs.declared.cases.ConsoleEdit.TheVariants.{Line, Nothing as No_edit}
use Rattle.zoneadmd_steps.specs.declared.objects.changes.ObjectEdit.{ObjectEdit}
use Rattle.zoneadmd_steps.specs.declared.objects.changes.ObjectEdit.TheVariants.{Nothing}
use Rattle.loopback_mounts.specs.declared.mount.MountEntry.{MountEntry}
use Rattle.datalink_table.specs.declared.claims.Claim.{Claim}

-- the record of a commit under its number, by what is new: a new zone takes its UUID from it too
abbrev pub numbered_row : Novelty → Name → records.Record → ℕ → records.Record
numbered_row novelty.Zone z row n = record row { uuid = uuid_of z n; revision = n }
numbered_row novelty.Path z row n = record row { revision = n }
numbered_row novelty.Nothing z row n = record row { revision = n }

-- who commits, or removes a zone
abbrev pub as_typist : Committer → Typist
as_typist Alone = Alone_line
as_typist (GoesOn seat base) = Goes_on seat.editor
as_typist (Leaves seat) = Leaves_then seat.editor

-- the configuration that its session has for a base then, where it goes on
abbrev pub base_by : Committer → Contents → Contents
base_by (GoesOn seat base) config = base
base_by _ config = config

-- its session is one of z
abbrev pub IsNamedCommitter : Name → Committer → Type 0
IsNamedCommitter z Alone = Unit {0}
IsNamedCommitter z (GoesOn seat base) = seat.owner ≡ z
IsNamedCommitter z (Leaves seat) = seat.owner ≡ z

-- a configuration is committed, and its record takes its number from the grant
abbrev pub made : Novelty → Name → records.Record → List (List ℕ) → Committer → Decision
made new z row told c =
    decisions.Ask (A_record (λ n. Some (numbered_row new z row n)))
    (places_for new (path_text row.config.zonepath) ++ record_asked (λ n. Some (numbered_row new z row n)) ∷ [])
    (λ pool. refuses (as_typist c) (Denied pool) told) (λ n. telling (goes_over (base_by c row.config) n (as_typist c)) Ok told)

-- how it is answered that something is done, or refused
abbrev pub done_head : Manner → Head
done_head Plain = Ok
done_head (Status n) = Status_is n

abbrev pub refused_reply : Manner → Refusal → Reply
refused_reply Plain why = says (Refused why)
refused_reply (Status n) why = record { head = Status_is 1; body = Why why }

-- what an event decides
abbrev pub decision_of : Desk → Case → Decision
decision_of d (Says head) = decisions.Just (done_saying [] head)
decision_of d (Tells body) = decisions.Just (tells body)
decision_of d (Change edit m) = decisions.Just (done_saying (map Of_objects (object_edits edit)) (done_head m))
decision_of d (Fork p m) =
    decisions.Ask (A_process (process_of (0, p.value))) (A_pid ∷ []) (λ pool. answers (refused_reply m (Denied pool))) (λ n. answers (record { head = done_head m; body = Child n }))
decision_of d (Write line m) = decisions.Just (done_saying (Of_console (edits.Line line) ∷ []) (done_head m))
decision_of d (Login l) =
    decisions.Ask (A_process (process_of (0, l.value.running))) (A_pid ∷ []) (λ pool. refused (Denied pool)) (λ n. done_saying (Here (Some (Logged_in n l.value.escape)) ∷ []) Ok)
decision_of d (Enter e) =
    decisions.Ask (A_process (process_of (0, e.value.running))) (A_pid ∷ []) (λ pool. refused (Denied pool)) (λ n. goes_after n (errand_effect n e.value.errand))
decision_of d (AtConsole c) = decisions.Just (record { edits = sits c.value.sitting ++ console_edits c.value.edit; reply = c.value.reply })
decision_of d (Answers reply) = decisions.Just (record { edits = []; reply = reply.value })
decision_of d (Sit s) = decisions.Just (record { edits = sits (Some s.value.sitting); reply = s.value.reply })
decision_of d (Commit c) = made c.value.novelty c.value.owner c.value.row.value c.value.told c.value.committer
decision_of d (Remove r) = removes r.value.told (as_typist r.value.committer)
decision_of d (Put request owner) =
    decisions.Just (done_saying (Set_desk (with_request (as_desk d) request) ∷ Here (Some (Awaiting (d.last + 1))) ∷ []) (Ticket (d.last + 1)))
decision_of d (Turn c) = effects turned (turn_decision_of d c)

abbrev pub IsCaseOf : Desk → Case → Type 0
IsCaseOf d (Put request owner) = is_full (as_desk d) ≡ false
IsCaseOf d (Turn c) = IsTurnOf d c
IsCaseOf d _ = Unit {0}

-- the grant of a case with a new record gives it a number from 1 on
abbrev pub IsNumbered : Case → Grant → Type 0
IsNumbered (Commit c) g = IfOk (decisions.number_in g) (λ n. 1 ≤ n)
IsNumbered (Turn c) g = IsNumberedTurn c g
IsNumbered _ g = Unit {0}

-- what a call comes to is told as it is
abbrev pub IsCallCase : Case → Type 0
IsCallCase (Says head) = Unit {0}
IsCallCase (Tells body) = Unit {0}
IsCallCase (Change edit m) = m ≡ Plain
IsCallCase (Fork p m) = m ≡ Plain
IsCallCase (Write line m) = m ≡ Plain
IsCallCase _ = ⊥

abbrev pub IsNamedCase : Name → Case → Type 0
IsNamedCase z (Sit s) = s.value.sitting.owner ≡ z
IsNamedCase z (Commit c) = (c.value.owner ≡ z) × IsNamedCommitter z c.value.committer
IsNamedCase z (Remove r) = (r.value.owner ≡ z) × IsNamedCommitter z r.value.committer
IsNamedCase z (Put request owner) = owner ≡ z
IsNamedCase z (Login l) = l.value.owner ≡ z
IsNamedCase z (AtConsole c) = IfSome c.value.sitting (λ s. s.owner ≡ z)
IsNamedCase z (Turn c) = IsNamedTurn z c
IsNamedCase z _ = Unit {0}

-- the zone's state on its desk after a case
abbrev pub case_active : Case → Option ZoneState → Option ZoneState
case_active (Turn c) active = turn_active c active
case_active _ active = active

abbrev pub errand_objects : Errand → ObjectEdit
errand_objects (Does objects) = objects
errand_objects _ = Nothing

-- what becomes of the zone's objects
abbrev pub objects_of : Case → ObjectEdit
objects_of (Turn c) = turn_objects c
objects_of (Change edit m) = edit
objects_of (Enter e) = errand_objects e.value.errand
objects_of _ = Nothing

-- a case that mounts nothing, or what nothing refuses, and by which nothing goes as the last that isn't
abbrev pub IsFreeCase : Case → List MountEntry → List Claim → Type 0
IsFreeCase c ms cs = IsFreeFor (objects_of c) ms cs

abbrev pub MountsNothing : Case → Type 0
MountsNothing c = (ms : List MountEntry) (cs : List Claim) → IsFreeCase c ms cs

-- a case of z's cell, of what is decided in its view
pub record IsCaseIn (z : Name) (out : Outside) (c : Cell) (decides : View → Decision) (case : Case) : Type 0 where
  pub decided : decides (view_of z (cell_world out c)) ≡ decision_of c.desk case
  pub of : IsCaseOf c.desk case
  pub named : IsNamedCase z case
  pub free : IsFreeCase case c.mounts.list c.claims.claims

-- whether what its session does in the zone may change
abbrev pub seats_committer : Committer → Bool
seats_committer Alone = false
seats_committer (GoesOn seat base) = true
seats_committer (Leaves seat) = true

abbrev pub seats : Case → Bool
seats (Put request owner) = true
seats (Login l) = true
seats (AtConsole c) = is_some c.value.sitting
seats (Sit s) = true
seats (Commit c) = seats_committer c.value.committer
seats (Remove r) = seats_committer r.value.committer
seats _ = false

abbrev pub errand_console : Errand → ConsoleEdit
errand_console (Writes line) = Line line
errand_console _ = No_edit

-- what becomes of the console
abbrev pub console_of_case : Case → ConsoleEdit
console_of_case (Write line m) = Line line
console_of_case (AtConsole c) = c.value.edit
console_of_case (Enter e) = errand_console e.value.errand
console_of_case _ = No_edit
