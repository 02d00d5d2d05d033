-- What a cell and the shared part stand for, and what they stand for after an event of the cell's zone.
use Rattle.brand_hooks.specs.Brands.{Tabled}
use Rattle.datalink_table.specs.Claims.{holds}
use Rattle.datalink_table.specs.Shared as claims
use Rattle.datalink_table.specs.declared.claims.Claim.{Claim}
use Rattle.kernel_objects.specs.declared.objects.Id.{Id}
use Rattle.zoneadmd_steps.specs.Objects.{ids_of}
use Rattle.zone_pools.specs.declared.owned.Owned.{Owned}
use Rattle.zone_pools.specs.Firsts.{first_of}
use Rattle.kernel_objects.specs.Shared.{Shared as Kernel, pid_owner, zid_owner}
use Rattle.kernel_objects.specs.Processes.{Process, has_pid}
use Rattle.std.proofs.Common.{◌≡◌, [], ℕ, Bool, Option, Some, None, true, false, inl, inr, length, refl, ap, sym, subst, ◌∙◌, IfSome, List}
use Rattle.indexmap.specs.IndexMap.{get}
use Rattle.std.specs.Map.{lookup}
use Rattle.std.specs.Prelude.{bytes_eq, is_some, nat_eq, filter, unwrap_or}
use Rattle.std.specs.List.{list_any}
use Rattle.std.proofs.lemmas.Bool.{true≢false}
use Rattle.zone_pools.proofs.Owned_laws.{same_self, same_true}
use Rattle.zn_base.specs.Names.{Name}
use Rattle.zone_pools.specs.declared.grant.Grant.{Grant}
use Rattle.zone_pools.specs.Owners.{held_by, is_owner, owner}
use Rattle.commit_journal.proofs.Zones.{row_is}
use Rattle.commit_journal.specs.Store.{row_of}
use Rattle.commit_journal.specs.Stored.{stored as stored_by}
use Rattle.commit_journal.specs.Zones.{rows_of}
use Rattle.commit_journal.specs.declared.records.Commit.{Commit}
use Rattle.zone_machine.proofs.Common_laws.{common-acts, has_it, holder-none, holder-one}
use Rattle.zone_machine.proofs.Doing_laws.{holds_doing}
use Rattle.zone_machine.proofs.Acts_laws.{own-acts}
use Rattle.zone_machine.proofs.Own_worlds.{own_session, view-world}
use Rattle.zone_machine.specs.Code.Cells.{Acts, Agree, SharedOf, declared_in, is_up_in, outside_in, row_in}
use Rattle.zone_cases.specs.Code.Cells.{CellOf, Outside, Shows, cell_world, outside_of}
use Rattle.zone_machine.specs.Code.Reads.{decide_in, subject_at, subject_in, held_subject, idle_subject}
use Rattle.zone_machine.specs.Machine.Common.{Common, acts_common, came_common, common}
use Rattle.zone_cases.specs.State.Decisions.{Act, act_of, acts_world}
use Rattle.zone_cases.specs.Session.Lines.{Line, line_of, Command, Kill}
use Rattle.zone_machine.specs.Machine.{decide, done_by, opening, one, one_of, session_number, session_subject, subject, holder, line_subject}
use Rattle.zone_cases.specs.State as state
use Rattle.zone_cases.specs.State.Declarations.{Declared}
use Rattle.zone_cases.specs.State.{State, bytes_used, stored}
use Rattle.zone_machine.specs.Code.Cell_steps.{IsCellStep}
use Rattle.zone_cases.specs.State.Worlds.{World, doing, view, view_of, world}
use Rattle.zone_cases.specs.declared.cell.Cell.{Cell}
use Rattle.zone_cases.specs.declared.events.Event.{Event}
use Rattle.zone_cases.specs.declared.events.Event.TheVariants as event
use Rattle.zone_cases.specs.declared.events.Subject.{Subject}
use Rattle.zone_cases.specs.declared.events.Subject.TheVariants.{Zone}
use Rattle.zone_cases.specs.declared.replies.Reply.{Reply}
use Rattle.zone_machine.specs.declared.machine.shared.Shared.{Shared}
use Rattle.zoneadmd_steps.specs.Objects.{has_zid}
use Rattle.zone_cases.specs.Code.Cases.{decision_of}
use Rattle.zone_machine.specs.Code.Rooms.{IsOpenTo}
use Rattle.zone_cases.specs.declared.cases.Case.{Case}

-- what is stored of a zone is its row of the shared part
pub stored-stands : (S : State) (s : Shared) (z : Name) → SharedOf s (common S) → stored z S.commits ≡ row_in z s
stored-stands S s z h = ap (λ k. row_of z k.rows) h ∙ row_is z s.rows.entries

-- what a world has beside its cell is the shared part's
pub outside-stands : (S : State) (s : Shared) (z : Name) → SharedOf s (common S) → outside_of (world z S) ≡ outside_in z s
outside-stands S s z h = λ i. record { stored = stored-stands S s z h i; declared = (h i).declared; brands = (h i).brands }

-- so a cell has its zone's world with that
pub cell-stands : (z : Name) (S : State) (c : Cell) (s : Shared) → CellOf c (world z S) → SharedOf s (common S) → world z S ≡ cell_world (outside_in z s) c
cell-stands z S c s cell shared = cell ∙ ap (λ out. cell_world out c) (outside-stands S s z shared)

pub cell-of : (w : World) (out : Outside) (c : Cell) → w ≡ cell_world out c → CellOf c w
cell-of w out c h = h ∙ ap (λ out. cell_world out c) (sym (ap outside_of h))

-- the shared part agrees with each cell
pub agrees : (z : Name) (S : State) (c : Cell) (s : Shared) → CellOf c (world z S) → SharedOf s (common S) → Agree z c s
agrees z S c s cell shared = record {
  pids = λ n. ap (λ w. list_any (has_pid n) w.processes) (sym cell) ∙ ap (λ k. k.pids z n) shared;
  zids = λ n. ap (λ w. list_any (has_zid n) w.ids) (sym cell) ∙ ap (λ k. k.zids z n) shared;
  claims = λ k. ap (λ w. holds k w.claims) (sym cell) ∙ ap (λ c. c.claims z k) shared;
  sessions = λ n. sym (holds_doing (get nat_eq c.doings n)) ∙ (ap (λ w. is_some (w.sessions n)) (sym cell) ∙ ap (λ k. k.sessions z n) shared);
}

-- before any event, and after a restart, nobody holds anything, and no zone is up
held_nowhere : {K : Type 0} (o : K → Option Name) → ((k : K) → o k ≡ None) → (z : Name) (k : K) → false ≡ held_by o z k
held_nowhere o none z k = sym (ap (is_owner z) (none k))

pub begun-shared : (s : Shared) (brands : List Tabled) (R : List Commit) (d : Declared) (started : Bool) → ((n : ℕ) → pid_owner s.kernel n ≡ None) → ((n : ℕ) → zid_owner s.kernel n ≡ None) → ((k : Claim) → claims.holder k s.claims ≡ None)
    → ((n : ℕ) → owner nat_eq s.sessions n ≡ None) → s.ups.entries ≡ [] → stored_by R ≡ rows_of s.rows.entries → length R ≡ s.serial → bytes_used R ≡ s.used → s.kernel.last_pid ≡ 1 → s.kernel.last_zid ≡ 0
    → d ≡ declared_in s → s.brands ≡ brands → s.started ≡ started → SharedOf s (common (record (opening brands R) { declared = d; started = started }))
begun-shared s brands R d started pids zids held sessions ups rows serial used last_pid last_zid declared brands-are began = λ i. record {
  pids = λ z n. held_nowhere (pid_owner s.kernel) pids z n i;
  zids = λ z n. held_nowhere (zid_owner s.kernel) zids z n i;
  claims = λ z k. held_nowhere (λ k. claims.holder k s.claims) held z k i;
  sessions = λ z n. held_nowhere (owner nat_eq s.sessions) sessions z n i;
  up = λ z. unwrap_or (lookup (bytes_eq z) (sym ups i)) false;
  rows = rows i;
  serial = serial i;
  used = used i;
  last_pid = sym last_pid i;
  last_zid = sym last_zid i;
  declared = declared i;
  brands = sym brands-are i;
  started = sym began i;
}

-- whose an event is
module _ (os : List (Owned Process)) (k : Kernel) (held : (z : Name) (n : ℕ) → has_it n z os ≡ is_owner z (pid_owner k n)) where
  holder-stands : (n : ℕ) (o : Option Name) → pid_owner k n ≡ o → holder (first_of (filter (λ o. has_pid n o.it) os)) ≡ held_subject o
  holder-stands n None e = holder-none n os (λ z. held z n ∙ ap (is_owner z) e)
  holder-stands n (Some y) e = holder-one n os y (held y n ∙ (ap (is_owner y) e ∙ same_self y)) (λ z h. same_true z y (sym (ap (is_owner z) e) ∙ (sym (held z n) ∙ h)))

  line-stands : (zone : Option (List ℕ)) (c : Command) → line_subject zone os c ≡ idle_subject zone k c
  line-stands word (Kill signal pid) = holder-stands pid (pid_owner k pid) refl
  line-stands word _ = refl

  session-stands : (line : Line) (m : state.Session) (o : Option Name) → ((z : Name) → is_some (doing z m) ≡ is_owner z o) → session_subject line os m ≡ subject_at line k o
  session-stands line state.Idle None h = line-stands line.zone line.command
  session-stands line (state.At x d) None h = let e : is_some (doing x (state.At x d)) ≡ false = h x in absurd (true≢false (simp (same_self x) at e))
  session-stands line state.Idle (Some y) h = absurd (true≢false (sym (h y ∙ same_self y)))
  session-stands line (state.At x d) (Some y) h = ap Zone (at_zone (bytes_eq x y) refl)
    where
      at_zone : (b : Bool) → bytes_eq x y ≡ b → x ≡ y
      at_zone true e = same_true x y e
      at_zone false e = let f : is_some (doing x (state.At x d)) ≡ bytes_eq x y = h x in absurd (true≢false (simp (same_self x) at f ∙ e))

pub subject-stands : (S : State) (s : Shared) (e : Event) → SharedOf s (common S) → subject S e ≡ subject_in s e
unfolding subject
subject-stands S s (event.Session n text) h =
    session-stands S.processes s.kernel (λ z n. ap (λ k. k.pids z n) h) (line_of text) (S.sessions n) (owner nat_eq s.sessions n) (λ z. ap (λ k. k.sessions z n) h)
subject-stands S s (event.Turn z) h = refl
subject-stands S s (event.Process z pid c) h = refl
subject-stands S s (event.System what) h = refl
subject-stands S s event.Restart h = refl

-- what a view of the cell's zone shows
first_id : (o : Option Id) → first_of (ids_of o) ≡ o
first_id None = refl
first_id (Some i) = refl

pub shows : (z : Name) (out : Outside) (c : Cell) → Shows (view_of z (cell_world out c)) z c
unfolding view_of
shows z out c = record { zone = refl; kernel = λ i. record c.kernel { id = first_id c.kernel.id i }; process = λ n. refl; mounts = refl; claims = refl; devices = refl; console = refl }

-- the case of an event
pub decide-stands : (S : State) (z : Name) (w : World) (e : Event) → world z S ≡ w → decide (view z S) e ≡ decide (view_of z w) e
decide-stands S z w e h = ap (λ v. decide v e) (view-world z S ∙ ap (view_of z) h)

-- the session of an event of z is nobody's or z's
pub open-to : (z : Name) (s : Shared) (e : Event) → subject_in s e ≡ Zone z → IfSome (session_number e) (λ n. IsOpenTo z (owner nat_eq s.sessions n))
open-to z s (event.Turn y) is = tt
open-to z s (event.Process y pid c) is = tt
open-to z s (event.System what) is = tt
open-to z s event.Restart is = tt
open-to z s (event.Session n text) is = at_owner (owner nat_eq s.sessions n) is
  where
    at_owner : (o : Option Name) → subject_at (line_of text) s.kernel o ≡ Zone z → IsOpenTo z o
    at_owner None h = inl refl
    at_owner (Some y) h = inr (ap Some (same h))
      where
        same : Zone y ≡ Zone z → y ≡ z
        same h = cc

-- an event, by its subject
one-of : (S : State) (e : Event) (g : Grant) (s : Subject) → subject S e ≡ s → one S e g ≡ one_of s S e g
unfolding one
one-of S e g s is = ap (λ s. one_of s S e g) is

-- an event of z, whose case on the cell c and the shared part s was done and left d and t
module _ (z : Name) (c d : Cell) (s t : Shared) (e : Event) (g : Grant) (reply : Reply) where
  abbrev done_in : Act
  done_in = act_of (decide_in z (outside_in z s) c e) g

  pub cell-answered : reply ≡ done_in.effect.reply
      → (IfSome (session_number e) (λ n. IsOpenTo z (owner nat_eq s.sessions n)) → Acts z (acts_world (session_number e) done_in) (came_common z done_in.came) c s d t)
      → IsCellStep z c s e g (record { event = e; subject = Zone z; grant = g; reply = reply }) d (record t { started = true })
  cell-answered said done S has shares is =
      let n = session_number e in let w = cell_world (outside_in z s) c in let a = done_in in
      let here : world z S ≡ w = cell-stands z S c s has shares in
      let does = done (open-to z s e (sym (subject-stands S s e shares) ∙ is)) in
      let up : is_up_in s z ≡ is_some c.desk.active = sym (ap (λ (k : Common). k.up z) shares) ∙ ap (λ (x : World). is_some x.desk.active) here in
      let case : decide (view z S) e ≡ decide_in z (outside_in z s) c e = decide-stands S z w e here in
      let steps : one S e g ≡ done_by z n a S = one-of S e g (Zone z) is ∙ ap (λ x. done_by z n (act_of x g) S) case in
      let told : reply ≡ (one S e g).reply = said ∙ ap (λ x. x.reply) (sym steps) in
      let left : world z (done_by z n a S).state ≡ cell_world (outside_in z t) d = own-acts z n a S ∙ (ap (acts_world n a) here ∙ sym (does.world (agrees z S c s has shares))) in
      record {
        told = λ i. record { event = e; subject = sym is i; grant = g; reply = told i };
        cell = subst (λ x. CellOf d (world z x.state)) (sym steps) (cell-of (world z (done_by z n a S).state) (outside_in z t) d left);
        shared = subst (λ x. SharedOf (record t { started = true }) (common x.state)) (sym steps)
            (common-acts z n a S (own_session S e z is) ∙ (ap (λ x. acts_common z n a x (common S)) here
            ∙ (ap (acts_common z n a w) shares ∙ ap (λ (x : Common). record x { started = true }) (sym (does.common (agrees z S c s has shares) up)))));
      }

-- the same, of the case that was decided
module _ (z : Name) (c d : Cell) (s t : Shared) (e : Event) (g : Grant) (reply : Reply) (case : Case) where
  pub answered : decide_in z (outside_in z s) c e ≡ decision_of c.desk case → reply ≡ (act_of (decision_of c.desk case) g).effect.reply
      → (IfSome (session_number e) (λ n. IsOpenTo z (owner nat_eq s.sessions n)) → Acts z (acts_world (session_number e) (act_of (decision_of c.desk case) g)) (came_common z (act_of (decision_of c.desk case) g).came) c s d t)
      → IsCellStep z c s e g (record { event = e; subject = Zone z; grant = g; reply = reply }) d (record t { started = true })
  answered decided said done =
      cell-answered z c d s t e g reply (said ∙ ap (λ x. (act_of x g).effect.reply) (sym decided))
      (λ opens. subst (λ x. Acts z (acts_world (session_number e) (act_of x g)) (came_common z (act_of x g).came) c s d t) (sym decided) (done opens))
