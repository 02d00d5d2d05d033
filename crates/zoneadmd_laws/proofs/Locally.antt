-- Local turns.
use Rattle.brand_hooks.specs.Brands.{Tabled, answer_of}
use Rattle.brand_hooks.specs.declared.change.Change.{Change}
use Rattle.brand_hooks.specs.declared.table.HookAnswer.TheVariants.{Proceed, Refuse}
use Rattle.brand_hooks.specs.declared.table.HookAnswer.{HookAnswer}
use Rattle.commit_journal.specs.declared.records.Record.{Record}
use Rattle.config_terms.specs.declared.fault.ConfigFault.{ConfigFault}
use Rattle.datalink_table.specs.declared.claims.Claim.{Claim}
use Rattle.kernel_objects.specs.declared.objects.Id.{Id}
use Rattle.loopback_mounts.specs.Mounts.{before, is_at, is_held, last_of, mount_answer, mount_at}
use Rattle.loopback_mounts.specs.declared.mount.Mount.{Mount}
use Rattle.loopback_mounts.specs.declared.mount.MountEntry.{MountEntry}
use Rattle.std.proofs.Common.{Result, Ok, Err}
use Rattle.std.proofs.Common.{is_ok, map, ◌∙◌}
use Rattle.std.proofs.Common.{◌≡◌, ℕ, List, [], ◌∷◌, Bool, true, false, is_some, Option, Some, None, if◌then◌else◌, ap, sym, refl, subst, true≢false}
use Rattle.std.specs.List.{list_all}
use Rattle.zn_base.specs.declared.state.ZoneState.{ZoneState}
use Rattle.zone_config.specs.declared.terms.Contents.{Contents}
use Rattle.zone_pools.specs.Decisions.{Just}
use Rattle.zone_pools.specs.Owned_lists.{Go, Put}
use Rattle.zone_pools.specs.declared.grant.Grant.{Grant}
use Rattle.zoneadmd_laws.proofs.Answering.{In, J, Kept, at_job, in_after, is_at_job, on_next, on_undo}
use Rattle.zoneadmd_laws.proofs.Telling.{and_left, and_right}
use Rattle.zoneadmd_laws.specs.Afters.{After, after, done, edit, edits}
use Rattle.zoneadmd_laws.specs.Common.{common}
use Rattle.zoneadmd_steps.specs.Configs.{fs_mount, root_dir, root_mount, with_zonepath}
use Rattle.zoneadmd_steps.specs.Desks.{Desk, Fails, Goes, Job, Progress, Stage, state_now}
use Rattle.zoneadmd_steps.specs.Local.{is_local_reply, is_local_undo, is_of_own}
use Rattle.zoneadmd_steps.specs.Objects.{Devices_are, Ids_change, Object_edit, Objects, Of_mounts, keeping_zid}
use Rattle.zoneadmd_steps.specs.Turns.{A_claim_left, A_mount, A_step, Next, Nothing_left, Seen, Turned, claim_or, hooked, local_job, local_next, local_stage, local_step, local_turn, local_undo, mount_or, mounting, new_path, next, next_request, or_shared, over, record_config, record_moved, record_state, shared_turn, started, stuck, turn, undo_mount, undone, unmount_last}
use Rattle.zoneadmd_steps.specs.declared.requests.Outcome.{Outcome}
use Rattle.zoneadmd_steps.specs.declared.requests.Request.TheVariants as request
use Rattle.zoneadmd_steps.specs.declared.requests.Request.{Request}
use Rattle.zoneadmd_steps.specs.declared.requests.Step.TheVariants as step
use Rattle.zoneadmd_steps.specs.declared.requests.Step.{Step}

-- a local turn is the turn, and so asks for nothing
pub local_is_turn : (v : Seen) (t : Turned) → local_turn v.brands v.objects v.desk ≡ Some t → turn v ≡ Just t
unfolding turn
local_is_turn v t h = ap (or_shared (shared_turn v v.desk.job)) h

-- it changes what is the zone's own, and of the desk the request under way
abbrev pub Owns : Desk → Turned → Type 0
Owns d t = (list_all is_of_own t.objects ≡ true) × (t.ended ≡ None) × (t.desk ≡ record d { job = t.desk.job })

abbrev May_own : Desk → Option Turned → Type 0
May_own d None = Unit {0}
May_own d (Some t) = Owns d t

mounting_own : (m : Mount) (ms : List MountEntry) → list_all is_of_own (mounting m ms) ≡ true
mounting_own m ms = go (is_ok (mount_answer m.dir ms))
  where
    go : (b : Bool) → list_all is_of_own (if b then Of_mounts (Put (before m.dir) (record { mount = m; held = false })) ∷ [] else []) ≡ true
    go true = refl
    go false = refl

hook_owns : (d : Desk) (j : Job) (rest : List Step) (change : Change) (answer : HookAnswer) → Owns d (hooked d j rest change answer)
hook_owns d j rest change Proceed = (refl, refl, refl)
hook_owns d j rest change (Refuse code) = (refl, refl, refl)

step_owns : (brands : List Tabled) (o : Objects) (d : Desk) (j : Job) (rest : List Step) (s : Step) → May_own d (local_step brands o d j rest s)
step_owns brands o d j rest (step.Hook change) = hook_owns d j rest change (answer_of brands j.brand change)
step_owns brands o d j rest step.Limits = (refl, refl, refl)
step_owns brands o d j rest (step.Copy k) = (refl, refl, refl)
step_owns brands o d j rest (step.Erase k) = (refl, refl, refl)
step_owns brands o d j rest step.Root = (mounting_own (root_mount j.config) o.mounts, refl, refl)
step_owns brands o d j rest (step.Mounted dir) = (mounting_own (fs_mount j.config dir) o.mounts, refl, refl)
step_owns brands o d j rest _ = tt

unmount_owns : (d : Desk) (j : Job) (left : List Step) (m : MountEntry) → Owns d (unmount_last d j left m)
unmount_owns d j left m = go m.held
  where
    go : (b : Bool) → Owns d (unmount_last d j left (record m { held = b }))
    go true = (refl, refl, refl)
    go false = (refl, refl, refl)

next_owns : (brands : List Tabled) (o : Objects) (d : Desk) (j : Job) (n : Next) → May_own d (local_next brands o d j n)
next_owns brands o d j Nothing_left = tt
next_owns brands o d j (A_step s rest) = step_owns brands o d j rest s
next_owns brands o d j (A_mount m left) = unmount_owns d j left m
next_owns brands o d j (A_claim_left c left) = tt

undo_mount_owns : (o : Objects) (d : Desk) (j : Job) (e : Outcome) (rest : List Step) (dir : List ℕ) (s : Step) → Owns d (undo_mount o d j e rest dir s)
undo_mount_owns o d j e rest dir s = go (is_held (mount_at dir o.mounts))
  where
    go : (b : Bool) → Owns d (if b then stuck d else undone d j e rest (Of_mounts (Go (is_at dir)) ∷ []) s)
    go true = (refl, refl, refl)
    go false = (refl, refl, refl)

undo_owns : (o : Objects) (d : Desk) (j : Job) (e : Outcome) (rest : List Step) (s : Step) → May_own d (local_undo o d j e rest s)
undo_owns o d j e rest step.Limits = (refl, refl, refl)
undo_owns o d j e rest (step.Devices n) = (refl, refl, refl)
undo_owns o d j e rest step.Root = undo_mount_owns o d j e rest root_dir step.Root
undo_owns o d j e rest (step.Mounted dir) = undo_mount_owns o d j e rest dir (step.Mounted dir)
undo_owns o d j e rest _ = tt

stage_owns : (brands : List Tabled) (o : Objects) (d : Desk) (j : Job) (stage : Stage) → May_own d (local_stage brands o d j stage)
stage_owns brands o d j (Goes left) = next_owns brands o d j (next o left)
stage_owns brands o d j (Fails e []) = tt
stage_owns brands o d j (Fails e (s ∷ rest)) = undo_owns o d j e rest s

job_owns : (brands : List Tabled) (o : Objects) (d : Desk) (j : Option Job) → May_own d (local_job brands o d j)
job_owns brands o d None = tt
job_owns brands o d (Some j) = stage_owns brands o d j j.stage

pub local_owns : (brands : List Tabled) (o : Objects) (d : Desk) (t : Turned) → local_turn brands o d ≡ Some t → Owns d t
unfolding local_turn
local_owns brands o d t h = subst (May_own d) h (job_owns brands o d d.job)

-- such edits leave what zones share
zid_kept : (f : Id → Id) (is : List Id) → map (λ i. i.zid) (map (keeping_zid f) is) ≡ map (λ i. i.zid) is
zid_kept f [] = refl
zid_kept f (i ∷ is) = ap (λ ns. i.zid ∷ ns) (zid_kept f is)

pub record Left (o p : Objects) : Type 0 where
  pub processes : p.processes ≡ o.processes
  pub claims : p.claims ≡ o.claims
  pub zids : map (λ i. i.zid) p.ids ≡ map (λ i. i.zid) o.ids

edit_leaves : (e : Object_edit) (o : Objects) → is_of_own e ≡ true → Left o (edit e o)
edit_leaves (Of_mounts e) o h = record { processes = refl; claims = refl; zids = refl }
edit_leaves (Devices_are ds) o h = record { processes = refl; claims = refl; zids = refl }
edit_leaves (Ids_change f) o h = record { processes = refl; claims = refl; zids = zid_kept f o.ids }
edit_leaves _ o h = absurd (true≢false (sym h))

edits_leave : (es : List Object_edit) (o : Objects) → list_all is_of_own es ≡ true → Left o (edits es o)
edits_leave [] o h = record { processes = refl; claims = refl; zids = refl }
edits_leave (e ∷ es) o h =
    let x = edit_leaves e o (and_left _ _ h) in
    let y = edits_leave es (edit e o) (and_right _ _ h) in
    record { processes = y.processes ∙ x.processes; claims = y.claims ∙ x.claims; zids = y.zids ∙ x.zids }

pub local_leaves : (v : Seen) (t : Turned) → local_turn v.brands v.objects v.desk ≡ Some t → common (done t v).seen ≡ common v
local_leaves v t h =
    let is = local_owns v.brands v.objects v.desk t h in
    let x = edits_leave t.objects v.objects is.0 in
    λ i. record { pids = map (λ p. p.pid) (x.processes i); zids = x.zids i; claims = x.claims i; active = (ap (λ (d : Desk). d.active) is.2) i; stored = v.stored }

-- exactly the local turns tell what is local
abbrev Tells_local : Bool → After → Type 0
Tells_local b a = b ≡ is_local_reply a.reply

-- a next step is no unmount and no release
abbrev pub is_plain : Next → Bool
is_plain (A_step (step.Unmount d) rest) = false
is_plain (A_step (step.Release c) rest) = false
is_plain n = true

pub next_plain : (w : Objects) (left : List Step) → is_plain (next w left) ≡ true
next_plain w [] = refl
next_plain w (step.Unmount d ∷ rest) = go (last_of w.mounts) (next_plain w rest)
  where
    go : (o : Option MountEntry) → is_plain (next w rest) ≡ true → is_plain (mount_or (step.Unmount d ∷ rest) (next w rest) o) ≡ true
    go None h = h
    go (Some m) h = refl
next_plain w (step.Release c ∷ rest) = go (last_of w.claims) (next_plain w rest)
  where
    go : (o : Option Claim) → is_plain (next w rest) ≡ true → is_plain (claim_or (step.Release c ∷ rest) (next w rest) o) ≡ true
    go None h = h
    go (Some c) h = refl
next_plain w (_ ∷ rest) = refl

hook_tells : (d : Desk) (j : Job) (rest : List Step) (change : Change) (answer : HookAnswer) (w : Seen) → In (Tells_local true) w (Just (hooked d j rest change answer))
hook_tells d j rest change Proceed w = refl
hook_tells d j rest change (Refuse code) w = refl

state_tells : (d : Desk) (j : Job) (rest : List Step) (s : ZoneState) (row : Option Record) (w : Seen) → In (Tells_local false) w (record_state d j rest s row)
state_tells d j rest s None w = refl
state_tells d j rest s (Some row) w = (λ p. refl, λ n. refl)

moved_tells : (d : Desk) (j : Job) (rest : List Step) (path : List ℕ) (row : Option Record) (w : Seen) → In (Tells_local false) w (record_moved d j rest path row)
moved_tells d j rest path None w = refl
moved_tells d j rest path (Some row) w = at_config (with_zonepath path row.config)
  where
    at_config : (c : Result Contents ConfigFault) → In (Tells_local false) w (record_config d j rest path row c)
    at_config (Err f) = refl
    at_config (Ok config) = (λ p. refl, λ n. refl)

start_tells : (brands : List Tabled) (d : Desk) (t : ℕ) (r : Request) (s : ZoneState) (row : Record) (o : Option Outcome) (w : Seen) → In (Tells_local false) w (Just (started brands d t r s row o))
start_tells brands d t r s row None w = refl
start_tells brands d t r s row (Some o) w = refl

over_tells : (brands : List Tabled) (d : Desk) (j : Job) (row : Option Record) (r : Request) (w : Seen) → In (Tells_local false) w (over brands d j row r)
over_tells brands d j (Some row) (request.Reboot args) w = start_tells brands d j.ticket (request.Boot args) (state_now row d) row _ w
over_tells brands d j None r w = refl
over_tells brands d j (Some row) r w = refl

step_tells : (w : Seen) (j : Job) (s : Step) (rest : List Step) → is_plain (A_step s rest) ≡ true
    → In (Tells_local (is_some (local_next w.brands w.objects w.desk j (A_step s rest)))) w (on_next w j (A_step s rest))
step_tells w j (step.Hook change) rest h = hook_tells w.desk j rest change (answer_of w.brands j.brand change) w
step_tells w j (step.Record s) rest h = state_tells w.desk j rest s w.stored w
step_tells w j step.Moved rest h = moved_tells w.desk j rest (new_path j.request) w.stored w
step_tells w j (step.Source z) rest h = (λ p. refl, λ n. refl)
step_tells w j (step.Zid o) rest h = (λ p. refl, λ n. refl)
step_tells w j (step.Claimed c) rest h = (λ p. refl, λ n. refl)
step_tells w j (step.Init o) rest h = (λ p. refl, λ n. refl)
step_tells w j (step.Unmount d) rest h = absurd (true≢false (sym h))
step_tells w j (step.Release c) rest h = absurd (true≢false (sym h))
step_tells w j _ rest h = refl

mount_tells : (d : Desk) (j : Job) (left : List Step) (m : MountEntry) (w : Seen) → In (Tells_local true) w (Just (unmount_last d j left m))
mount_tells d j left m w = go m.held
  where
    go : (b : Bool) → In (Tells_local true) w (Just (unmount_last d j left (record m { held = b })))
    go true = refl
    go false = refl

next_tells : (w : Seen) (j : Job) (n : Next) → is_plain n ≡ true → In (Tells_local (is_some (local_next w.brands w.objects w.desk j n))) w (on_next w j n)
next_tells w j Nothing_left h = over_tells w.brands w.desk j w.stored j.request w
next_tells w j (A_step s rest) h = step_tells w j s rest h
next_tells w j (A_mount m left) h = mount_tells w.desk j left m w
next_tells w j (A_claim_left c left) h = refl

undo_mount_tells : (w : Seen) (j : Job) (o : Outcome) (rest : List Step) (dir : List ℕ) (s : Step) → is_local_undo s ≡ true → In (Tells_local true) w (Just (undo_mount w.objects w.desk j o rest dir s))
undo_mount_tells w j o rest dir s h = go (is_held (mount_at dir w.objects.mounts))
  where
    go : (b : Bool) → In (Tells_local true) w (Just (if b then stuck w.desk else undone w.desk j o rest (Of_mounts (Go (is_at dir)) ∷ []) s))
    go true = refl
    go false = sym h

undo_tells : (w : Seen) (j : Job) (o : Outcome) (rest : List Step) (s : Step) → In (Tells_local (is_some (local_undo w.objects w.desk j o rest s))) w (on_undo w j o rest s)
undo_tells w j o rest step.Root = undo_mount_tells w j o rest root_dir step.Root refl
undo_tells w j o rest (step.Mounted dir) = undo_mount_tells w j o rest dir (step.Mounted dir) refl
undo_tells w j o rest _ = refl

stage_tells : (w : Seen) (t : ℕ) (r : Request) (c : Kept) (dn : Progress) (stage : Stage)
    → let v = at_job w (J t r c dn stage) in In (Tells_local (is_some (local_turn v.brands v.objects v.desk))) v (turn v)
unfolding local_turn turn
stage_tells w t r c dn (Goes left) = let v = at_job w (J t r c dn (Goes left)) in next_tells v (J t r c dn (Goes left)) (next v.objects left) (next_plain v.objects left)
stage_tells w t r c dn (Fails o []) = refl
stage_tells w t r c dn (Fails o (s ∷ rest)) = undo_tells (at_job w (J t r c dn (Fails o (s ∷ rest)))) (J t r c dn (Fails o (s ∷ rest))) o rest s

waiting_tells : (brands : List Tabled) (d : Desk) (rs : List (ℕ × Request)) (row : Option Record) (w : Seen) → In (Tells_local false) w (next_request brands d rs row)
waiting_tells brands d (r ∷ rs) (Some row) w = start_tells brands (record d { waiting = rs }) r.0 r.1 (state_now row d) row _ w
waiting_tells brands d (r ∷ rs) None w = refl
waiting_tells brands d [] row w = refl

-- a zone with no request under way
abbrev pub at_rest : Seen → Seen
at_rest w = record w { desk = record w.desk { job = None } }

rest_tells : (w : Seen) → let v = at_rest w in In (Tells_local (is_some (local_turn v.brands v.objects v.desk))) v (turn v)
unfolding local_turn turn
rest_tells w = waiting_tells w.brands (at_rest w).desk w.desk.waiting w.stored (at_rest w)

pub local_told : (w : Seen) (g : Grant) → is_some (local_turn w.brands w.objects w.desk) ≡ is_local_reply (after (turn w) g w).reply
local_told w g = go w.desk.job refl
  where
    go : (o : Option Job) → w.desk.job ≡ o → is_some (local_turn w.brands w.objects w.desk) ≡ is_local_reply (after (turn w) g w).reply
    go None e =
        let same : w ≡ at_rest w = λ i. record w { desk = record w.desk { job = e i } } in
        subst (λ v. is_some (local_turn v.brands v.objects v.desk) ≡ is_local_reply (after (turn v) g v).reply) (sym same)
        (in_after (Tells_local (is_some (local_turn w.brands (at_rest w).objects (at_rest w).desk))) (at_rest w) (turn (at_rest w)) g (rest_tells w))
    go (Some j) e =
        subst (λ v. is_some (local_turn v.brands v.objects v.desk) ≡ is_local_reply (after (turn v) g v).reply) (sym (is_at_job w j e))
        (in_after (Tells_local (is_some (local_turn w.brands (at_job w j).objects (at_job w j).desk))) (at_job w j) (turn (at_job w j)) g (stage_tells w j.ticket j.request (j.brand, j.config) j.done j.stage))
