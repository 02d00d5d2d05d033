-- Each turn keeps that a limit of processes isn't 0.
use Rattle.brand_hooks.specs.Brands.{answer_of}
use Rattle.brand_hooks.specs.declared.change.Change.{Change}
use Rattle.brand_hooks.specs.declared.table.HookAnswer.TheVariants.{Proceed, Refuse}
use Rattle.brand_hooks.specs.declared.table.HookAnswer.{HookAnswer}
use Rattle.commit_journal.specs.declared.records.Record.{Record}
use Rattle.config_terms.specs.declared.fault.ConfigFault.{ConfigFault}
use Rattle.kernel_objects.specs.Kernel.{cleared, with_bootargs}
use Rattle.kernel_objects.specs.declared.objects.Id.{Id}
use Rattle.loopback_mounts.specs.Mounts.{before, is_at, is_held, mount_answer, mount_at}
use Rattle.loopback_mounts.specs.declared.mount.Mount.{Mount}
use Rattle.loopback_mounts.specs.declared.mount.MountEntry.{MountEntry}
use Rattle.std.proofs.Common.{Result, Ok, Err}
use Rattle.std.proofs.Common.{is_ok, filter, map, not, ◌&&◌}
use Rattle.std.proofs.Common.{◌≡◌, ℕ, List, [], ◌∷◌, Bool, true, false, Option, Some, None, if◌then◌else◌, ap, sym, refl, subst, ◌∙◌}
use Rattle.zn_base.specs.declared.state.ZoneState.{ZoneState}
use Rattle.zone_config.specs.declared.terms.Contents.{Contents}
use Rattle.zone_pools.specs.Decisions.{Just}
use Rattle.zone_pools.specs.Owned_lists.{Go, Put}
use Rattle.zone_pools.specs.declared.grant.Grant.{Grant}
use Rattle.zoneadmd_laws.proofs.Answering.{In, J, Kept, at_job, in_after, is_at_job, on_next, on_undo}
use Rattle.zoneadmd_laws.proofs.Locally.{at_rest}
use Rattle.zoneadmd_laws.proofs.Moving.{moved_so}
use Rattle.zoneadmd_laws.proofs.Telling.{all_gone, and_left, and_right}
use Rattle.zoneadmd_laws.specs.Afters.{After, after, edits}
use Rattle.zoneadmd_laws.specs.Agreement.{Has_room, has_room, ids_have_room, row_has_room}
use Rattle.zoneadmd_steps.specs.Configs.{fs_mount, limits_by, most_processes, root_dir, root_mount, with_zonepath}
use Rattle.zoneadmd_steps.specs.Desks.{Desk, Fails, Goes, Job, Progress, Stage, state_now}
use Rattle.zoneadmd_steps.specs.Objects.{Objects, Of_mounts, all_of, keeping_zid}
use Rattle.zoneadmd_steps.specs.Turns.{A_claim_left, A_mount, A_step, Next, Nothing_left, Seen, bootargs_of, hooked, local_turn, mounting, new_path, next, next_request, over, record_config, record_moved, record_state, started, stuck, turn, undone, unmount_last}
use Rattle.zoneadmd_steps.specs.declared.requests.Outcome.{Outcome}
use Rattle.zoneadmd_steps.specs.Plans.{kept_of}
use Rattle.zoneadmd_steps.specs.declared.requests.Request.TheVariants as request
use Rattle.zoneadmd_steps.specs.declared.requests.Request.{Request}
use Rattle.zoneadmd_steps.specs.declared.requests.Step.TheVariants as step
use Rattle.zoneadmd_steps.specs.declared.requests.Step.{Step}

room_kept : (f : Id → Id) → ((i : Id) → has_room i.most ≡ true → has_room (f i).most ≡ true) → (is : List Id) → ids_have_room is ≡ true → ids_have_room (map (keeping_zid f) is) ≡ true
room_kept f k [] h = refl
room_kept f k (i ∷ is) h = λ x. k i (and_left _ _ h) x && room_kept f k is (and_right _ _ h) x

limits_room : (c : Contents) (is : List Id) → has_room (most_processes c.rctl) ≡ true → ids_have_room is ≡ true → ids_have_room (map (keeping_zid (limits_by c)) is) ≡ true
limits_room c is h k = room_kept (limits_by c) (λ i r. h) is k

cleared_room : (is : List Id) → ids_have_room is ≡ true → ids_have_room (map (keeping_zid cleared) is) ≡ true
cleared_room is k = room_kept cleared (λ i r. refl) is k

bootargs_room : (args : List ℕ) (is : List Id) → ids_have_room is ≡ true → ids_have_room (map (keeping_zid (with_bootargs args)) is) ≡ true
bootargs_room args is k = room_kept (with_bootargs args) (λ i r. r) is k

gone_room : (is : List Id) → ids_have_room (filter (λ i. not (all_of i)) is) ≡ true
gone_room is = ap ids_have_room (all_gone is)

mounting_room : (m : Mount) (o : Objects) → ids_have_room o.ids ≡ true → ids_have_room (edits (mounting m o.mounts) o).ids ≡ true
mounting_room m o h = go (is_ok (mount_answer m.dir o.mounts))
  where
    go : (b : Bool) → ids_have_room (edits (if b then Of_mounts (Put (before m.dir) (record { mount = m; held = false })) ∷ [] else []) o).ids ≡ true
    go true = h
    go false = h

module _ (v : Seen) (now : Has_room v) where
  abbrev Roomed : After → Type 0
  Roomed a = Has_room a.seen

  kept_room : (r : Request) (c : Contents) → has_room (most_processes c.rctl) ≡ true → has_room (most_processes (kept_of r c).rctl) ≡ true
  kept_room request.Halt c h = refl
  kept_room _ c h = h

  start_roomed : (d : Desk) (t : ℕ) (r : Request) (s : ZoneState) (row : Record) (o : Option Outcome) → v.stored ≡ Some row → In Roomed v (Just (started v.brands d t r s row o))
  start_roomed d t r s row None e = (now.0, kept_room r row.config (ap row_has_room (sym e) ∙ now.2), now.2)
  start_roomed d t r s row (Some o) e = (now.0, refl, now.2)

  waiting_roomed : (rs : List (ℕ × Request)) (row : Option Record) → v.stored ≡ row → In Roomed v (next_request v.brands v.desk rs row)
  waiting_roomed [] row e = now
  waiting_roomed (r ∷ rs) None e = now
  waiting_roomed (r ∷ rs) (Some row) e = start_roomed (record v.desk { waiting = rs }) r.0 r.1 (state_now row v.desk) row _ e

  module _ (j : Job) (room : has_room (most_processes j.config.rctl) ≡ true) where
    hook_roomed : (rest : List Step) (c : Change) (answer : HookAnswer) → In Roomed v (Just (hooked v.desk j rest c answer))
    hook_roomed rest c Proceed = (now.0, room, now.2)
    hook_roomed rest c (Refuse code) = (now.0, room, now.2)

    state_roomed : (rest : List Step) (s : ZoneState) (row : Option Record) → v.stored ≡ row → In Roomed v (record_state v.desk j rest s row)
    state_roomed rest s None e = now
    state_roomed rest s (Some row) e = (λ p. (now.0, room, now.2), λ n. (now.0, room, ap row_has_room (sym e) ∙ now.2))

    moved_roomed : (rest : List Step) (path : List ℕ) (row : Option Record) → v.stored ≡ row → In Roomed v (record_moved v.desk j rest path row)
    moved_roomed rest path None e = now
    moved_roomed rest path (Some row) e = at_config (with_zonepath path row.config) refl
      where
        at_config : (c : Result Contents ConfigFault) → with_zonepath path row.config ≡ c → In Roomed v (record_config v.desk j rest path row c)
        at_config (Err f) is = (now.0, room, now.2)
        at_config (Ok config) is = (λ p. (now.0, room, now.2), λ n. (now.0, room, ap (λ (c : Contents). has_room (most_processes c.rctl)) (sym (moved_so path row.config config is)) ∙ (ap row_has_room (sym e) ∙ now.2)))

    step_roomed : (s : Step) (rest : List Step) → In Roomed v (on_next v j (A_step s rest))
    step_roomed (step.Hook c) rest = hook_roomed rest c (answer_of v.brands j.brand c)
    step_roomed (step.Record s) rest = state_roomed rest s v.stored refl
    step_roomed step.Moved rest = moved_roomed rest (new_path j.request) v.stored refl
    step_roomed (step.Source z) rest = (λ p. (now.0, room, now.2), λ n. (now.0, room, now.2))
    step_roomed (step.Zid o) rest = (λ p. (now.0, room, now.2), λ n. (refl, room, now.2))
    step_roomed (step.Claimed c) rest = (λ p. (now.0, room, now.2), λ n. (now.0, room, now.2))
    step_roomed (step.Init o) rest = (λ p. (now.0, room, now.2), λ n. (bootargs_room (bootargs_of j.request j.config) v.objects.ids now.0, room, now.2))
    step_roomed step.Limits rest = (limits_room j.config v.objects.ids room now.0, room, now.2)
    step_roomed step.Root rest = (mounting_room (root_mount j.config) v.objects now.0, room, now.2)
    step_roomed (step.Mounted d) rest = (mounting_room (fs_mount j.config d) v.objects now.0, room, now.2)
    step_roomed step.Clear rest = (cleared_room v.objects.ids now.0, room, now.2)
    step_roomed (step.ZidBack o) rest = (gone_room v.objects.ids, room, now.2)
    step_roomed _ rest = (now.0, room, now.2)

    over_roomed : (row : Option Record) (r : Request) → v.stored ≡ row → In Roomed v (over v.brands v.desk j row r)
    over_roomed (Some row) (request.Reboot args) e = start_roomed v.desk j.ticket (request.Boot args) (state_now row v.desk) row _ e
    over_roomed None r e = (now.0, refl, now.2)
    over_roomed (Some row) r e = (now.0, refl, now.2)

    mount_roomed : (left : List Step) (m : MountEntry) → In Roomed v (Just (unmount_last v.desk j left m))
    mount_roomed left m = go m.held
      where
        go : (b : Bool) → In Roomed v (Just (unmount_last v.desk j left (record m { held = b })))
        go true = now
        go false = (now.0, room, now.2)

    next_roomed : (n : Next) → In Roomed v (on_next v j n)
    next_roomed Nothing_left = over_roomed v.stored j.request refl
    next_roomed (A_step s rest) = step_roomed s rest
    next_roomed (A_mount m left) = mount_roomed left m
    next_roomed (A_claim_left c left) = (now.0, room, now.2)

    undo_mount_roomed : (o : Outcome) (s : Step) (rest : List Step) (d : List ℕ) (b : Bool) → In Roomed v (Just (if b then stuck v.desk else undone v.desk j o rest (Of_mounts (Go (is_at d)) ∷ []) s))
    undo_mount_roomed o s rest d true = now
    undo_mount_roomed o s rest d false = (now.0, room, now.2)

    undo_roomed : (o : Outcome) (s : Step) (rest : List Step) → In Roomed v (on_undo v j o rest s)
    undo_roomed o step.Root rest = undo_mount_roomed o step.Root rest root_dir (is_held (mount_at root_dir v.objects.mounts))
    undo_roomed o (step.Mounted d) rest = undo_mount_roomed o (step.Mounted d) rest d (is_held (mount_at d v.objects.mounts))
    undo_roomed o (step.Zid n) rest = (gone_room v.objects.ids, room, now.2)
    undo_roomed o step.Limits rest = (cleared_room v.objects.ids now.0, room, now.2)
    undo_roomed o _ rest = (now.0, room, now.2)

stage_roomed : (w : Seen) (t : ℕ) (r : Request) (c : Kept) (dn : Progress) (stage : Stage) → let v = at_job w (J t r c dn stage) in Has_room v → In (λ a. Has_room a.seen) v (turn v)
unfolding turn local_turn
stage_roomed w t r c dn (Goes left) h = let j = J t r c dn (Goes left) in next_roomed (at_job w j) h j h.1 (next (at_job w j).objects left)
stage_roomed w t r c dn (Fails o []) h = (h.0, refl, h.2)
stage_roomed w t r c dn (Fails o (s ∷ rest)) h = let j = J t r c dn (Fails o (s ∷ rest)) in undo_roomed (at_job w j) h j h.1 o s rest

rest_roomed : (w : Seen) → let v = at_rest w in Has_room v → In (λ a. Has_room a.seen) v (turn v)
unfolding turn local_turn
rest_roomed w h = waiting_roomed (at_rest w) h w.desk.waiting w.stored refl

pub turn_roomed : (w : Seen) (g : Grant) → Has_room w → Has_room (after (turn w) g w).seen
turn_roomed w g h = go w.desk.job refl
  where
    go : (o : Option Job) → w.desk.job ≡ o → Has_room (after (turn w) g w).seen
    go None e =
        let same : w ≡ at_rest w = λ i. record w { desk = record w.desk { job = e i } } in
        subst (λ v. Has_room (after (turn v) g v).seen) (sym same) (in_after (λ a. Has_room a.seen) (at_rest w) (turn (at_rest w)) g (rest_roomed w (subst Has_room same h)))
    go (Some j) e =
        let same = is_at_job w j e in
        subst (λ v. Has_room (after (turn v) g v).seen) (sym same)
        (in_after (λ a. Has_room a.seen) (at_job w j) (turn (at_job w j)) g (stage_roomed w j.ticket j.request (j.brand, j.config) j.done j.stage (subst Has_room same h)))
