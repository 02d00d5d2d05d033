-- The turns that are put in come to an end.
use Rattle.std.proofs.Common.{◌≡◌, ◌<◌, ◌++◌, ℕ, zero, suc, Bool, true, false, cond, List, [], ◌∷◌, map, Option, Some, None, Result, Ok as Right, Err, refl, ap, sym, subst, ◌∙◌, arith}
use Rattle.std.specs.Prelude.{IfSome}
use Rattle.std.proofs.lemmas.Bool.{and_from, true≢false}
use Rattle.zn_base.specs.Names.{Name}
use Rattle.brand_hooks.specs.Brands.{Tabled}
use Rattle.commit_journal.specs.declared.records.Commit.{Commit}
use Rattle.zone_pools.specs.Decisions as decisions
use Rattle.zone_pools.specs.Decisions.{Ask, Just, number_in}
use Rattle.zone_pools.specs.declared.grant.Grant.{Grant}
use Rattle.zone_pools.specs.declared.grant.Pool.{Pool}
use Rattle.zoneadmd_laws.specs.Afters as afters
use Rattle.zoneadmd_laws.specs.Turns_left.{IsSmall, moves_on, turns_left}
use Rattle.zoneadmd_laws.proofs.Bounds.{short}
use Rattle.zoneadmd_laws.proofs.Fewer.{turn_fewer}
use Rattle.zoneadmd_steps.specs.Arrivals.{Arrival, New_claim, New_id, New_process, New_record, No_new_thing, arrived}
use Rattle.zoneadmd_steps.specs.Desks.{Desk}
use Rattle.zoneadmd_steps.specs.Objects.{Devices_are, Ids_change, Ids_go, Last_claim_goes, Object_edit, Of_mounts, Process_goes, Processes_change, Processes_go}
use Rattle.zoneadmd_steps.specs.Turns.{Seen, Turn_decision, Turned, turn}
use Rattle.zoneadmd_steps.specs.declared.requests.TurnReply.{TurnReply}
use Rattle.zoneadmd_steps.specs.declared.requests.TurnReply.TheVariants.{Began, Failed, Finished, Idle, Stepped, Stuck, Undone}
use Rattle.zone_machine.proofs.Acts_laws.{own-acts}
use Rattle.zone_machine.specs.Machine.{decide, one, opening, subject}
use Rattle.zone_machine.specs.Machine.Histories.{after, history, is_history}
use Rattle.zone_machine.specs.Machine.Pools.{allowed, fits}
use Rattle.zone_cases.specs.State.{State, stored}
use Rattle.zone_cases.specs.State.Decisions.{Act, act_of, acts_world, after_came_world, effects, sweeps, turned}
use Rattle.zone_cases.specs.State.Edits.{Of_objects, Set_desk, console_gone_world, edit_world, edits_world, keeps_console}
use Rattle.zone_cases.specs.State.Worlds.{World, objects_of, seen_of, view, world}
use Rattle.zone_cases.specs.declared.events.Entry.{Entry}
use Rattle.zone_cases.specs.declared.events.Event.TheVariants.{Turn}
use Rattle.zone_cases.specs.declared.replies.Head.TheVariants.{Turned as Told}
use Rattle.zone_views.proofs.Few_turns.{turns-few}
use Rattle.zone_views.proofs.Numbered.{allowed-fits, numbered-history}
use Rattle.zone_views.proofs.Runs.{told-entry_at}
use Rattle.zone_views.proofs.Small_zones.{stays-small}
use Rattle.zone_views.specs.Storable.{IsRight}
use Rattle.zones_run.proofs.Histories.{after-push, history-push}
use Rattle.zones_run.specs.Scripting.{entry_in, is_last, is_last_turn, state_after, turns_until}
use Rattle.zones_run.specs.Turns_end.{EndsFor, ScriptTurnsEnd, StaysSmall, TurnsEnd, found_in}
use Rattle.zones_run.specs.declared.turns.Opened.{Opened}

-- what a turn makes of what the daemon finds is what it makes of the zone's world
object_seen : (e : Object_edit) (w : World) → seen_of (edit_world None (Of_objects e) w) ≡ record (seen_of w) { objects = afters.edit e (objects_of w) }
object_seen (Processes_go p) w = refl
object_seen (Process_goes pid) w = refl
object_seen (Processes_change f) w = refl
object_seen (Of_mounts e) w = refl
object_seen Last_claim_goes w = refl
object_seen (Devices_are ds) w = refl
object_seen (Ids_go p) w = refl
object_seen (Ids_change f) w = refl

desk_seen : (d : Desk) (ended : Option ℕ) (w : World) → seen_of (edits_world None (Set_desk d ∷ sweeps ended) w) ≡ record (seen_of w) { desk = d }
desk_seen d None w = refl
desk_seen d (Some t) w = refl

edits_seen : (es : List Object_edit) (d : Desk) (ended : Option ℕ) (w : World) → seen_of (edits_world None (map Of_objects es ++ Set_desk d ∷ sweeps ended) w) ≡ record (seen_of w) { objects = afters.edits es (objects_of w); desk = d }
edits_seen [] d ended w = desk_seen d ended w
edits_seen (e ∷ es) d ended w =
    edits_seen es d ended (edit_world None (Of_objects e) w) ∙ ap (λ (v : Seen). record v { objects = afters.edits es v.objects; desk = d }) (object_seen e w)

-- the daemon looks at no console
gone_seen : (keeps : Bool) (w : World) → seen_of (console_gone_world keeps w) ≡ seen_of w
gone_seen true w = refl
gone_seen false w = refl

came_seen : (came : Option Arrival) (w : World) → seen_of (after_came_world came w) ≡ afters.come came (seen_of w)
came_seen None w = refl
came_seen (Some (New_process p)) w = refl
came_seen (Some (New_id i)) w = refl
came_seen (Some (New_claim c)) w = refl
came_seen (Some (New_record row)) w = gone_seen (keeps_console row) (record w { stored = row })
came_seen (Some No_new_thing) w = refl

-- a decision's effect, as the machine has it
abbrev Of_turn : decisions.Act Arrival Turned → Act
Of_turn a = record { came = a.came; effect = turned a.effect }

turned_act : (d : Turn_decision) (g : Grant) → act_of (effects turned d) g ≡ Of_turn (decisions.act_of arrived d g)
turned_act (Just t) g = refl
turned_act (Ask c asked denied given) g = by_number (number_in g)
  where
    by_number : (n : Result ℕ Pool) → decisions.granted arrived c (λ pool. turned (denied pool)) (λ n. turned (given n)) n ≡ Of_turn (decisions.granted arrived c denied given n)
    by_number (Right n) = refl
    by_number (Err pool) = refl

act_seen : (d : Turn_decision) (g : Grant) (w : World) → seen_of (acts_world None (act_of (effects turned d) g) w) ≡ (afters.after d g (seen_of w)).seen
act_seen d g w =
    let a = decisions.act_of arrived d g in
    ap (λ b. seen_of (acts_world None b w)) (turned_act d g)
    ∙ edits_seen a.effect.objects a.effect.desk a.effect.ended (after_came_world a.came w)
    ∙ ap (λ (v : Seen). record v { objects = afters.edits a.effect.objects v.objects; desk = a.effect.desk }) (came_seen a.came w)

-- after a turn the daemon finds what the turn left, and the turn's reply is the entry's
after_seen : (z : Name) (S : State) → found_in z (state_after S (Turn z)) ≡ (afters.after (turn (found_in z S)) (allowed S (Turn z)) (found_in z S)).seen
unfolding one subject decide view
after_seen z S =
    let g = allowed S (Turn z) in
    ap seen_of (own-acts z None (act_of (effects turned (turn (found_in z S))) g) S) ∙ act_seen (turn (found_in z S)) g (world z S)

after_told : (z : Name) (S : State) → (entry_in S (Turn z)).reply.head ≡ Told (afters.after (turn (found_in z S)) (allowed S (Turn z)) (found_in z S)).reply
unfolding one subject decide view
after_told z S = ap (λ (a : Act). a.effect.reply.head) (turned_act (turn (found_in z S)) (allowed S (Turn z)))

not_last : (t : ℕ) (r : TurnReply) → is_last_turn t r ≡ false → moves_on r ≡ true
not_last t Idle h = absurd (true≢false h)
not_last t Stuck h = absurd (true≢false h)
not_last t (Began u kind) h = refl
not_last t (Stepped s) h = refl
not_last t (Failed n o) h = refl
not_last t (Undone s) h = refl
not_last t (Finished u o) h = refl

fewer_left : (o : Opened) (S : State) → IsSmall (found_in o.zone S) → is_last o.ticket (entry_in S (Turn o.zone)).reply.head ≡ false → turns_left (found_in o.zone (state_after S (Turn o.zone))) < turns_left (found_in o.zone S)
fewer_left o S small h =
    let w = found_in o.zone S in
    let g = allowed S (Turn o.zone) in
    subst (λ (v : Seen). turns_left v < turns_left w) (sym (after_seen o.zone S))
    (turn_fewer w g (short w small) (not_last o.ticket (afters.after (turn w) g w).reply (ap (is_last o.ticket) (sym (after_told o.zone S)) ∙ h)))

ends_first : (o : Opened) (S : State) → is_last o.ticket (entry_in S (Turn o.zone)).reply.head ≡ true → EndsFor o (entry_in S (Turn o.zone) ∷ [])
ends_first o S is = record { before = []; final = entry_in S (Turn o.zone); whole = refl; ends = is }

ends_later : (o : Opened) (e : Entry) (h : List Entry) → EndsFor o h → EndsFor o (e ∷ h)
ends_later o e h ends = record { before = e ∷ ends.before; final = ends.final; whole = ap (λ l. e ∷ l) ends.whole; ends = ends.ends }

ends_next : (o : Opened) (S : State) (rest : List Entry) (b : Bool) → is_last o.ticket (entry_in S (Turn o.zone)).reply.head ≡ b → (b ≡ true → rest ≡ []) → (b ≡ false → EndsFor o rest) → EndsFor o (entry_in S (Turn o.zone) ∷ rest)
ends_next o S rest true is none later = rw (none refl) (ends_first o S is)
ends_next o S rest false is none later = ends_later o (entry_in S (Turn o.zone)) rest (later refl)

-- the rest of the turns, after one
abbrev rest_of : ℕ → Opened → State → List Entry
rest_of more o S = let T = state_after S (Turn o.zone) in history T (cond (is_last o.ticket (entry_in S (Turn o.zone)).reply.head) [] (turns_until more o T))

last_rest : (more : ℕ) (o : Opened) (S : State) → is_last o.ticket (entry_in S (Turn o.zone)).reply.head ≡ true → rest_of more o S ≡ []
last_rest more o S is = ap (λ b. let T = state_after S (Turn o.zone) in history T (cond b [] (turns_until more o T))) is

later_rest : (more : ℕ) (o : Opened) (S : State) → is_last o.ticket (entry_in S (Turn o.zone)).reply.head ≡ false → rest_of more o S ≡ history (state_after S (Turn o.zone)) (turns_until more o (state_after S (Turn o.zone)))
later_rest more o S is = ap (λ b. let T = state_after S (Turn o.zone) in history T (cond b [] (turns_until more o T))) is

pub turns_end : TurnsEnd
unfolding turns_until
turns_end zero o S small few = absurd (omega (arith, few))
turns_end (suc more) o S small few =
    ends_next o S (rest_of more o S) (is_last o.ticket (entry_in S (Turn o.zone)).reply.head) refl (last_rest more o S)
    (λ is. let less = fewer_left o S small.0 is in subst (EndsFor o) (sym (later_rest more o S is)) (turns_end more o (state_after S (Turn o.zone)) small.1 (omega (arith, less, few))))

-- a turn under the grant that the pools give goes on a history whose grants fit
turn_pushed : (z : Name) (brands : List Tabled) (commits : List Commit) (h : List Entry) → is_history fits (opening brands commits) h ≡ true
    → is_history fits (opening brands commits) (h ++ entry_in (after (opening brands commits) h) (Turn z) ∷ []) ≡ true
turn_pushed z brands commits h is =
    let S = after (opening brands commits) h in
    history-push fits (opening brands commits) h (entry_in S (Turn z)) is
    (and_from _ _ (and_from _ _ (told-entry_at S (Turn z) (allowed S (Turn z))) (allowed-fits S (Turn z) (numbered-history brands commits h is))) refl)

stays_small : (more : ℕ) (z : Name) (brands : List Tabled) (commits : List Commit) (h : List Entry) → is_history fits (opening brands commits) h ≡ true → IfSome (stored z commits) IsRight
    → StaysSmall more z (after (opening brands commits) h)
stays_small zero z brands commits h is first = tt
stays_small (suc more) z brands commits h is first =
    let e = entry_in (after (opening brands commits) h) (Turn z) in (
      stays-small brands commits h z is first,
      subst (StaysSmall more z) (after-push (opening brands commits) h e) (stays_small more z brands commits (h ++ e ∷ []) (turn_pushed z brands commits h is) first),
    )

end_within : (more : ℕ) (o : Opened) (brands : List Tabled) (commits : List Commit) (h : List Entry) → is_history fits (opening brands commits) h ≡ true → IfSome (stored o.zone commits) IsRight
    → (let S = after (opening brands commits) h in turns_left (found_in o.zone S) < more → EndsFor o (history S (turns_until more o S)))
end_within more o brands commits h is first few = turns_end more o (after (opening brands commits) h) (stays_small more o.zone brands commits h is first) few

pub script_turns_end : ScriptTurnsEnd
script_turns_end telling brands commits h o is first = end_within 10000000 o brands commits h is first (turns-few brands commits h o.zone is first)
