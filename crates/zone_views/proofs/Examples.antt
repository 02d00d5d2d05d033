-- A history of two zones, computed by the definitions.
use Rattle.std.proofs.Common.{◌≡◌, ◌∷◌, ◌++◌, ◌&&◌, [], ℕ, List, true, false, Option, Some, None, map, refl}
use Rattle.std.specs.Prelude.{codes, drop, not, replicate}
use Rattle.brand_hooks.specs.Brands.{Tabled}
use Rattle.brand_hooks.specs.Tables.{proceeding}
use Rattle.datalink_table.specs.declared.claims.ClaimKind.TheVariants.{Dataset}
use Rattle.zone_pools.specs.declared.grant.Pool.TheVariants.{Datasets}
use Rattle.config_terms.specs.Rules.{obeys}
use Rattle.config_terms.specs.Texts.{setting}
use Rattle.config_verify.specs.Flaws.{flaws, flaws_of_dataset}
use Rattle.priv_sets.specs.Limit.{judged, limit_of, named, rule_of, set_of_words, words_from}
use Rattle.zone_config.specs.Edits.{with_property}
use Rattle.zone_config.specs.Export.{export_text}
use Rattle.zone_config.specs.Property.{blank, setting_named}
use Rattle.zone_pools.specs.Same.{same_grant}
use Rattle.zone_pools.specs.declared.grant.Grant.{Grant}
use Rattle.zone_pools.specs.declared.grant.Grant.TheVariants.{Nothing, Number, Yes}
use Rattle.zn_base.specs.declared.state.ZoneState.TheVariants.{Configured, Incomplete, Installed}
use Rattle.zn_base.specs.declared.state.ZoneState.{ZoneState}
use Rattle.zone_cases.specs.State.Edits.{comes, edit}
use Rattle.zone_machine.specs.Machine.Histories.{after, any_grant, asked, history, is_history, is_legal, only, replies, run}
use Rattle.zone_cases.specs.Session.Lines.{line_of}
use Rattle.zone_machine.specs.Machine.{decide, one, opening, subject}
use Rattle.zone_machine.specs.Machine.Pools.{allowed, fits}
use Rattle.commit_journal.specs.Bodies.{body_text, padded, record_text}
use Rattle.uuid.specs.Text.{by_index}
use Rattle.zone_pools.specs.Pools.{first_free}
use Rattle.zone_machine.specs.Machine.Same.{same_reply, same_subject}
use Rattle.zone_cases.specs.State.{At, At_console, Awaiting, Idle as Away, Logged_in, Session as SessionState, State, zone_state}
use Rattle.zoneadmd_steps.specs.Turns.{local_turn, turn}
use Rattle.zone_cases.specs.Session.Typed.{typed}
use Rattle.zone_cases.specs.State.Worlds.{view}
use Rattle.zoneadmd_steps.specs.declared.requests.Outcome.TheVariants.{Denied as Was_denied, WrongState}
use Rattle.zoneadmd_steps.specs.declared.requests.Step.TheVariants.{Unmount}
use Rattle.zoneadmd_steps.specs.declared.requests.TurnReply.TheVariants.{Failed, Finished, Idle, Stepped, Stuck}
use Rattle.zone_cases.specs.declared.events.Entry.{Entry}
use Rattle.zone_cases.specs.declared.events.Event.{Event}
use Rattle.zone_cases.specs.declared.events.Declaration.TheVariants.{Device, Item}
use Rattle.zone_cases.specs.declared.events.Event.TheVariants.{Process as Call_of, Restart, Session, System, Turn}
use Rattle.zone_cases.specs.declared.events.Subject.TheVariants.{Global, Zone}
use Rattle.zone_cases.specs.Calls.{called}
use Rattle.process_calls.specs.declared.call.Call.TheVariants.{Drop, Fork}
use Rattle.priv_sets.specs.Sets.{all_of, both as both_of, default_set, has, only as the_one, set_of, union, without}
use Rattle.priv_sets.specs.Table.{is_of, privileges}
use Rattle.priv_sets.specs.declared.table.TheConstants.{PROC_EXEC}
use Rattle.kernel_objects.specs.Processes.{may_exec, may_fork}
use Rattle.zn_base.specs.Decimals.{decimal_of}
use Rattle.commit_journal.specs.declared.records.Commit.{Commit}
use Rattle.zone_cases.specs.declared.replies.Head.{Head}
use Rattle.zone_cases.specs.declared.replies.Head.TheVariants.{Ok, Refused, Ticket, Turned}
use Rattle.zone_cases.specs.declared.replies.Refusal.TheVariants.{Duplicate}
use Rattle.zone_views.specs.Numbers.{pids, zids}
use Rattle.zone_views.specs.Whole.{whole_replies}

abbrev brands : List Tabled
brands = record { name = codes "ipkg"; table = proceeding } ∷ []

abbrev made : List ℕ → Commit
made zone = record { zone = zone; stored = Some (record { state = Configured; uuid = replicate 16 0; revision = 1; config = record blank { zonepath = Some (codes "/zones/" ++ zone); brand = codes "ipkg" } }) }

abbrev with_both : State
with_both = opening brands (made (codes "a") ∷ made (codes "b") ∷ [])

abbrev attach_a : Event
attach_a = Session 1 (codes "zoneadm -z a attach")

abbrev boot_a : Event
boot_a = Session 1 (codes "zoneadm -z a boot")

abbrev entries : List Entry
entries = history with_both (Session 3 [] ∷ boot_a ∷ Turn (codes "b") ∷ Turn (codes "a") ∷ [])

abbrev told_to : List ℕ → List Head
told_to zone = map (λ r. r.head) (replies zone entries)

told_to_a : told_to (codes "a") ≡ Ticket 1 ∷ Turned (Finished 1 (WrongState Configured)) ∷ []
unfolding line_of typed turn local_turn view decide subject one first_free record_text body_text padded by_index allowed edit comes with_property setting_named obeys setting export_text flaws limit_of judged set_of_words words_from rule_of named default_set all_of both_of has set_of union without is_of privileges
told_to_a = refl

told_to_b : told_to (codes "b") ≡ Turned Idle ∷ []
unfolding line_of typed turn local_turn view decide subject one first_free record_text body_text padded by_index allowed edit comes with_property setting_named obeys setting export_text flaws limit_of judged set_of_words words_from rule_of named default_set all_of both_of has set_of union without is_of privileges
told_to_b = refl

-- without the other zone's entries and those of none
purged : asked (only (codes "a") entries) ≡ (boot_a, Nothing) ∷ (Turn (codes "a"), Nothing) ∷ []
unfolding line_of typed turn local_turn view decide subject one first_free record_text body_text padded by_index allowed edit comes with_property setting_named obeys setting export_text flaws limit_of judged set_of_words words_from rule_of named default_set all_of both_of has set_of union without is_of privileges
purged = refl

states : map (λ zone. zone_state zone (after with_both entries)) (codes "a" ∷ codes "b" ∷ codes "c" ∷ []) ≡ Some Configured ∷ Some Configured ∷ None ∷ []
unfolding line_of typed turn local_turn view decide subject one first_free record_text body_text padded by_index allowed edit comes with_property setting_named obeys setting export_text flaws limit_of judged set_of_words words_from rule_of named default_set all_of both_of has set_of union without is_of privileges
states = refl

-- a stated grant may be another than the pools give, and then the history isn't legal
abbrev stated : Grant → List Entry
stated g = run with_both (map (λ e. (e, Nothing)) (attach_a ∷ replicate 2 (Turn (codes "a"))) ++ (Turn (codes "a"), g) ∷ [])

legal : map (λ n. is_legal with_both (stated (Number n))) (3 ∷ 4 ∷ []) ≡ true ∷ false ∷ []
unfolding line_of typed turn local_turn view decide subject one first_free record_text body_text padded by_index allowed edit comes same_reply same_subject with_property setting_named obeys setting export_text flaws limit_of judged set_of_words words_from rule_of named default_set all_of both_of has set_of union without is_of privileges
legal = refl

-- a reply to another event is no history
abbrev to_boot : Entry → Entry
to_boot e = record e { event = boot_a }

told_of_another : is_history any_grant with_both (map to_boot (stated (Number 3))) ≡ false
unfolding line_of typed turn local_turn view decide subject one first_free record_text body_text padded by_index allowed edit comes same_reply same_subject with_property setting_named obeys setting export_text flaws limit_of judged set_of_words words_from rule_of named default_set all_of both_of has set_of union without is_of privileges
told_of_another = refl

-- two installed zones boot, up to the turn that starts init
abbrev installed : List ℕ → Commit
installed zone = record { zone = zone; stored = Some (record { state = Installed; uuid = replicate 16 0; revision = 1; config = record blank { zonepath = Some (codes "/zones/" ++ zone); brand = codes "ipkg" } }) }

abbrev both : State
both = opening brands (installed (codes "a") ∷ installed (codes "b") ∷ [])

abbrev boot : ℕ → List ℕ → List Event
boot n zone = Session n (codes "zoneadm -z " ++ zone ++ codes " boot") ∷ replicate 10 (Turn zone)

abbrev booted : State
booted = after both (history both (boot 1 (codes "a") ++ boot 2 (codes "b")))

process_numbers : pids booted ≡ 2 ∷ 3 ∷ []
unfolding line_of typed turn local_turn view decide subject one first_free record_text body_text padded by_index allowed edit comes with_property setting_named obeys setting export_text flaws limit_of judged set_of_words words_from rule_of named default_set all_of both_of has set_of union without is_of privileges
process_numbers = refl

zone_numbers : zids booted ≡ 1 ∷ 2 ∷ []
unfolding line_of typed turn local_turn view decide subject one first_free record_text body_text padded by_index allowed edit comes with_property setting_named obeys setting export_text flaws limit_of judged set_of_words words_from rule_of named default_set all_of both_of has set_of union without is_of privileges
zone_numbers = refl

-- a signal that a session sends is of the zone that has the process
signal_subjects : map (λ text. subject booted (Session 3 text)) (codes "kill 9 2" ∷ codes "kill 9 3" ∷ codes "kill 9 4" ∷ []) ≡ Zone (codes "a") ∷ Zone (codes "b") ∷ Global ∷ []
unfolding line_of typed turn local_turn view decide subject one first_free record_text body_text padded by_index allowed edit comes with_property setting_named obeys setting export_text flaws limit_of judged set_of_words words_from rule_of named default_set all_of both_of has set_of union without is_of privileges decimal_of
signal_subjects = refl

-- the first process of a gives up a privilege, forks, and another's signal ends that of b
abbrev called_on : State
called_on = after booted (history booted (Call_of (codes "a") 2 (Drop PROC_EXEC) ∷ Call_of (codes "a") 2 (Fork (codes "sh")) ∷ Session 3 (codes "kill 9 3") ∷ []))

processes_left : pids called_on ≡ 2 ∷ 4 ∷ []
unfolding line_of typed turn local_turn view decide subject one first_free record_text body_text padded by_index allowed edit comes with_property setting_named obeys setting export_text flaws limit_of judged set_of_words words_from rule_of named default_set all_of both_of has set_of union without is_of privileges called decimal_of the_one
processes_left = refl

may_fork_not_exec : map (λ o. may_fork o.it && not (may_exec o.it)) called_on.processes ≡ true ∷ true ∷ []
unfolding line_of typed turn local_turn view decide subject one first_free record_text body_text padded by_index allowed edit comes with_property setting_named obeys setting export_text flaws limit_of judged set_of_words words_from rule_of named default_set all_of both_of has set_of union without is_of privileges called decimal_of the_one
may_fork_not_exec = refl

-- a halts, but for its root, which the global zone holds for a while
abbrev halts : List Event
halts = replicate 3 (Turn (codes "a")) ++ Session 3 (codes "fhold -z a /") ∷ Session 3 (codes "zoneadm -z a halt") ∷ replicate 5 (Turn (codes "a")) ++ Session 4 (codes "frelease -z a /") ∷ Turn (codes "a") ∷ []

waits_for_the_hold : map (λ e. e.reply.head) (drop 9 (history booted halts)) ≡ Turned Stuck ∷ Ok ∷ Turned (Stepped (Unmount (Some (codes "/")))) ∷ []
unfolding line_of typed turn local_turn view decide subject one first_free record_text body_text padded by_index allowed edit comes with_property setting_named obeys setting export_text flaws limit_of judged set_of_words words_from rule_of named default_set all_of both_of has set_of union without is_of privileges
waits_for_the_hold = refl

-- a device is declared once, whatever zones do in between
abbrev declare : Event
declare = System (Device (codes "/dev/zero"))

told_to_all : map (λ r. r.head) (whole_replies (history booted (declare ∷ Turn (codes "a") ∷ declare ∷ []))) ≡ Ok ∷ Refused Duplicate ∷ []
unfolding line_of typed turn local_turn view decide subject one first_free record_text body_text padded by_index allowed edit comes with_property setting_named obeys setting export_text flaws limit_of judged set_of_words words_from rule_of named default_set all_of both_of has set_of union without is_of privileges
told_to_all = refl

-- grants that don't fit may give one number twice, and after a process number of 0 the pools give 1, which doesn't fit
abbrev readied : ℕ → List ℕ → List (Event × Grant)
readied n zone = map (λ e. (e, Number n)) (Session n (codes "zoneadm -z " ++ zone ++ codes " boot") ∷ replicate 9 (Turn zone))

abbrev left_by : List (Event × Grant) → State
left_by es = after both (run both es)

same_number : pids (left_by (readied 1 (codes "a") ++ readied 2 (codes "b") ++ (Turn (codes "a"), Number 7) ∷ (Turn (codes "b"), Number 7) ∷ [])) ≡ 7 ∷ 7 ∷ []
unfolding line_of typed turn local_turn view decide subject one first_free record_text body_text padded by_index allowed edit comes with_property setting_named obeys setting export_text flaws limit_of judged set_of_words words_from rule_of named default_set all_of both_of has set_of union without is_of privileges
same_number = refl

unfit_number : let S = left_by (readied 1 (codes "a") ++ readied 2 (codes "b") ++ (Turn (codes "a"), Number 0) ∷ []) in
    let e = Turn (codes "b") in (same_grant (allowed S e) (Number 1) && not (fits S e (allowed S e))) ≡ true
unfolding line_of typed turn local_turn view decide subject one first_free record_text body_text padded by_index allowed fits edit comes with_property setting_named obeys setting export_text flaws limit_of judged set_of_words words_from rule_of named default_set all_of both_of has set_of union without is_of privileges
unfit_number = refl

-- two zones want one dataset, which is declared: the first has it, and the other's turn is denied it. Under grants that don't fit
-- both have it
abbrev wanting : List ℕ → Commit
wanting zone = record {
  zone = zone;
  stored = Some (record { state = Installed; uuid = replicate 16 0; revision = 1; config = record blank { zonepath = Some (codes "/zones/" ++ zone); brand = codes "ipkg"; dataset = codes "tank" ∷ [] } });
}

abbrev want : State
want = opening brands (wanting (codes "a") ∷ wanting (codes "b") ∷ [])

abbrev ready : ℕ → List ℕ → List Event
ready n zone = Session n (codes "zoneadm -z " ++ zone ++ codes " ready") ∷ replicate 7 (Turn zone)

abbrev asking : List Event
asking = System (Item Dataset (codes "tank")) ∷ ready 1 (codes "a") ++ ready 2 (codes "b")

abbrev claimed_in : List Entry → List (List ℕ)
claimed_in h = map (λ o. o.zone) (after want h).claims

one_has_it : claimed_in (history want asking) ≡ codes "a" ∷ []
unfolding line_of typed turn local_turn view decide subject one first_free record_text body_text padded by_index allowed edit comes with_property setting_named obeys setting export_text flaws flaws_of_dataset limit_of judged set_of_words words_from rule_of named default_set all_of both_of has set_of union without is_of privileges
one_has_it = refl

the_other_is_denied : map (λ e. e.reply.head) (drop 16 (history want asking)) ≡ Turned (Failed 6 (Was_denied Datasets)) ∷ []
unfolding line_of typed turn local_turn view decide subject one first_free record_text body_text padded by_index allowed edit comes with_property setting_named obeys setting export_text flaws flaws_of_dataset limit_of judged set_of_words words_from rule_of named default_set all_of both_of has set_of union without is_of privileges
the_other_is_denied = refl

both_have_it : claimed_in (run want (map (λ e. (e, Yes)) asking)) ≡ codes "a" ∷ codes "b" ∷ []
unfolding line_of typed turn local_turn view decide subject one first_free record_text body_text padded by_index allowed edit comes with_property setting_named obeys setting export_text flaws flaws_of_dataset limit_of judged set_of_words words_from rule_of named default_set all_of both_of has set_of union without is_of privileges
both_have_it = refl

-- a zone is detached and attached, and then uninstalled, and its state is what the table says
abbrev goes_through : State → List Event → List (Option ZoneState)
goes_through S [] = zone_state (codes "a") S ∷ []
goes_through S (e ∷ es) = zone_state (codes "a") S ∷ goes_through (one S e (allowed S e)).state es

abbrev asks_a : List ℕ → ℕ → List Event
asks_a text turns = Session 1 (codes "zoneadm -z a " ++ text) ∷ replicate turns (Turn (codes "a"))

states_on_the_way : goes_through both (asks_a (codes "detach") 5 ++ asks_a (codes "attach") 5 ++ asks_a (codes "uninstall -F") 9)
    ≡ replicate 4 (Some Installed) ++ replicate 6 (Some Configured) ++ replicate 6 (Some Installed) ++ replicate 5 (Some Incomplete) ++ replicate 2 (Some Configured)
unfolding line_of typed turn local_turn view decide subject one first_free record_text body_text padded by_index allowed edit comes with_property setting_named obeys setting export_text flaws limit_of judged set_of_words words_from rule_of named default_set all_of both_of has set_of union without is_of privileges
states_on_the_way = refl

-- one session is logged in to a, one is at its console, and one waits for its daemon. A restart ends all that
abbrev sitting : List Event
sitting = replicate 3 (Turn (codes "a")) ++ Session 3 (codes "zlogin a") ∷ Session 4 (codes "zlogin -C a") ∷ Session 5 (codes "zoneadm -z a halt") ∷ []

abbrev sat : List Event → List SessionState
sat es = let S = after booted (history booted es) in map S.sessions (3 ∷ 4 ∷ 5 ∷ [])

who_sits : sat sitting ≡ At (codes "a") (Logged_in 4 (Some 126)) ∷ At (codes "a") (At_console (Some 126)) ∷ At (codes "a") (Awaiting 2) ∷ []
unfolding line_of typed turn local_turn view decide subject one first_free record_text body_text padded by_index allowed edit comes with_property setting_named obeys setting export_text flaws limit_of judged set_of_words words_from rule_of named default_set all_of both_of has set_of union without is_of privileges
who_sits = refl

nobody_sits : sat (sitting ++ Restart ∷ []) ≡ Away ∷ Away ∷ Away ∷ []
unfolding line_of typed turn local_turn view decide subject one first_free record_text body_text padded by_index allowed edit comes with_property setting_named obeys setting export_text flaws limit_of judged set_of_words words_from rule_of named default_set all_of both_of has set_of union without is_of privileges
nobody_sits = refl

-- a restart ends what runs: both zones are installed, no process is left, and numbers and tickets begin anew
restarted_states : map (λ zone. zone_state zone (after booted (history booted (Restart ∷ [])))) (codes "a" ∷ codes "b" ∷ codes "c" ∷ []) ≡ Some Installed ∷ Some Installed ∷ None ∷ []
unfolding line_of typed turn local_turn view decide subject one first_free record_text body_text padded by_index allowed edit comes with_property setting_named obeys setting export_text flaws limit_of judged set_of_words words_from rule_of named default_set all_of both_of has set_of union without is_of privileges
restarted_states = refl

booted_again : pids (after booted (history booted (Restart ∷ boot 2 (codes "b")))) ≡ 2 ∷ []
unfolding line_of typed turn local_turn view decide subject one first_free record_text body_text padded by_index allowed edit comes with_property setting_named obeys setting export_text flaws limit_of judged set_of_words words_from rule_of named default_set all_of both_of has set_of union without is_of privileges
booted_again = refl
