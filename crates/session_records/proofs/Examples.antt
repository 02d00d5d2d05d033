-- Lists of entries that keep to scripts, and some that don't; and the record of one session, computed by the machine's definitions.
use Rattle.std.proofs.Common.{◌≡◌, ◌∷◌, ◌++◌, [], ℕ, List, Bool, Option, Some, None, true, false, map, refl}
use Rattle.std.specs.Prelude.{codes, nat_eq, if◌then◌else◌}
use Rattle.zn_base.specs.Names.{Name}
use Rattle.zn_base.specs.declared.state.ZoneState.TheVariants.{Configured}
use Rattle.zone_pools.specs.declared.grant.Grant.{Grant}
use Rattle.zone_pools.specs.declared.grant.Grant.TheVariants.{Nothing}
use Rattle.zone_cases.specs.Session.Lines.{line_of}
use Rattle.zone_cases.specs.State.Decisions.{says, told}
use Rattle.zone_cases.specs.declared.events.Entry.{Entry}
use Rattle.zone_cases.specs.declared.events.Event.{Event}
use Rattle.zone_cases.specs.declared.events.Event.TheVariants.{Restart, Session, Turn}
use Rattle.zone_cases.specs.declared.events.Subject.TheVariants.{Global, Whole, Zone}
use Rattle.zone_cases.specs.declared.replies.Body.TheVariants.{Lines}
use Rattle.zone_cases.specs.declared.replies.Head.{Head}
use Rattle.zone_cases.specs.declared.replies.Head.TheVariants.{Ok, Ticket, Turned}
use Rattle.zone_cases.specs.declared.replies.Reply.{Reply}
use Rattle.zone_machine.specs.Machine.{one, opening, subject}
use Rattle.zone_machine.specs.Machine.Histories.{history, is_legal}
use Rattle.zone_machine.specs.Machine.Pools.{allowed}
use Rattle.zone_machine.specs.Machine.Same.{same_reply, same_subject}
use Rattle.zoneadmd_steps.specs.declared.requests.Outcome.TheVariants.{WrongState}
use Rattle.zoneadmd_steps.specs.declared.requests.TurnReply.TheVariants.{Finished, Idle, Stuck}
use Rattle.session_records.specs.Folds.{folded}
use Rattle.session_records.specs.Records.{Scripts, all_answered, lines_of}
use Rattle.session_records.specs.Scripts.{begun, keeps_scripts, may_come, noted}

abbrev boot : Name → List ℕ
boot z = codes "zoneadm -z " ++ z ++ codes " boot"

abbrev list : List ℕ
list = codes "zoneadm list"

abbrev a : Name
a = codes "a"

abbrev b : Name
b = codes "b"

-- session 1 asks of a and then lists all zones, session 2 asks of b
abbrev scripts : Scripts
scripts n = if nat_eq n 1 then boot a ∷ list ∷ [] else if nat_eq n 2 then boot b ∷ [] else []

abbrev line : ℕ → Name → List ℕ → Head → Entry
line n z text head = record { event = Session n text; subject = Zone z; grant = Nothing; reply = says head }

abbrev turn : Name → Head → Entry
turn z head = record { event = Turn z; subject = Zone z; grant = Nothing; reply = says head }

abbrev asks_a : Entry
asks_a = line 1 a (boot a) (Ticket 1)

abbrev asks_b : Entry
asks_b = line 2 b (boot b) (Ticket 1)

abbrev lists : Entry
lists = record { event = Session 1 list; subject = Global; grant = Nothing; reply = says Ok }

abbrev finished : Name → ℕ → Entry
finished z t = turn z (Turned (Finished t (WrongState Configured)))

abbrev stuck : Name → Entry
stuck z = turn z (Turned Stuck)

-- whether entries keep to the scripts, and which lines of each session are left after them
abbrev keep : List (List Entry) → List Bool
keep hs = map (keeps_scripts scripts) hs

abbrev left : List Entry → List (List (List ℕ))
left h = map (λ n. (folded noted (begun scripts) h n).left) (1 ∷ 2 ∷ 3 ∷ [])

-- turns of the two zones in any order, and one that is stuck in place of the answer
orders : keep ((asks_a ∷ asks_b ∷ finished b 1 ∷ finished a 1 ∷ lists ∷ []) ∷ (asks_b ∷ asks_a ∷ finished a 1 ∷ lists ∷ finished b 1 ∷ []) ∷ (asks_a ∷ stuck a ∷ lists ∷ asks_b ∷ []) ∷ [] ∷ []) ≡ true ∷ true ∷ true ∷ true ∷ []
unfolding noted may_come
orders = refl

done : left (asks_a ∷ asks_b ∷ finished b 1 ∷ finished a 1 ∷ lists ∷ []) ≡ [] ∷ [] ∷ [] ∷ []
unfolding noted
done = refl

part : left (asks_a ∷ stuck a ∷ lists ∷ []) ≡ [] ∷ (boot b ∷ []) ∷ [] ∷ []
unfolding noted
part = refl

-- the next line before the ticket is answered, after the answer of another ticket or a stuck turn of another zone
early : keep ((asks_a ∷ lists ∷ finished a 1 ∷ []) ∷ (asks_a ∷ finished a 2 ∷ lists ∷ []) ∷ (asks_a ∷ finished b 1 ∷ lists ∷ []) ∷ (asks_a ∷ asks_b ∷ stuck b ∷ lists ∷ []) ∷ []) ≡ false ∷ false ∷ false ∷ false ∷ []
unfolding noted may_come
early = refl

-- a line twice, one left out, one of another session, a turn that is idle, a restart
others : keep ((asks_a ∷ stuck a ∷ asks_a ∷ []) ∷ (lists ∷ []) ∷ (line 3 a (boot a) (Ticket 1) ∷ []) ∷ (turn a (Turned Idle) ∷ []) ∷ (record { event = Restart; subject = Whole; grant = Nothing; reply = says Ok } ∷ []) ∷ []) ≡ false ∷ false ∷ false ∷ false ∷ false ∷ []
unfolding noted may_come
others = refl

-- the same in other words: a ticket that is answered, is answered too late, and may still be
answers : map (all_answered false) ((asks_a ∷ finished a 1 ∷ lists ∷ []) ∷ (asks_a ∷ lists ∷ finished a 1 ∷ []) ∷ (asks_b ∷ []) ∷ []) ≡ true ∷ false ∷ false ∷ []
answers = refl

may_be_answered : map (all_answered true) ((asks_a ∷ lists ∷ finished a 1 ∷ []) ∷ (asks_b ∷ []) ∷ []) ≡ false ∷ true ∷ []
may_be_answered = refl

typed : map (λ n. lines_of n (asks_a ∷ asks_b ∷ finished b 1 ∷ lists ∷ [])) (1 ∷ 2 ∷ 3 ∷ []) ≡ (boot a ∷ list ∷ []) ∷ (boot b ∷ []) ∷ [] ∷ []
typed = refl

-- one session lists the zones of a system that has none
abbrev listed : List Entry
listed = history (opening [] []) (Session 1 list ∷ [])

answer : map {B = Event × (Grant × Reply)} (λ e. (e.event, (e.grant, e.reply))) listed ≡ (Session 1 list, (Nothing, told (Lines (codes "global" ∷ [])))) ∷ []
unfolding line_of one subject allowed
answer = refl

legal : is_legal (opening [] []) listed ≡ true
unfolding line_of one subject allowed same_reply same_subject
legal = refl
