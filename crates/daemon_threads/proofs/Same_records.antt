-- A record of sessions as threads have it is one as sessions have it: a history of the machine of all zones, told entry by entry.
use Rattle.std.proofs.Common.{◌≡◌, ◌≢◌, ◌≤◌, ◌+◌, ◌++◌, ◌∷◌, [], ℕ, List, Bool, Option, Some, None, true, false, ap, arith, nat_eq, refl, subst, sym, ◌∙◌}
use Rattle.std.specs.Prelude.{◌==◌, ◌&&◌, ◌||◌, bytes_eq, not, if◌then◌else◌}
use Rattle.std.specs.List.{list_all}
use Rattle.std.proofs.lemmas.Bool.{and_from, and_parts, eq-eqb, eqb-true, false≢true, ne_eqb}
use Rattle.brand_hooks.specs.Brands.{Tabled}
use Rattle.session_records.specs.Places.{is_right_at, place_from, place_of, zone_from}
use Rattle.session_records.specs.Records as records
use Rattle.session_records.specs.Records.{awaited, ends_head, is_idle_head, is_line_of, lines_of, may_stand, typed_by}
use Rattle.zn_base.specs.Names.{Name}
use Rattle.zn_io.specs.Disk.{View}
use Rattle.zone_cases.specs.declared.events.Entry.{Entry}
use Rattle.zone_cases.specs.declared.events.Event.{Event}
use Rattle.zone_cases.specs.declared.events.Event.TheVariants.{Process as Call_of, Restart, Session, System, Turn}
use Rattle.zone_cases.specs.declared.events.Subject.{Subject}
use Rattle.zone_cases.specs.declared.events.Subject.TheVariants.{Global, Whole, Zone}
use Rattle.zone_cases.specs.declared.replies.Head.{Head}
use Rattle.zone_cases.specs.declared.replies.Head.TheVariants.{Ticket, Turned}
use Rattle.zone_machine.proofs.Local_laws.{subject-turn}
use Rattle.zone_machine.proofs.Same_laws.{subject-Decides}
use Rattle.zone_machine.specs.Machine.{one, subject}
use Rattle.zone_machine.specs.Machine.Histories.{is_allowed, is_legal, is_told}
use Rattle.zone_machine.specs.Machine.Same.{same_reply, same_subject}
use Rattle.zone_pools.proofs.Owned_laws.{same_self, same_true}
use Rattle.zone_threads.specs.Folds.{all_right}
use Rattle.zone_threads.specs.Machines.{Definitions}
use Rattle.zone_threads.specs.Scripts.{answers, ends_ticket, is_idle, ticket_of}
use Rattle.zone_threads.specs.Words as words
use Rattle.zone_threads.specs.Words.{are_lines, begin_lines, entries_of, none_idle}
use Rattle.zone_threads.specs.declared.tally.Ticket.{Ticket as Ticket_at}
use Rattle.zoneadmd_steps.specs.declared.requests.TurnReply.{TurnReply}
use Rattle.zoneadmd_steps.specs.declared.requests.TurnReply.TheVariants.{Finished, Idle, Stuck}
use Rattle.brand_hooks.specs.declared.table.HookAnswer.{HookAnswer}
use Rattle.daemon_threads.specs.Goods.{Goods}
use Rattle.daemon_threads.specs.declared.cell.PlaceCell.{PlaceCell}
use Rattle.daemon_threads.specs.declared.past.Past.{Past}
use Rattle.daemon_threads.specs.Definitions.{daemons, is_text, line_says, no_session, said_by, session_of, state_of, turn_says, turned_says}

-- the zone that a place is given to has it
zone-from : (n : ℕ) (zones : List Name) (z : Name) → place_from n zones z ≢ 0 → (n ≤ place_from n zones z) × (zone_from n zones (place_from n zones z) ≡ Some z)
zone-from n [] z some = absurd (some refl)
zone-from n (y ∷ ys) z some = at_test (zone-from (n + 1) ys z) (bytes_eq y z) refl some
  where
    here : y ≡ z → (if nat_eq n n then Some y else zone_from (n + 1) ys n) ≡ Some z
    here same = rw (eq-eqb n n refl) (ap Some same)

    apart : (p : ℕ) → n + 1 ≤ p → n ≢ p
    apart p more same = omega (arith, more, same)

    at_test : (place_from (n + 1) ys z ≢ 0 → (n + 1 ≤ place_from (n + 1) ys z) × (zone_from (n + 1) ys (place_from (n + 1) ys z) ≡ Some z)) → (b : Bool) → bytes_eq y z ≡ b → place_from n (y ∷ ys) z ≢ 0
        → (n ≤ place_from n (y ∷ ys) z) × (zone_from n (y ∷ ys) (place_from n (y ∷ ys) z) ≡ Some z)
    at_test go true t some = rw t (omega arith, here (same_true y z t))
    at_test go false t some =
        let is : place_from n (y ∷ ys) z ≡ place_from (n + 1) ys z = rw t refl in
        let rest = go (λ none. some (is ∙ none)) in
        let more = rest.0 in
        rw is (omega (arith, more), rw (ne_eqb n (place_from (n + 1) ys z) (apart (place_from (n + 1) ys z) more)) rest.1)

pub same-zone : (zones : List Name) (z y : Name) → place_of zones (Zone z) ≢ 0 → place_of zones (Zone z) ≡ place_of zones (Zone y) → z ≡ y
same-zone zones z y some same =
    let there = (zone-from 2 zones z some).1 in
    let other = (zone-from 2 zones y (λ none. some (same ∙ none))).1 in
    ap (or_else z) (sym there ∙ (ap (zone_from 2 zones) same ∙ other))
  where
    or_else : Name → Option Name → Name
    or_else d None = d
    or_else d (Some x) = x

-- what is no idle turn to threads is none to sessions
awake : (r : TurnReply) → not (is_idle (turn_says r)) ≡ true → not (is_idle_head (Turned r)) ≡ true
awake Idle h = h
awake _ h = refl

awake-head : (head : Head) → not (is_idle (turned_says head)) ≡ true → not (is_idle_head head) ≡ true
awake-head (Turned r) h = awake r h
awake-head _ h = refl

-- a turn that ends a ticket for threads ends it for sessions
ends-ticket : (t : ℕ) (r : TurnReply) → ends_ticket t (turn_says r) ≡ true → ends_head t (Turned r) ≡ true
ends-ticket t (Finished u outcome) h = eq-eqb t u (sym (eqb-true u t h))
ends-ticket t Stuck h = refl
ends-ticket t _ h = absurd (false≢true h)

ends-ticket-head : (t : ℕ) (head : Head) → ends_ticket t (turned_says head) ≡ true → ends_head t head ≡ true
ends-ticket-head t (Turned r) h = ends-ticket t r h
ends-ticket-head t _ h = absurd (false≢true h)

-- a line of the session 0 is told as none's
some-session : (n : ℕ) → (if nat_eq n 0 then no_session else n) ≢ no_session → n ≢ 0
some-session n mine none = mine (ap (λ (b : Bool). if b then no_session else n) (eq-eqb n 0 none))

its-session : (n : ℕ) (text : List ℕ) → n ≢ 0 → session_of (Session n text) ≡ n
its-session n text some = ap (λ (b : Bool). if b then no_session else n) (ne_eqb n 0 some)

module _ (zones : List Name) where
  -- what is known of an entry of such a record
  record Fits (e : Entry) : Type 0 where
    placed : place_of zones e.subject ≢ 0
    turned : (z : Name) → e.event ≡ Turn z → e.subject ≡ Zone z
    mine : session_of e.event ≢ no_session

  abbrev AllFit : List Entry → Type 0
  AllFit [] = Unit {0}
  AllFit (e ∷ h) = Fits e × AllFit h

  module _ {D : Type 0} (view : D → View) (v : View) (brands : List Tabled) where
    abbrev M : Definitions Past PlaceCell (Goods D) (List ℕ) Entry HookAnswer
    M = daemons view v zones brands

    -- the history is legal
    legal : (g : Past) (h : List Entry) → all_right M.right M.one g h ≡ true → is_legal (state_of brands g) h ≡ true
    legal g [] is = refl
    legal g (e ∷ h) is =
        let S = state_of brands g in
        let parts = and_parts (is_right_at zones S e) (all_right M.right M.one (M.one g e) h) is in
        let right = and_parts (is_told S e && is_allowed S e.event e.grant) (not (nat_eq (place_of zones e.subject) 0)) parts.0 in
        and_from _ _ right.0 (legal (M.one g e) h parts.1)

    -- and none of its entries is of no session
    none-in : (xs : List Entry) → begin_lines M [] xs ≡ true → xs ≡ []
    none-in [] is = refl
    none-in (e ∷ es) is = absurd (false≢true is)

    head-of : (e : Entry) (es : List Entry) → e ∷ es ≡ [] → ⊥
    head-of e es is = absurd (cc)

    other-of : (e : Entry) (h : List Entry) → entries_of M no_session (e ∷ h) ≡ [] → (session_of e.event ≢ no_session) × (entries_of M no_session h ≡ [])
    other-of e h none = at_test (session_of e.event == no_session) refl none
      where
        at_test : (b : Bool) → (session_of e.event == no_session) ≡ b → (if b then e ∷ entries_of M no_session h else entries_of M no_session h) ≡ [] → (session_of e.event ≢ no_session) × (entries_of M no_session h ≡ [])
        at_test true t none = absurd (head-of e (entries_of M no_session h) none)
        at_test false t none = ((λ is. false≢true (sym t ∙ eq-eqb (session_of e.event) no_session is)), none)

    fits : (g : Past) (h : List Entry) → all_right M.right M.one g h ≡ true → entries_of M no_session h ≡ [] → AllFit h
    fits g [] is none = tt
    fits g (e ∷ h) is none =
        let S = state_of brands g in
        let parts = and_parts (is_right_at zones S e) (all_right M.right M.one (M.one g e) h) is in
        let right = and_parts (is_told S e && is_allowed S e.event e.grant) (not (nat_eq (place_of zones e.subject) 0)) parts.0 in
        let told = and_parts (is_told S e) (is_allowed S e.event e.grant) right.0 in
        let whose = (subject-Decides e.subject (subject S e.event)).0 (and_parts (same_subject e.subject (subject S e.event)) (same_reply e.reply (one S e.event e.grant).reply) told.0).0 in
        let others = other-of e h none in (
          record {
            placed = λ at. false≢true (sym (ap not (eq-eqb (place_of zones e.subject) 0 at)) ∙ right.1);
            turned = λ z turn. whose ∙ (ap (subject S) turn ∙ subject-turn S z);
            mine = others.0;
          },
          fits (M.one g e) h parts.1 others.1,
        )

    -- each entry is a line, or a turn that isn't idle
    stands : (x : Event) (head : Head) → session_of x ≢ no_session → not ((session_of x == 0) && is_idle (said_by x head)) ≡ true → may_stand x head ≡ true
    stands (Session n text) head mine h = refl
    stands (Turn z) head mine h = awake-head head h
    stands (Call_of z pid c) head mine h = absurd (mine refl)
    stands (System what) head mine h = absurd (mine refl)
    stands Restart head mine h = absurd (mine refl)

    others-stand : (h : List Entry) → AllFit h → none_idle M h ≡ true → list_all (λ e. may_stand e.event e.reply.head) h ≡ true
    others-stand [] fit is = refl
    others-stand (e ∷ h) fit is =
        let parts = and_parts (not ((session_of e.event == 0) && is_idle (said_by e.event e.reply.head))) (none_idle M h) is in
        and_from _ _ (stands e.event e.reply.head fit.0.mine parts.0) (others-stand h fit.1 parts.1)

    -- what an event types, where it is a session's entry and where not
    types-own : (n : ℕ) (x : Event) (line : List ℕ) → n ≢ 0 → session_of x ≢ no_session → session_of x ≡ n → is_text line x ≡ true → typed_by n x ≡ line ∷ []
    types-own n (Session m text) line some mine is same =
        let own : m ≡ n = sym (its-session m text (some-session m mine)) ∙ is in
        rw (eq-eqb n m (sym own)) (ap (λ l. l ∷ []) (same_true text line same))
    types-own n (Turn z) line some mine is same = absurd (false≢true same)
    types-own n (Call_of z pid c) line some mine is same = absurd (false≢true same)
    types-own n (System what) line some mine is same = absurd (false≢true same)
    types-own n Restart line some mine is same = absurd (false≢true same)

    types-none : (n : ℕ) (x : Event) → session_of x ≢ no_session → session_of x ≢ n → typed_by n x ≡ []
    types-none n (Session m text) mine other =
        let away : n ≢ m = λ same. other (its-session m text (some-session m mine) ∙ sym same) in
        rw (ne_eqb n m away) refl
    types-none n (Turn z) mine other = refl
    types-none n (Call_of z pid c) mine other = refl
    types-none n (System what) mine other = refl
    types-none n Restart mine other = refl

    types-zero : (x : Event) → session_of x ≢ no_session → typed_by 0 x ≡ []
    types-zero (Session m text) mine = rw (ne_eqb 0 m (λ same. some-session m mine (sym same))) refl
    types-zero (Turn z) mine = refl
    types-zero (Call_of z pid c) mine = refl
    types-zero (System what) mine = refl
    types-zero Restart mine = refl

    lines-zero : (h : List Entry) → AllFit h → lines_of 0 h ≡ []
    lines-zero [] fit = refl
    lines-zero (e ∷ h) fit = rw (types-zero e.event fit.0.mine) (lines-zero h fit.1)

    -- what a session typed are the first of its lines
    begins : (n : ℕ) (h : List Entry) (lines : List (List ℕ)) → n ≢ 0 → AllFit h → begin_lines M lines (entries_of M n h) ≡ true → (rest : List (List ℕ)) × (lines_of n h ++ rest ≡ lines)
    begins n [] lines some fit is = (lines, refl)
    begins n (e ∷ h) lines some fit is = at_test (λ ls more. begins n h ls some fit.1 more) (session_of e.event == n) refl lines is
      where
        at_test : ((ls : List (List ℕ)) → begin_lines M ls (entries_of M n h) ≡ true → (rest : List (List ℕ)) × (lines_of n h ++ rest ≡ ls)) → (b : Bool) → (session_of e.event == n) ≡ b → (lines : List (List ℕ)) → begin_lines M lines (if b then e ∷ entries_of M n h else entries_of M n h) ≡ true → (rest : List (List ℕ)) × (lines_of n (e ∷ h) ++ rest ≡ lines)
        at_test go true t [] is = absurd (false≢true is)
        at_test go true t (line ∷ lines) is =
            let parts = and_parts (is_text line e.event) (begin_lines M lines (entries_of M n h)) is in
            let rest = go lines parts.1 in
            let typed = types-own n e.event line some fit.0.mine (eqb-true (session_of e.event) n t) parts.0 in
            (rest.0, ap (λ ls. (ls ++ lines_of n h) ++ rest.0) typed ∙ ap (λ ls. line ∷ ls) rest.1)
        at_test go false t lines is =
            let rest = go lines is in
            let typed = types-none n e.event fit.0.mine (λ same. false≢true (sym t ∙ eq-eqb (session_of e.event) n same)) in
            (rest.0, ap (λ ls. (ls ++ lines_of n h) ++ rest.0) typed ∙ rest.1)

    -- or they are all
    all-typed : (n : ℕ) (h : List Entry) (lines : List (List ℕ)) → n ≢ 0 → AllFit h → are_lines M lines (entries_of M n h) ≡ true → lines_of n h ≡ lines
    all-typed n [] [] some fit is = refl
    all-typed n [] (line ∷ lines) some fit is = absurd (false≢true is)
    all-typed n (e ∷ h) lines some fit is = at_test (λ ls more. all-typed n h ls some fit.1 more) (session_of e.event == n) refl lines is
      where
        at_test : ((ls : List (List ℕ)) → are_lines M ls (entries_of M n h) ≡ true → lines_of n h ≡ ls) → (b : Bool) → (session_of e.event == n) ≡ b → (lines : List (List ℕ)) → are_lines M lines (if b then e ∷ entries_of M n h else entries_of M n h) ≡ true → lines_of n (e ∷ h) ≡ lines
        at_test go true t [] is = absurd (false≢true is)
        at_test go true t (line ∷ lines) is =
            let parts = and_parts (is_text line e.event) (are_lines M lines (entries_of M n h)) is in
            let typed = types-own n e.event line some fit.0.mine (eqb-true (session_of e.event) n t) parts.0 in
            ap (λ ls. ls ++ lines_of n h) typed ∙ ap (λ ls. line ∷ ls) (go lines parts.1)
        at_test go false t lines is =
            let typed = types-none n e.event fit.0.mine (λ same. false≢true (sym t ∙ eq-eqb (session_of e.event) n same)) in
            ap (λ ls. ls ++ lines_of n h) typed ∙ go lines is

    -- all lines are the first of them
    are-begun : (lines : List (List ℕ)) (es : List Entry) → are_lines M lines es ≡ true → begin_lines M lines es ≡ true
    are-begun [] [] is = refl
    are-begun (line ∷ lines) [] is = refl
    are-begun [] (e ∷ es) is = is
    are-begun (line ∷ lines) (e ∷ es) is =
        let parts = and_parts (is_text line e.event) (are_lines M lines es) is in and_from _ _ parts.0 (are-begun lines es parts.1)

    -- a turn of the ticket's zone that ends it
    abbrev ticket-at : Name → ℕ → Ticket_at
    ticket-at z t = record { place = place_of zones (Zone z); number = t }

    abbrev awaits : Name → ℕ → records.Awaited
    awaits z t = record { zone = z; ticket = t }

    ends-turn : (z y : Name) (t : ℕ) (e : Entry) → place_of zones (Zone z) ≢ 0 → e.event ≡ Turn y → e.subject ≡ Zone y → answers (ticket-at z t) (place_of zones e.subject) (said_by (Turn y) e.reply.head) ≡ true
        → records.ends (awaits z t) (Turn y) e.reply.head ≡ true
    ends-turn z y t e placed turn whose ends =
        let parts = and_parts (place_of zones (Zone z) == place_of zones e.subject) (ends_ticket t (turned_says e.reply.head)) ends in
        let same : z ≡ y = same-zone zones z y placed (eqb-true (place_of zones (Zone z)) (place_of zones e.subject) parts.0 ∙ ap (place_of zones) whose) in
        and_from _ _ (subst (λ x. bytes_eq z x ≡ true) same (same_self z)) (ends-ticket-head t e.reply.head parts.1)

    -- a ticket that is answered for threads is answered for sessions
    answered : (late : Bool) (n : ℕ) (z : Name) (t : ℕ) (h : List Entry) → n ≢ 0 → place_of zones (Zone z) ≢ 0 → AllFit h → words.is_answered M late n (ticket-at z t) h ≡ true → records.is_answered late n (awaits z t) h ≡ true
    answered late n z t [] some placed fit is = is
    answered late n z t (e ∷ h) some placed fit is =
        by_event e.event refl (λ rest. answered late n z t h some placed fit.1 rest) is
      where
        Goes : Event → Type 0
        Goes x = (words.is_answered M late n (ticket-at z t) h ≡ true → records.is_answered late n (awaits z t) h ≡ true)
            → (if (session_of x == 0) && answers (ticket-at z t) (place_of zones e.subject) (said_by x e.reply.head) then true else if session_of x == n then false else words.is_answered M late n (ticket-at z t) h) ≡ true
            → (records.ends (awaits z t) x e.reply.head || (not (is_line_of n x) && records.is_answered late n (awaits z t) h)) ≡ true

        or_right : (a b : Bool) → b ≡ true → (a || b) ≡ true
        or_right true b is = refl
        or_right false b is = is

        of_line : (m : ℕ) (text : List ℕ) → session_of (Session m text) ≢ no_session → Goes (Session m text)
        of_line m text mine rest is =
            let own = its-session m text (some-session m mine) in
            let far : (session_of (Session m text) == 0) ≡ false = ne_eqb (session_of (Session m text)) 0 (λ none. some-session m mine (sym own ∙ none)) in
            let on : (if session_of (Session m text) == n then false else words.is_answered M late n (ticket-at z t) h) ≡ true =
            subst (λ b. (if b && answers (ticket-at z t) (place_of zones e.subject) (line_says e.reply.head) then true else if session_of (Session m text) == n then false else words.is_answered M late n (ticket-at z t) h) ≡ true) far is in
            at_test (session_of (Session m text) == n) refl on
          where
            at_test : (b : Bool) → (session_of (Session m text) == n) ≡ b → (if b then false else words.is_answered M late n (ticket-at z t) h) ≡ true → (not (nat_eq n m) && records.is_answered late n (awaits z t) h) ≡ true
            at_test true t is = absurd (false≢true is)
            at_test false t is =
                let away : n ≢ m = λ same. false≢true (sym t ∙ eq-eqb (session_of (Session m text)) n (its-session m text (some-session m mine) ∙ sym same)) in
                rw (ne_eqb n m away) (rest is)

        of_turn : (y : Name) → e.event ≡ Turn y → Goes (Turn y)
        of_turn y turn rest is = at_end (answers (ticket-at z t) (place_of zones e.subject) (turned_says e.reply.head)) refl
          where
            at_end : (b : Bool) → answers (ticket-at z t) (place_of zones e.subject) (turned_says e.reply.head) ≡ b → (records.ends (awaits z t) (Turn y) e.reply.head || records.is_answered late n (awaits z t) h) ≡ true
            at_end true ends = rw (ends-turn z y t e placed turn (fit.0.turned y turn) ends) refl
            at_end false ends =
                let on : (if 0 == n then false else words.is_answered M late n (ticket-at z t) h) ≡ true =
                subst (λ b. (if b then true else if 0 == n then false else words.is_answered M late n (ticket-at z t) h) ≡ true) ends is in
                or_right _ _ (rest (subst (λ b. (if b then false else words.is_answered M late n (ticket-at z t) h) ≡ true) (ne_eqb 0 n (λ none. some (sym none))) on))

        by_event : (x : Event) → e.event ≡ x → Goes x
        by_event (Session m text) is = of_line m text (subst (λ x. session_of x ≢ no_session) is fit.0.mine)
        by_event (Turn y) is = of_turn y is
        by_event (Call_of y pid c) is = absurd (fit.0.mine (ap session_of is))
        by_event (System what) is = absurd (fit.0.mine (ap session_of is))
        by_event Restart is = absurd (fit.0.mine (ap session_of is))

    -- each ticket
    answered-line : (late : Bool) (n : ℕ) (text : List ℕ) (s : Subject) (head : Head) (h : List Entry) → n ≢ 0 → place_of zones s ≢ 0 → AllFit h → words.is_answered_if M late n (ticket_of (place_of zones s) (line_says head)) h ≡ true
        → records.is_answered_to late (Session n text) (awaited s head) h ≡ true
    answered-line late n text (Zone z) (Ticket t) h some placed fit is = answered late n z t h some placed fit is
    answered-line late n text (Zone z) _ h some placed fit is = refl
    answered-line late n text Global head h some placed fit is = refl
    answered-line late n text Whole head h some placed fit is = refl

    answered-to : (late : Bool) (x : Event) (s : Subject) (head : Head) (h : List Entry) → session_of x ≢ no_session → place_of zones s ≢ 0 → AllFit h
        → words.is_answered_if M late (session_of x) (if session_of x == 0 then None else ticket_of (place_of zones s) (said_by x head)) h ≡ true → records.is_answered_to late x (awaited s head) h ≡ true
    answered-to late (Session n text) s head h mine placed fit is =
        let some = some-session n mine in
        let own = its-session n text some in
        let of_own : words.is_answered_if M late n (if n == 0 then None else ticket_of (place_of zones s) (line_says head)) h ≡ true =
        subst (λ k. words.is_answered_if M late k (if k == 0 then None else ticket_of (place_of zones s) (line_says head)) h ≡ true) own is in
        answered-line late n text s head h some placed fit (subst (λ (b : Bool). words.is_answered_if M late n (if b then None else ticket_of (place_of zones s) (line_says head)) h ≡ true) (ne_eqb n 0 some) of_own)
    answered-to late (Turn z) s head h mine placed fit is = refl
    answered-to late (Call_of z pid c) s head h mine placed fit is = refl
    answered-to late (System what) s head h mine placed fit is = refl
    answered-to late Restart s head h mine placed fit is = refl

    tickets : (late : Bool) (h : List Entry) → AllFit h → words.all_answered M late h ≡ true → records.all_answered late h ≡ true
    tickets late [] fit is = refl
    tickets late (e ∷ h) fit is =
        let parts = and_parts (words.is_answered_if M late (session_of e.event) (if session_of e.event == 0 then None else ticket_of (place_of zones e.subject) (said_by e.event e.reply.head)) h) (words.all_answered M late h) is in
        and_from _ _ (answered-to late e.event e.subject e.reply.head h fit.0.mine fit.0.placed fit.1 parts.0) (tickets late h fit.1 parts.1)

    module _ (g : Past) (scripts : records.Scripts) (none : scripts 0 ≡ []) (no_other : scripts no_session ≡ []) (h : List Entry) where
      some-255 : no_session ≢ 0
      some-255 is = absurd (omega (arith, is))

      fit-from : all_right M.right M.one g h ≡ true → begin_lines M (scripts no_session) (entries_of M no_session h) ≡ true → AllFit h
      fit-from right lines = fits g h right (none-in (entries_of M no_session h) (subst (λ ls. begin_lines M ls (entries_of M no_session h) ≡ true) no_other lines))

      -- a part of a record for threads is one for sessions
      pub partial : words.IsPartial M g scripts h → records.IsPartial (state_of brands g) scripts h
      partial r =
          let fit = fit-from r.legal (r.lines no_session some-255) in
          record {
            legal = legal g h r.legal;
            lines = λ n. at_session n (nat_eq n 0) refl fit;
            others = others-stand h fit r.turns;
            tickets = tickets true h fit r.tickets;
          }
        where
          at_session : (n : ℕ) (b : Bool) → nat_eq n 0 ≡ b → AllFit h → (rest : List (List ℕ)) × (lines_of n h ++ rest ≡ scripts n)
          at_session n true t fit = (scripts n, ap (λ ls. ls ++ scripts n) (ap (λ k. lines_of k h) (eqb-true n 0 t) ∙ lines-zero h fit))
          at_session n false t fit = let some : n ≢ 0 = λ is. false≢true (sym t ∙ eq-eqb n 0 is) in begins n h (scripts n) some fit (r.lines n some)

      -- and the whole is the whole
      pub whole : words.IsRecord M g scripts h → records.IsRecord (state_of brands g) scripts h
      whole r =
          let fit = fit-from r.legal (are-begun (scripts no_session) (entries_of M no_session h) (r.lines no_session some-255)) in
          record {
            legal = legal g h r.legal;
            lines = λ n. at_session n (nat_eq n 0) refl fit;
            others = others-stand h fit r.turns;
            tickets = tickets false h fit r.tickets;
          }
        where
          at_session : (n : ℕ) (b : Bool) → nat_eq n 0 ≡ b → AllFit h → lines_of n h ≡ scripts n
          at_session n true t fit =
              let zero_is = eqb-true n 0 t in
              ap (λ k. lines_of k h) zero_is ∙ (lines-zero h fit ∙ sym (ap scripts zero_is ∙ none))
          at_session n false t fit = let some : n ≢ 0 = λ is. false≢true (sym t ∙ eq-eqb n 0 is) in all-typed n h (scripts n) some fit (r.lines n some)
