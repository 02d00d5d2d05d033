-- A session that has to wait for a ticket by its record waits for it in the machine, and a turn of that zone's daemon is not idle meanwhile.
use Rattle.std.proofs.Common.{◌≡◌, ◌&&◌, ◌++◌, ◌∷◌, [], ℕ, List, Bool, Option, Some, None, true, false, ap, nat_eq, not, refl, sym, subst, ◌∙◌}
use Rattle.std.specs.Prelude.{◌≢◌, bytes_eq, is_some, if◌then◌else◌}
use Rattle.std.proofs.lemmas.Bool.{and_parts, eq-eqb, eqb-true, false≢true, false_from_ne_true}
use Rattle.brand_hooks.specs.Brands.{Tabled}
use Rattle.commit_journal.specs.declared.records.Commit.{Commit}
use Rattle.zn_base.specs.Names.{Name}
use Rattle.zone_pools.specs.declared.grant.Grant.{Grant}
use Rattle.zoneadmd_steps.specs.Local.{is_idle}
use Rattle.zoneadmd_steps.specs.declared.requests.TurnReply.{TurnReply}
use Rattle.zoneadmd_steps.specs.declared.requests.TurnReply.TheVariants.{Idle as No_work}
use Rattle.zone_cases.specs.State.{At, Awaiting, State}
use Rattle.zone_cases.specs.State.Decisions.{says}
use Rattle.zone_cases.specs.State.Worlds.{world}
use Rattle.zone_cases.specs.declared.events.Entry.{Entry}
use Rattle.zone_cases.specs.declared.events.Event.{Event}
use Rattle.zone_cases.specs.declared.events.Event.TheVariants.{Process as Call_of, Restart, Session, System, Turn}
use Rattle.zone_cases.specs.declared.events.Subject.{Subject}
use Rattle.zone_cases.specs.declared.events.Subject.TheVariants.{Global, Whole, Zone}
use Rattle.zone_cases.specs.declared.replies.Head.{Head}
use Rattle.zone_cases.specs.declared.replies.Head.TheVariants.{Ticket, Turned as Told}
use Rattle.zone_cases.specs.declared.replies.Reply.{Reply}
use Rattle.zone_machine.proofs.Same_laws.{reply-Decides, subject-Decides}
use Rattle.zone_machine.proofs.Turned_laws.{turn-reply, turn_act}
use Rattle.zone_machine.specs.Machine.{one, opening, subject}
use Rattle.zone_machine.specs.Machine.Histories.{after, after_entry, is_allowed, is_legal, is_told}
use Rattle.zone_machine.specs.Machine.Same.{same_reply, same_subject}
use Rattle.session_records.proofs.Runs.{after-append}
use Rattle.session_records.proofs.Turn_ends.{waits-turn}
use Rattle.session_records.proofs.Typed_lines.{ticket-waits, waits-line}
use Rattle.session_records.specs.Folds.{all_right, folded}
use Rattle.session_records.specs.Records.{Awaited, Scripts, awaited, ends, ends_head, is_idle_head}
use Rattle.session_records.specs.Scripts.{Progress, after_line, begun, keeps_scripts, may_come, may_come_by, noted, progress_after, waits_after}

-- whoever waits by its progress does so in the state
abbrev pub AllWait : (ℕ → Progress) → State → Type 0
AllWait p S = (n : ℕ) (w : Awaited) → (p n).waits ≡ Some w → S.sessions n ≡ At w.zone (Awaiting w.ticket)

-- the one or the other
abbrev or_else : Awaited → Option Awaited → Awaited
or_else w None = w
or_else w (Some v) = v

-- an entry's event, whose it is and how its reply begins
module _ (p : ℕ → Progress) (S : State) (all : AllWait p S) (g : Grant) (n : ℕ) (w : Awaited) where
  abbrev Goes_on : Event → Type 0
  Goes_on x = (one S x g).state.sessions n ≡ At w.zone (Awaiting w.ticket)

  -- its own line is answered a ticket
  by-own : (m : ℕ) (text : List ℕ) (s : Subject) (k : Head) → s ≡ subject S (Session m text) → k ≡ (one S (Session m text) g).reply.head → n ≡ m → awaited s k ≡ Some w → Goes_on (Session m text)
  by-own m text (Zone z) (Ticket t) whose told same is =
      let v : Awaited = record { zone = z; ticket = t } in
      let waits : (one S (Session m text) g).state.sessions m ≡ At z (Awaiting t) = ticket-waits S m text g z t (sym whose) (sym told) in
      ap (λ i. (one S (Session m text) g).state.sessions i) same ∙ (waits ∙ ap (λ o. let u = or_else v o in At u.zone (Awaiting u.ticket)) is)
  by-own m text (Zone z) _ whose told same is = absurd (false≢true (ap is_some is))
  by-own m text Global k whose told same is = absurd (false≢true (ap is_some is))
  by-own m text Whole k whose told same is = absurd (false≢true (ap is_some is))

  by-line : (m : ℕ) (text : List ℕ) (s : Subject) (k : Head) → s ≡ subject S (Session m text) → k ≡ (one S (Session m text) g).reply.head → (progress_after (Session m text) s k n (p n)).waits ≡ Some w → Goes_on (Session m text)
  by-line m text s k whose told = at_test (nat_eq n m) refl
    where
      at_test : (b : Bool) → nat_eq n m ≡ b → (if b then after_line s k (p n) else p n).waits ≡ Some w → Goes_on (Session m text)
      at_test true t is = by-own m text s k whose told (eqb-true n m t) is
      at_test false t is =
          let other : nat_eq m n ≡ false = false_from_ne_true (nat_eq m n) (λ e. false≢true (sym t ∙ eq-eqb n m (sym (eqb-true m n e)))) in
          waits-line S m n text g w.zone w.ticket other (all n w is)

  by-turn : (z : Name) (k : Head) → k ≡ (one S (Turn z) g).reply.head → waits_after (Turn z) k (p n).waits ≡ Some w → Goes_on (Turn z)
  by-turn z k told = at_wait (p n).waits refl
    where
      -- the session waited for v, which this turn doesn't end
      on : (v : Awaited) → (p n).waits ≡ Some v → (b : Bool) → ends v (Turn z) k ≡ b → (if b then None else Some v) ≡ Some w → Goes_on (Turn z)
      on v was true e is = absurd (false≢true (ap is_some is))
      on v was false e is =
          let head : k ≡ Told (turn_act (world z S) g).effect.reply = told ∙ ap (λ (r : Reply). r.head) (turn-reply z S g) in
          let same : v ≡ w = ap (or_else v) is in
          subst (λ (u : Awaited). (one S (Turn z) g).state.sessions n ≡ At u.zone (Awaiting u.ticket)) same
          (waits-turn S z g v.zone v.ticket n (ap (λ h. bytes_eq v.zone z && ends_head v.ticket h) (sym head) ∙ e) (all n v was))

      at_wait : (o : Option Awaited) → (p n).waits ≡ o → waits_after (Turn z) k o ≡ Some w → Goes_on (Turn z)
      at_wait None was is = absurd (false≢true (ap is_some is))
      at_wait (Some v) was is = on v was (ends v (Turn z) k) refl is

  by-event : (x : Event) (s : Subject) (k : Head) → s ≡ subject S x → k ≡ (one S x g).reply.head → may_come_by p x k ≡ true → (progress_after x s k n (p n)).waits ≡ Some w → Goes_on x
  by-event (Session m text) s k whose told may is = by-line m text s k whose told is
  by-event (Turn z) s k whose told may is = by-turn z k told is
  by-event (Call_of z pid c) s k whose told may is = absurd (false≢true may)
  by-event (System what) s k whose told may is = absurd (false≢true may)
  by-event Restart s k whose told may is = absurd (false≢true may)

pub wait-on : (p : ℕ → Progress) (S : State) (e : Entry) → is_told S e ≡ true → may_come p e ≡ true → AllWait p S → AllWait (noted p e) (after_entry S e)
unfolding noted may_come
wait-on p S e told may all n w is =
    let parts = and_parts (same_subject e.subject (subject S e.event)) (same_reply e.reply (one S e.event e.grant).reply) told in
    let whose = (subject-Decides e.subject (subject S e.event)).0 parts.0 in
    let reply = (reply-Decides e.reply (one S e.event e.grant).reply).0 parts.1 in
    by-event p S all e.grant n w e.event e.subject e.reply.head whose (ap (λ (r : Reply). r.head) reply) may is

all-wait : (p : ℕ → Progress) (S : State) (h : List Entry) → is_legal S h ≡ true → all_right may_come noted p h ≡ true → AllWait p S → AllWait (folded noted p h) (after S h)
all-wait p S [] legal keeps all = all
all-wait p S (e ∷ h) legal keeps all =
    let here = and_parts (is_told S e && is_allowed S e.event e.grant) (is_legal (after_entry S e) h) legal in
    let told = (and_parts (is_told S e) (is_allowed S e.event e.grant) here.0).0 in
    let may = and_parts (may_come p e) (all_right may_come noted (noted p e) h) keeps in
    all-wait (noted p e) (after_entry S e) h here.1 may.1 (wait-on p S e told may.0 all)

pub session-waits : (S : State) (scripts : Scripts) (h : List Entry) (n : ℕ) (w : Awaited) → is_legal S h ≡ true → keeps_scripts scripts h ≡ true → (folded noted (begun scripts) h n).waits ≡ Some w
    → (after S h).sessions n ≡ At w.zone (Awaiting w.ticket)
session-waits S scripts h n w legal keeps is = all-wait (begun scripts) S h legal keeps (λ m v none. absurd (false≢true (ap is_some none))) n w is

-- a turn that doesn't tell that there is no work
busy : (r : TurnReply) → says (Told r) ≢ says (Told No_work) → not (is_idle r) ≡ true
busy No_work other = absurd (other refl)
busy _ other = refl

-- after any history no turn of a daemon is idle for which a session waits: a law of histories
abbrev pub NeverIdle : Type 0
NeverIdle = (z : Name) (brands : List Tabled) (R : List Commit) (h : List Entry) (n ticket : ℕ) (g : Grant)
    → (let S = after (opening brands R) h in S.sessions n ≡ At z (Awaiting ticket) → (one S (Turn z) g).reply ≢ says (Told No_work))

-- so a turn of the daemon for which a session waits may come
pub waiting-works : NeverIdle → (brands : List Tabled) (R : List Commit) (h : List Entry) (p : ℕ → Progress) (n : ℕ) (w : Awaited) (e : Entry)
    → (let S = after (opening brands R) h in S.sessions n ≡ At w.zone (Awaiting w.ticket) → e.event ≡ Turn w.zone → is_told S e ≡ true → may_come p e ≡ true)
unfolding may_come
waiting-works never brands R h p n w e there turns told =
    let S = after (opening brands R) h in
    let awake = never w.zone brands R h n w.ticket e.grant there in
    let reply : e.reply ≡ says (Told (turn_act (world w.zone S) e.grant).effect.reply) =
    (reply-Decides e.reply (one S e.event e.grant).reply).0 (and_parts (same_subject e.subject (subject S e.event)) (same_reply e.reply (one S e.event e.grant).reply) told).1
    ∙ (ap (λ x. (one S x e.grant).reply) turns ∙ turn-reply w.zone S e.grant) in
    ap (λ x. may_come_by p x e.reply.head) turns
    ∙ (ap (λ (r : Reply). not (is_idle_head r.head)) reply ∙ busy (turn_act (world w.zone S) e.grant).effect.reply (λ idle. awake (turn-reply w.zone S e.grant ∙ idle)))

pub turn-works : NeverIdle → (brands : List Tabled) (R : List Commit) (first : List Entry) (scripts : Scripts) (h : List Entry) (n : ℕ) (w : Awaited) (e : Entry)
    → is_legal (after (opening brands R) first) h ≡ true → keeps_scripts scripts h ≡ true → (folded noted (begun scripts) h n).waits ≡ Some w
    → e.event ≡ Turn w.zone → is_told (after (after (opening brands R) first) h) e ≡ true → may_come (folded noted (begun scripts) h) e ≡ true
turn-works never brands R first scripts h n w e legal keeps waits turns told =
    let same = sym (after-append (opening brands R) first h) in
    waiting-works never brands R (first ++ h) (folded noted (begun scripts) h) n w e
    (subst (λ (T : State). T.sessions n ≡ At w.zone (Awaiting w.ticket)) same (session-waits (after (opening brands R) first) scripts h n w legal keeps waits)) turns
    (subst (λ (T : State). is_told T e ≡ true) same told)
