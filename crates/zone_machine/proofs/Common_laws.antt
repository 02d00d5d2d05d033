-- What an event of one zone does to what is common, and what it takes from there. Nothing here opens a case of the machine.
use Rattle.std.proofs.lemmas.List.{map-append}
use Rattle.commit_journal.specs.Journal.{body_size, fits_after}
use Rattle.commit_journal.specs.Bodies.{body_text}
use Rattle.zone_disk.specs.Image.{blocks, used_by}
use Rattle.std.proofs.Common.{◌≡◌, ◌+◌, ◌∷◌, ◌++◌, [], ℕ, List, Bool, Option, Some, None, true, false, ◌&&◌, ◌||◌, not, length, refl, ap, sym, subst, ◌∙◌, length-append, arith}
use Rattle.std.specs.Prelude.{bytes_eq, filter, is_some, if◌then◌else◌}
use Rattle.std.specs.List.{list_any}
use Rattle.std.proofs.lemmas.Bool.{false≢true, true≢false}
use Rattle.zn_base.specs.Names.{Name}
use Rattle.zone_pools.proofs.Holding.{not_same}
use Rattle.brand_hooks.specs.Brands.{Tabled}
use Rattle.datalink_table.specs.Claims.{holds, same_claim}
use Rattle.commit_journal.specs.Store.{row_of}
use Rattle.zone_pools.proofs.Owned_laws.{mine-edit, other-list, same_self, same_true}
use Rattle.zone_pools.specs.Decisions.{asked_of}
use Rattle.zone_pools.specs.Owned_lists.{Go, edit_list, edited, mine}
use Rattle.zone_pools.specs.Pools.{fits_asked, said_by_all}
use Rattle.zone_pools.specs.declared.grant.Grant.{Grant}
use Rattle.zone_pools.specs.declared.grant.Grant.TheVariants.{Nothing}
use Rattle.zone_pools.specs.declared.owned.Owned.{Owned}
use Rattle.zone_machine.proofs.Acts_laws.{OwnSession, other-acts, own-acts}
use Rattle.zone_machine.proofs.Own_worlds.{decide-world, need-world, own_session, view-world}
use Rattle.zoneadmd_steps.specs.Arrivals.{Arrival, New_claim, New_id, New_process, New_record, No_new_thing}
use Rattle.zone_machine.specs.Machine.Common.{Common, HoldOnce, acts_common, came_common, common, holds_claim, holds_pid, holds_session, holds_zid, is_up, whole_common}
use Rattle.zone_cases.specs.State.Decisions.{Act, act_of, acts, acts_world, after_came}
use Rattle.zone_cases.specs.State.Edits.{Edit, Of_objects, comes, console_gone, edit, edits, keeps_console}
use Rattle.zone_cases.specs.Session.Lines.{Command, Kill, Line, line_of}
use Rattle.zone_machine.specs.Machine.{decide, holder, line_subject, need, one, one_of, session_number, session_subject, started, subject, whole}
use Rattle.kernel_objects.specs.Processes.{Process, has_pid}
use Rattle.zoneadmd_steps.specs.Objects.{Processes_go, all_of, has_zid}
use Rattle.zone_pools.specs.Firsts.{first_of}
use Rattle.zone_machine.specs.Machine.Pools.{allowed, allowed_of, fits, fits_of, is_installed, kind_of, of_kind, path_taken, pools_of}
use Rattle.commit_journal.proofs.Applied.{stored-push}
use Rattle.commit_journal.specs.Stored as rows
use Rattle.commit_journal.specs.Stored.{Rows}
use Rattle.zone_cases.specs.State.Declarations.{Declared}
use Rattle.zone_cases.specs.State.{At, Idle, Session as Session_mode, State, bodies_of, bytes_used}
use Rattle.zone_cases.specs.State.Worlds.{World, doing, view, view_of, world}
use Rattle.zone_cases.specs.declared.events.Event.{Event}
use Rattle.zone_cases.specs.declared.events.Event.TheVariants.{Process as Call_of, Restart, Session, System, Turn}
use Rattle.zone_cases.specs.declared.events.Subject.TheVariants.{Global, Whole, Zone}
use Rattle.commit_journal.specs.declared.records.Commit.{Commit}

-- what no world shows
record Rest : Type 0 where
  rows : Rows
  serial : ℕ
  used : ℕ
  last_pid : ℕ
  last_zid : ℕ
  declared : Declared
  brands : List Tabled

abbrev rest : State → Rest
rest S = record { rows = rows.stored S.commits; serial = length S.commits; used = bytes_used S.commits; last_pid = S.last_pid; last_zid = S.last_zid; declared = S.declared; brands = S.brands }

abbrev rest_in : Common → Rest
rest_in c = record { rows = c.rows; serial = c.serial; used = c.used; last_pid = c.last_pid; last_zid = c.last_zid; declared = c.declared; brands = c.brands }

rest-edit : (z : Name) (n : Option ℕ) (e : Edit) (S : State) → rest (edit z n e S) ≡ rest S
unfolding edit
rest-edit z n (Of_objects (Processes_go p)) S = refl
rest-edit z n _ S = refl

rest-edits : (z : Name) (n : Option ℕ) (es : List Edit) (S : State) → rest (edits z n es S) ≡ rest S
rest-edits z n [] S = refl
rest-edits z n (e ∷ es) S = rest-edits z n es (edit z n e S) ∙ rest-edit z n e S

-- one record more
blocks-push : (bodies : List (List ℕ)) (b : List ℕ) → length (blocks (bodies ++ b ∷ [])) ≡ length (blocks bodies) + 5 + length b
blocks-push [] b = omega (arith, length-append b [])
blocks-push (x ∷ xs) b = let ih = blocks-push xs b in omega (arith, ih, length-append x (blocks (xs ++ b ∷ [])), length-append x (blocks xs))

pub used-push : (bodies : List (List ℕ)) (b : List ℕ) → used_by (bodies ++ b ∷ []) ≡ used_by bodies + 5 + length b
used-push bodies b = let more = blocks-push bodies b in omega (arith, more)

used-more : (commits : List Commit) (c : Commit) → bytes_used (commits ++ c ∷ []) ≡ bytes_used commits + 5 + length (body_text c)
used-more commits c = ap used_by (map-append body_text commits (c ∷ [])) ∙ used-push (bodies_of commits) (body_text c)

rest-gone : (z : Name) (keeps : Bool) (S : State) → rest (console_gone z keeps S) ≡ rest S
rest-gone z true S = refl
rest-gone z false S = refl

rest-came : (z : Name) (a : Option Arrival) (S : State) → rest (after_came z a S) ≡ rest_in (came_common z a (common S))
unfolding comes
rest-came z None S = refl
rest-came z (Some (New_process p)) S = refl
rest-came z (Some (New_id i)) S = refl
rest-came z (Some (New_claim c)) S = refl
rest-came z (Some No_new_thing) S = refl
rest-came z (Some (New_record row)) S =
    let c : Commit = record { zone = z; stored = row } in
    let rows = stored-push S.commits c in
    let count : length (S.commits ++ c ∷ []) ≡ length S.commits + 1 = length-append S.commits (c ∷ []) in
    let bytes = used-more S.commits c in
    rest-gone z (keeps_console row) (record S { commits = S.commits ++ c ∷ [] })
    ∙ (λ i. record { rows = rows i; serial = count i; used = bytes i; last_pid = S.last_pid; last_zid = S.last_zid; declared = S.declared; brands = S.brands })

-- what comes is held only once its world shows it
held-came : (z : Name) (a : Option Arrival) (S : State) → record (came_common z a (common S)) { rows = rows.stored S.commits; serial = length S.commits; used = bytes_used S.commits; last_pid = S.last_pid; last_zid = S.last_zid } ≡ common S
held-came z None S = refl
held-came z (Some (New_process p)) S = refl
held-came z (Some _) S = refl

-- each zone's world after an act of z, as what it holds
spread : {A : Type 0} (of : World → A) (y z : Name) (n : Option ℕ) (a : Act) (S : State) → OwnSession z n S → of (world y (acts z n a S)) ≡ (if bytes_eq z y then of (acts_world n a (world z S)) else of (world y S))
spread of y z n a S own = at_zone (bytes_eq z y) refl
  where
    at_zone : (b : Bool) → bytes_eq z y ≡ b → of (world y (acts z n a S)) ≡ (if b then of (acts_world n a (world z S)) else of (world y S))
    at_zone true e = ap of (subst (λ x. world x (acts z n a S) ≡ acts_world n a (world z S)) (same_true z y e) (own-acts z n a S))
    at_zone false e = ap of (other-acts z y (λ w. not_same z y e (sym w)) n a S own)

-- what is common after an act of z is a function of z's world, the act, and what was common
pub common-acts : (z : Name) (n : Option ℕ) (a : Act) (S : State) → OwnSession z n S → common (started (acts z n a S)) ≡ acts_common z n a (world z S) (common S)
common-acts z n a S own =
    let r : rest (acts z n a S) ≡ rest_in (came_common z a.came (common S)) = rest-edits z n a.effect.edits (after_came z a.came S) ∙ rest-came z a.came S in
    let w = acts_world n a (world z S) in
    let held = sym (held-came z a.came S) in
    λ i. record {
      pids = λ y k. (spread (λ v. holds_pid v k) y z n a S own ∙ ap (λ (c : Common). if bytes_eq z y then holds_pid w k else c.pids y k) held) i;
      zids = λ y k. (spread (λ v. holds_zid v k) y z n a S own ∙ ap (λ (c : Common). if bytes_eq z y then holds_zid w k else c.zids y k) held) i;
      claims = λ y k. (spread (λ v. holds_claim v k) y z n a S own ∙ ap (λ (c : Common). if bytes_eq z y then holds_claim w k else c.claims y k) held) i;
      sessions = λ y k. (spread (λ v. holds_session v k) y z n a S own ∙ ap (λ (c : Common). if bytes_eq z y then holds_session w k else c.sessions y k) held) i;
      up = λ y. (spread is_up y z n a S own ∙ ap (λ (c : Common). if bytes_eq z y then is_up w else c.up y) held) i;
      rows = (r i).rows;
      serial = (r i).serial;
      used = (r i).used;
      last_pid = (r i).last_pid;
      last_zid = (r i).last_zid;
      declared = (r i).declared;
      brands = (r i).brands;
      started = true;
    }

-- the same of an event
pub common-one : (z : Name) (S : State) (e : Event) (g : Grant) → subject S e ≡ Zone z
    → common (one S e g).state ≡ acts_common z (session_number e) (act_of (decide (view_of z (world z S)) e) g) (world z S) (common S)
unfolding one
common-one z S e g is =
    ap (λ s. common (one_of s S e g).state) is
    ∙ (common-acts z (session_number e) (act_of (decide (view z S) e) g) S (own_session S e z is)
    ∙ ap (λ v. acts_common z (session_number e) (act_of (decide v e) g) (world z S) (common S)) (view-world z S))

pub common-global : (S : State) (e : Event) (g : Grant) → subject S e ≡ Global → common (one S e g).state ≡ record (common S) { started = true }
unfolding one
common-global S e g is = ap (λ s. common (one_of s S e g).state) is

-- what is common after an event of the whole system
pub common-of-whole : (S : State) (e : Event) → common (whole e S) ≡ whole_common e (common S)
common-of-whole S (Session n text) = refl
common-of-whole S (Turn z) = refl
common-of-whole S (Call_of z pid c) = refl
common-of-whole S (System what) = refl
common-of-whole S Restart = refl

pub common-whole : (S : State) (e : Event) (g : Grant) → subject S e ≡ Whole → common (one S e g).state ≡ whole_common e (common S)
unfolding one
common-whole S e g is = ap (λ s. common (one_of s S e g).state) is ∙ common-of-whole S e

-- lists with the same held by each zone have the same among them
module _ {A : Type 0} (p : A → Bool) where
  pub any_own : (os : List (Owned A)) → list_any (λ o. p o.it) os ≡ true → (z : Name) × (list_any p (mine z os) ≡ true)
  any_own [] h = absurd (false≢true h)
  any_own (o ∷ os) h = at_head (any_own os) (p o.it) refl
    where
      at_rest : p o.it ≡ false → (z : Name) → list_any p (mine z os) ≡ true → (b : Bool) → bytes_eq z o.zone ≡ b → list_any p (mine z (o ∷ os)) ≡ true
      at_rest e z found true f = simp (f, e, found)
      at_rest e z found false f = simp (f, found)

      at_head : (list_any (λ o. p o.it) os ≡ true → (z : Name) × (list_any p (mine z os) ≡ true)) → (b : Bool) → p o.it ≡ b → (z : Name) × (list_any p (mine z (o ∷ os)) ≡ true)
      at_head ih true e = (o.zone, simp (same_self o.zone, e))
      at_head ih false e = let found = ih (simp e at h) in (found.0, at_rest e found.0 found.1 (bytes_eq found.0 o.zone) refl)

  pub any_mine : (z : Name) (os : List (Owned A)) → list_any p (mine z os) ≡ true → list_any (λ o. p o.it) os ≡ true
  any_mine z [] h = h
  any_mine z (o ∷ os) h = at_tests (any_mine z os) (bytes_eq z o.zone) (p o.it) refl refl h
    where
      at_tests : (list_any p (mine z os) ≡ true → list_any (λ o. p o.it) os ≡ true) → (b q : Bool) → bytes_eq z o.zone ≡ b → p o.it ≡ q → list_any p (mine z (o ∷ os)) ≡ true → list_any (λ o. p o.it) (o ∷ os) ≡ true
      at_tests ih b true e f h = simp f
      at_tests ih true false e f h = simp f (ih (simp (e, f) at h))
      at_tests ih false false e f h = simp f (ih (simp e at h))

  pub same_any : (os ps : List (Owned A)) → ((z : Name) → list_any p (mine z os) ≡ list_any p (mine z ps)) → list_any (λ o. p o.it) os ≡ list_any (λ o. p o.it) ps
  same_any os ps h = at_tests (list_any (λ o. p o.it) os) (list_any (λ o. p o.it) ps) refl refl
    where
      passes : (xs ys : List (Owned A)) → ((z : Name) → list_any p (mine z xs) ≡ list_any p (mine z ys)) → list_any (λ o. p o.it) xs ≡ true → list_any (λ o. p o.it) ys ≡ true
      passes xs ys same e = let found = any_own xs e in any_mine found.0 ys (sym (same found.0) ∙ found.1)

      at_tests : (b c : Bool) → list_any (λ o. p o.it) os ≡ b → list_any (λ o. p o.it) ps ≡ c → b ≡ c
      at_tests true true e f = refl
      at_tests false false e f = refl
      at_tests true false e f = sym (passes os ps h e) ∙ f
      at_tests false true e f = sym e ∙ passes ps os (λ z. sym (h z)) f

-- what others than z have is among what is left once z's is gone
module _ {A : Type 0} (p : A → Bool) (z : Name) where
  abbrev elsewhere : List (Owned A) → Bool
  elsewhere os = list_any (λ o. not (bytes_eq z o.zone) && p o.it) os

  abbrev others : List (Owned A) → List (Owned A)
  others os = edit_list z (Go all_of) os

  elsewhere-others : (os : List (Owned A)) → elsewhere os ≡ list_any (λ o. p o.it) (others os)
  elsewhere-others [] = refl
  elsewhere-others (o ∷ os) = at_head (elsewhere-others os) (bytes_eq z o.zone) refl
    where
      at_head : elsewhere os ≡ list_any (λ o. p o.it) (others os) → (b : Bool) → bytes_eq z o.zone ≡ b → elsewhere (o ∷ os) ≡ list_any (λ o. p o.it) (others (o ∷ os))
      at_head ih true e = simp e ih
      at_head ih false e = simp e (ap (λ b. p o.it || b) ih)

  none_left : (xs : List A) → list_any p (edited (Go all_of) xs) ≡ false
  none_left [] = refl
  none_left (x ∷ xs) = none_left xs

  pub same-elsewhere : (os ps : List (Owned A)) → ((y : Name) → list_any p (mine y os) ≡ list_any p (mine y ps)) → elsewhere os ≡ elsewhere ps
  same-elsewhere os ps same = elsewhere-others os ∙ (same_any p (others os) (others ps) (λ y. at_zone y (bytes_eq z y) refl) ∙ sym (elsewhere-others ps))
    where
      gone : (xs : List (Owned A)) → list_any p (mine z (others xs)) ≡ false
      gone xs = ap (list_any p) (mine-edit z (Go all_of) xs) ∙ none_left (mine z xs)

      at_zone : (y : Name) (b : Bool) → bytes_eq z y ≡ b → list_any p (mine y (others os)) ≡ list_any p (mine y (others ps))
      at_zone y true e = subst (λ x. list_any p (mine x (others os)) ≡ list_any p (mine x (others ps))) (same_true z y e) (gone os ∙ sym (gone ps))
      at_zone y false e =
          let ne = not_same z y e in
          ap (list_any p) (other-list z y (λ w. ne (sym w)) (Go all_of) os) ∙ (same y ∙ sym (ap (list_any p) (other-list z y (λ w. ne (sym w)) (Go all_of) ps)))

-- what the pools know, whose an event is, and what is allowed and fits, from what is common and the zone's world
pub pools-common : (S T : State) → common S ≡ common T → pools_of S ≡ pools_of T
pools-common S T h = λ i. record {
  pid_used = λ n. same_any (has_pid n) S.processes T.processes (λ z. ap (λ k. k.pids z n) h) i;
  zid_used = λ n. same_any (has_zid n) S.ids T.ids (λ z. ap (λ k. k.zids z n) h) i;
  last_pid = (h i).last_pid;
  last_zid = (h i).last_zid;
  zones = length (h i).rows;
  path_taken = path_taken (h i).rows;
  serial = (h i).serial;
  may_store = λ z size. fits_after (h i).used (body_size z size);
  may_hold = λ z pool item. of_kind (λ c. holds c (h i).declared.items && not (same-elsewhere (same_claim c) z S.claims T.claims (λ y. ap (λ k. k.claims y c) h) i)) (kind_of pool) item;
  may_clone = λ z. is_installed (row_of z (h i).rows) && not ((h i).up z);
}

-- the zone that has the process of a number, where one zone at most has it
module _ (n : ℕ) where
  abbrev found : List (Owned Process) → Option (Owned Process)
  found os = first_of (filter (λ o. has_pid n o.it) os)

  abbrev pub has_it : Name → List (Owned Process) → Bool
  has_it z os = list_any (has_pid n) (mine z os)

  found-has : (os : List (Owned Process)) (o : Owned Process) → found os ≡ Some o → has_it o.zone os ≡ true
  found-has [] o h = absurd (cc)
  found-has (p ∷ os) o h = at_head (found-has os o) (has_pid n p.it) refl h
    where
      at_rest : has_pid n p.it ≡ false → has_it o.zone os ≡ true → (b : Bool) → bytes_eq o.zone p.zone ≡ b → has_it o.zone (p ∷ os) ≡ true
      at_rest e ih true f = simp (f, e, ih)
      at_rest e ih false f = simp (f, ih)

      at_head : (found os ≡ Some o → has_it o.zone os ≡ true) → (b : Bool) → has_pid n p.it ≡ b → found (p ∷ os) ≡ Some o → has_it o.zone (p ∷ os) ≡ true
      at_head ih true e h = let first : Some p ≡ Some o = simp e at h in let same : p ≡ o = cc in subst (λ q. has_it q.zone (p ∷ os) ≡ true) same (simp (same_self p.zone, e))
      at_head ih false e h = at_rest e (ih (simp e at h)) (bytes_eq o.zone p.zone) refl

  none-has : (os : List (Owned Process)) → found os ≡ None → (z : Name) → has_it z os ≡ false
  none-has [] h z = refl
  none-has (p ∷ os) h z = at_head (λ h. none-has os h z) (has_pid n p.it) refl h
    where
      at_rest : has_pid n p.it ≡ false → has_it z os ≡ false → (b : Bool) → bytes_eq z p.zone ≡ b → has_it z (p ∷ os) ≡ false
      at_rest e ih true f = simp (f, e, ih)
      at_rest e ih false f = simp (f, ih)

      at_head : (found os ≡ None → has_it z os ≡ false) → (b : Bool) → has_pid n p.it ≡ b → found (p ∷ os) ≡ None → has_it z (p ∷ os) ≡ false
      at_head ih true e h = let first : Some p ≡ None = simp e at h in absurd (cc)
      at_head ih false e h = at_rest e (ih (simp e at h)) (bytes_eq z p.zone) refl

  pub holder-one : (os : List (Owned Process)) (y : Name) → has_it y os ≡ true → ((z : Name) → has_it z os ≡ true → z ≡ y) → holder (found os) ≡ Zone y
  holder-one os y has only = at_found (found os) refl
    where
      at_found : (o : Option (Owned Process)) → found os ≡ o → holder o ≡ Zone y
      at_found (Some o) e = ap Zone (only o.zone (found-has os o e))
      at_found None e = absurd (false≢true (sym (none-has os e y) ∙ has))

  pub holder-none : (os : List (Owned Process)) → ((z : Name) → has_it z os ≡ false) → holder (found os) ≡ Global
  holder-none os none = at_found (found os) refl
    where
      at_found : (o : Option (Owned Process)) → found os ≡ o → holder o ≡ Global
      at_found (Some o) e = absurd (false≢true (sym (none o.zone) ∙ found-has os o e))
      at_found None e = refl

  holder-common : (os ps : List (Owned Process)) → ((z : Name) → has_it z os ≡ has_it z ps) → ((y z : Name) → has_it y os ≡ true → has_it z os ≡ true → y ≡ z) → holder (found os) ≡ holder (found ps)
  holder-common os ps same once = at_found (found os) refl
    where
      at_found : (o : Option (Owned Process)) → found os ≡ o → holder o ≡ holder (found ps)
      at_found (Some o) e = let has = found-has os o e in sym (holder-one ps o.zone (sym (same o.zone) ∙ has) (λ z h. once z o.zone (same z ∙ h) has))
      at_found None e = sym (holder-none ps (λ z. sym (same z) ∙ none-has os e z))

line-common : (zone : Option (List ℕ)) (os ps : List (Owned Process)) (c : Command) → ((z : Name) (n : ℕ) → has_it n z os ≡ has_it n z ps) → HoldOnce (λ z n. has_it n z os)
    → line_subject zone os c ≡ line_subject zone ps c
line-common word os ps (Kill signal pid) same once = holder-common pid os ps (λ z. same z pid) (λ y z. once y z pid)
line-common word os ps _ same once = refl

session-common : (line : Line) (os ps : List (Owned Process)) (m n : Session_mode) → ((z : Name) → is_some (doing z m) ≡ is_some (doing z n)) → line_subject line.zone os line.command ≡ line_subject line.zone ps line.command
    → session_subject line os m ≡ session_subject line ps n
session-common line os ps Idle Idle h same = same
session-common line os ps (At x d) Idle h same = let e : is_some (doing x (At x d)) ≡ false = h x in absurd (true≢false (simp (same_self x) at e))
session-common line os ps Idle (At y d) h same = let e : false ≡ is_some (doing y (At y d)) = h y in absurd (false≢true (simp (same_self y) at e))
session-common line os ps (At x c) (At y d) h same = ap Zone (at_zone (bytes_eq x y) refl)
  where
    at_zone : (b : Bool) → bytes_eq x y ≡ b → x ≡ y
    at_zone true e = same_true x y e
    at_zone false e = let f : is_some (doing x (At x c)) ≡ is_some (doing x (At y d)) = h x in absurd (true≢false (simp (same_self x, e) at f))

pub subject-common : (S T : State) (e : Event) → HoldOnce (common S).pids → common S ≡ common T → subject S e ≡ subject T e
unfolding subject
subject-common S T (Session n text) once h =
    let line = line_of text in
    session-common line S.processes T.processes (S.sessions n) (T.sessions n) (λ z. ap (λ k. k.sessions z n) h) (line-common line.zone S.processes T.processes line.command (λ z n. ap (λ k. k.pids z n) h) once)
subject-common S T (Turn z) once h = refl
subject-common S T (Call_of z pid c) once h = refl
subject-common S T (System what) once h = refl
subject-common S T Restart once h = refl

module _ (z : Name) (S T : State) (e : Event) (is : subject S e ≡ Zone z) (once : HoldOnce (common S).pids) (h : common S ≡ common T) (w : world z S ≡ world z T) where
  it : subject T e ≡ Zone z
  it = sym (subject-common S T e once h) ∙ is

  pub need-common : need S e ≡ need T e
  need-common = need-world z S T e is it w

  pub allowed-common : allowed S e ≡ allowed T e
  unfolding allowed
  allowed-common = ap (λ x. allowed_of x S e) is ∙ ((λ i. said_by_all (pools-common S T h i) z (asked_of (decide-world z S T e w i)) Nothing) ∙ sym (ap (λ x. allowed_of x T e) it))

  pub fits-common : (g : Grant) → fits S e g ≡ fits T e g
  unfolding fits
  fits-common g = ap (λ x. fits_of x S e g) is ∙ ((λ i. fits_asked (pools-common S T h i) z (asked_of (decide-world z S T e w i)) g) ∙ sym (ap (λ x. fits_of x T e g) it))
