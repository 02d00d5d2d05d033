-- What the machine's parts say of a state that they stand for, and a step of them.
use Rattle.commit_journal.specs.Journal.{body_size, fits_after}
use Rattle.std.proofs.Common.{◌≡◌, ◌⊎◌, IfOk, inl, inr, ◌∷◌, ◌<◌, ℕ, List, Bool, Option, Some, None, Result, Ok as Right, Err, true, false, get_or, length, refl, ap, sym, subst, ◌∙◌, []}
use Rattle.indexmap.proofs.CallerLemmas.{updates-with_value_at}
use Rattle.indexmap.specs.IndexMap.{IsUnique, get, get_by, index_of_by, keys, with_value_at, values}
use Rattle.std.specs.Cmp.Lexicographic.{nat_list_eq_equiv}
use Rattle.std.specs.Prelude.{IfErr, IsErrOf, bytes_eq, is_some, nat_eq, not, slice_get, ◌&&◌, ◌||◌, if◌then◌else◌}
use Rattle.std.specs.List.{list_any}
use Rattle.std.specs.Option.{option_map}
use Rattle.std.proofs.lemmas.List.Quantifiers.{position-Some}
use Rattle.std.proofs.lemmas.Option.{get_or_from_slice_get, slice_get-get_or, slice_get-map}
use Rattle.zn_base.specs.Names.{Name, name_of}
use Rattle.zn_base.specs.declared.name.NameFault.{NameFault}
use Rattle.zn_base.specs.declared.state.ZoneState.{ZoneState}
use Rattle.zone_pools.proofs.Owned_laws.{mine-edit, other-list, same_self, same_true}
use Rattle.zone_pools.proofs.Holding.{not_same}
use Rattle.datalink_table.specs.Claims.{holds, same_claim}
use Rattle.datalink_table.specs.Shared.{holder, may_hold}
use Rattle.zoneadmd_steps.specs.Objects.{all_of, has_zid}
use Rattle.zone_pools.specs.Asked.{Asked}
use Rattle.zone_pools.specs.Decisions.{asked_of}
use Rattle.zone_pools.specs.Owned_lists.{Go, edit_list, edited, mine}
use Rattle.zone_pools.specs.Owners.{is_owner, owner}
use Rattle.zone_pools.specs.Pools.{fits_asked, said_by_all, Pools}
use Rattle.zone_pools.specs.declared.grant.Grant.{Grant}
use Rattle.zone_pools.specs.declared.grant.Grant.TheVariants.{Denied, Nothing, Number, Yes}
use Rattle.zone_pools.specs.Same.{same_grant}
use Rattle.zone_pools.specs.declared.owned.Owned.{Owned}
use Rattle.zone_machine.proofs.Common_laws.{any_mine, any_own}
use Rattle.zone_machine.proofs.Own_worlds.{leaves}
use Rattle.zone_machine.proofs.Standing.{cell-stands, decide-stands, outside-stands, stored-stands, subject-stands}
use Rattle.zone_cases.specs.Code.Cells.{CellOf, IsHeardIn, Outside, cell_world, empty_world, outside_of, world_or_empty}
use Rattle.zone_machine.specs.Code.Cells.{Keeps, SharedOf, Stands, cell_at, common_in, declared_in, outside_in, row_in}
use Rattle.zone_machine.specs.Code.Needs.{pools_in}
use Rattle.zone_machine.specs.Code.Reads.{decide_in, held_subject, idle_subject, is_turn, subject_at, subject_in}
use Rattle.zone_machine.specs.Machine.Common.{Common, common}
use Rattle.zone_machine.specs.Machine.Histories.{concerns}
use Rattle.zone_cases.specs.Session.Lines.{Command, Kill, Line, line_of}
use Rattle.zone_cases.specs.declared.events.Declaration.{Declaration}
use Rattle.zone_machine.specs.Machine.{decide, declare_reply, declared_by, global_reply, named_subject, one, one_of, subject, subject_of_name, whole}
use Rattle.zone_cases.specs.Events.{is_restart}
use Rattle.zone_machine.specs.Machine.Pools.{allowed, allowed_of, fits, fits_of, is_installed, kind_of, of_kind, path_taken, pools_of}
use Rattle.zone_cases.specs.State.{State, stored}
use Rattle.zone_cases.specs.Code.Doings.{as_doing}
use Rattle.zone_cases.specs.declared.session.doings.Doing.{Doing}
use Rattle.zone_cases.specs.Session.Typed.{typed}
use Rattle.zn_io.specs.Disk.{View as Disk_view}
use Rattle.zone_disk.specs.Bank.{Account}
use Rattle.zone_machine.specs.Code.Records.{BankLeft, StoresUnder}
use Rattle.zone_machine.specs.Code.Rooms.{Alike, IsFreeOf}
use Rattle.zone_machine.specs.Code.Cell_steps.{CellAnswers, CellLeaves, IsCellStep, IsCellMisfitUnder, IsCellStepUnder}
use Rattle.zone_machine.specs.Code.Steps.{IsRefusedIfUnfit, IsStep, IsStepUnder, IsZoneState, Answers, IsGrantFor, IsUnfit, IsMisfitUnder, IsTaken, Leaves, LeavesGranted, Takes, AsItWas}
use Rattle.zone_machine.specs.declared.faults.StepFault.{StepFault}
use Rattle.zone_machine.specs.declared.faults.StepFault.TheVariants.{BadGrant, DiskFault, Memory, NoStore, WouldRecord}
use Rattle.zone_cases.specs.State.Worlds.{World, objects_of, view, view_of, world, View}
use Rattle.zoneadmd_steps.specs.declared.desks.Desk.{Desk}
use Rattle.zone_cases.specs.declared.cell.Cell.{Cell}
use Rattle.zone_cases.specs.declared.events.Entry.{Entry}
use Rattle.zone_cases.specs.declared.events.Event.{Event}
use Rattle.zone_cases.specs.declared.events.Event.TheVariants as event
use Rattle.zone_cases.specs.declared.events.Subject.{Subject}
use Rattle.zone_cases.specs.declared.events.Subject.TheVariants.{Zone, Global, Whole}
use Rattle.zone_machine.specs.declared.machine.parts.Parts.{Parts}
use Rattle.commit_journal.specs.declared.records.Record.{Record}
use Rattle.zone_cases.specs.declared.replies.Reply.{Reply}
use Rattle.zone_machine.specs.declared.machine.shared.Shared.{Shared}
use Rattle.kernel_objects.specs.Processes.{has_pid}
use Rattle.kernel_objects.specs.Shared.{Shared as Kernel, pid_owner, zid_owner}
use Rattle.zoneadmd_steps.specs.Desks.{state_of}
use Rattle.zone_cases.specs.State.Decisions.{Decision, act_of}
use Rattle.zone_machine.proofs.Case_asks.{asks_case}
use Rattle.zone_machine.proofs.Freeing.{freed, numbered_case}
use Rattle.zone_cases.specs.Code.Cases.{IsNumbered, decision_of, IsCaseIn}
use Rattle.zone_machine.specs.Code.Decided.{IsCellAt, IsHeard, IsNextHook}
use Rattle.brand_hooks.specs.Brands.{Tabled}
use Rattle.brand_hooks.specs.declared.change.Change.{Change}
use Rattle.brand_hooks.specs.declared.table.HookAnswer.{HookAnswer}
use Rattle.brand_hooks.specs.declared.table.HookAnswer.TheVariants.{Proceed}
use Rattle.zoneadmd_steps.specs.Code.Cases.{heard, next_answer}
use Rattle.zone_cases.specs.State.Declarations.{Declared, none_declared}
use Rattle.std.proofs.lemmas.Bool.{false≢true}
use Rattle.zone_cases.specs.declared.cases.Case.{Case}

-- what the pools know
module _ {A : Type 0} (p : A → Bool) where
  -- a number is used exactly where it has an owner
  used-stands : (os : List (Owned A)) (o : Option Name) → ((z : Name) → list_any p (mine z os) ≡ is_owner z o) → list_any (λ o. p o.it) os ≡ is_some o
  used-stands os (Some y) h = any_mine p y os (h y ∙ same_self y)
  used-stands os None h = at_test (list_any (λ o. p o.it) os) refl
    where
      at_test : (b : Bool) → list_any (λ o. p o.it) os ≡ b → b ≡ false
      at_test false e = refl
      at_test true e = let found = any_own p os e in sym found.1 ∙ h found.0

  -- where z and nobody else has it, z alone may
  module _ (z : Name) where
    abbrev others : List (Owned A) → List (Owned A)
    others os = edit_list z (Go all_of) os

    elsewhere-others : (os : List (Owned A)) → list_any (λ o. not (bytes_eq z o.zone) && p o.it) os ≡ list_any (λ o. p o.it) (others os)
    elsewhere-others [] = refl
    elsewhere-others (o ∷ os) = at_head (elsewhere-others os) (bytes_eq z o.zone) refl
      where
        at_head : list_any (λ o. not (bytes_eq z o.zone) && p o.it) os ≡ list_any (λ o. p o.it) (others os) → (b : Bool) → bytes_eq z o.zone ≡ b
            → list_any (λ o. not (bytes_eq z o.zone) && p o.it) (o ∷ os) ≡ list_any (λ o. p o.it) (others (o ∷ os))
        at_head ih true e = simp e ih
        at_head ih false e = simp e (ap (λ b. p o.it || b) ih)

    none_there : (xs : List A) → list_any p (edited (Go all_of) xs) ≡ false
    none_there [] = refl
    none_there (x ∷ xs) = none_there xs

    -- whose it is, if not z's
    abbrev but : Option Name → Option Name
    but None = None
    but (Some y) = if bytes_eq z y then None else Some y

    but-may : (o : Option Name) → not (is_some (but o)) ≡ may_hold z o
    but-may None = refl
    but-may (Some y) = at_test (bytes_eq z y)
      where
        at_test : (b : Bool) → not (is_some (if b then None else Some y)) ≡ b
        at_test true = refl
        at_test false = refl

    but-own : (o : Option Name) → false ≡ is_owner z (but o)
    but-own None = refl
    but-own (Some y) = at_test (bytes_eq z y) refl
      where
        at_test : (b : Bool) → bytes_eq z y ≡ b → false ≡ is_owner z (if b then None else Some y)
        at_test true e = refl
        at_test false e = sym e

    but-other : (w : Name) (o : Option Name) → bytes_eq z w ≡ false → is_owner w o ≡ is_owner w (but o)
    but-other w None ne = refl
    but-other w (Some y) ne = at_test (bytes_eq z y) refl
      where
        at_test : (b : Bool) → bytes_eq z y ≡ b → bytes_eq w y ≡ is_owner w (if b then None else Some y)
        at_test false e = refl
        at_test true e = subst (λ x. bytes_eq w x ≡ false) (same_true z y e) (nat_list_eq_equiv.symm w z ∙ ne)

    pub may-stands : (os : List (Owned A)) (o : Option Name) → ((y : Name) → list_any p (mine y os) ≡ is_owner y o) → not (list_any (λ o. not (bytes_eq z o.zone) && p o.it) os) ≡ may_hold z o
    may-stands os o h = ap not (elsewhere-others os ∙ used-stands (others os) (but o) (λ y. at_zone y (bytes_eq z y) refl)) ∙ but-may o
      where
        at_zone : (y : Name) (b : Bool) → bytes_eq z y ≡ b → list_any p (mine y (others os)) ≡ is_owner y (but o)
        at_zone y true e = subst (λ x. list_any p (mine x (others os)) ≡ is_owner x (but o)) (same_true z y e) (ap (list_any p) (mine-edit z (Go all_of) os) ∙ (none_there (mine z os) ∙ but-own o))
        at_zone y false e = ap (list_any p) (other-list z y (λ w. not_same z y e (sym w)) (Go all_of) os) ∙ (h y ∙ but-other y o e)

pub pools-stand : (S : State) (s : Shared) → SharedOf s (common S) → pools_of S ≡ pools_in s
pools-stand S s h = λ i. record {
  pid_used = λ n. used-stands (has_pid n) S.processes (pid_owner s.kernel n) (λ z. ap (λ k. k.pids z n) h) i;
  zid_used = λ n. used-stands (has_zid n) S.ids (zid_owner s.kernel n) (λ z. ap (λ k. k.zids z n) h) i;
  last_pid = (h i).last_pid;
  last_zid = (h i).last_zid;
  zones = length (h i).rows;
  path_taken = path_taken (h i).rows;
  serial = (h i).serial;
  may_store = λ z size. fits_after (h i).used (body_size z size);
  may_hold = λ z pool item. of_kind (λ c. holds c (h i).declared.items && may-stands (same_claim c) z S.claims (holder c s.claims) (λ y. ap (λ k. k.claims y c) h) i) (kind_of pool) item;
  may_clone = λ z. is_installed (stored-stands S s z h i) && not ((h i).up z);
}

-- what the pools give, and whether a stated grant fits
module _ (S : State) (s : Shared) (z : Name) (w : World) (e : Event) (asked : List Asked) (h : SharedOf s (common S)) (here : world z S ≡ w) (of : subject S e ≡ Zone z) (asks : asked_of (decide (view_of z w) e) ≡ asked) where
  asked-stands : asked_of (decide (view z S) e) ≡ asked
  asked-stands = ap asked_of (decide-stands S z w e here) ∙ asks

  pub allowed-by : said_by_all (pools_in s) z asked Nothing ≡ allowed S e
  unfolding allowed
  allowed-by = sym (ap (λ x. allowed_of x S e) of ∙ λ i. said_by_all (pools-stand S s h i) z (asked-stands i) Nothing)

  pub fits-by : (g : Grant) → fits S e g ≡ fits_asked (pools_in s) z asked g
  unfolding fits
  fits-by g = ap (λ x. fits_of x S e g) of ∙ λ i. fits_asked (pools-stand S s h i) z (asked-stands i) g

-- the grant that a case takes
module _ (S : State) (s : Shared) (z : Name) (w : World) (e : Event) (asked : List Asked) (h : SharedOf s (common S)) (here : world z S ≡ w) (of : subject S e ≡ Zone z) (asks : asked_of (decide (view_of z w) e) ≡ asked) where
  pub takes-by : (stated : Option Grant) (g : Grant) → IsGrantFor z (pools_in s) asked stated g → Takes stated S e g
  takes-by None g takes = takes ∙ allowed-by S s z w e asked h here of asks
  takes-by (Some stated) g takes = (takes.0, fits-by S s z w e asked h here of asks stated ∙ takes.1)

-- a step of a cell under the grant that its case takes
module _ (z : Name) (c : Cell) (s : Shared) (e : Event) where
  pub IsCellStepUnder-by : (stated : Option Grant) (g : Grant) (entry : Entry) (d : Cell) (t : Shared) (asked : List Asked) → asked_of (decide_in z (outside_in z s) c e) ≡ asked
      → IsGrantFor z (pools_in s) asked stated g → entry.grant ≡ g → IsCellStep z c s e g entry d t → IsCellStepUnder z stated c s e entry d t
  IsCellStepUnder-by stated g entry d t asked asks takes is steps S cell shared of = record {
    takes = subst (Takes stated S e) (sym is) (takes-by S s z (cell_world (outside_in z s) c) e asked shared (cell-stands z S c s cell shared) of asks stated g takes);
    answers = subst (λ g. CellAnswers z S e g entry d t) (sym is) (steps S cell shared of);
  }

  pub IsCellMisfitUnder-by : (stated : Option Grant) (asked : List Asked) → asked_of (decide_in z (outside_in z s) c e) ≡ asked → IsUnfit z (pools_in s) asked stated → IsCellMisfitUnder z stated c s e c s
  IsCellMisfitUnder-by None asked asks unfit = absurd unfit
  IsCellMisfitUnder-by (Some stated) asked asks unfit =
      (λ S cell shared of. fits-by S s z (cell_world (outside_in z s) c) e asked shared (cell-stands z S c s cell shared) of asks stated ∙ unfit, refl, refl)

-- the world of each zone
pub world-stands : (S : State) (m : Parts) (z : Name) → Stands S m → world z S ≡ world_or_empty (outside_in z m.shared) (cell_at z m)
world-stands S m z h = h.worlds z ∙ ap (λ out. world_or_empty out (cell_at z m)) (outside-stands S m.shared z h.shared)

-- the same of the machine, by the cell that has a zone's world, and a stated grant that doesn't fit
module _ (m : Parts) (z : Name) (e : Event) (c : Cell) (asked : List Asked) (is : subject_in m.shared e ≡ Zone z) (same : (out : Outside) → world_or_empty out (cell_at z m) ≡ cell_world out c)
    (asks : asked_of (decide (view_of z (cell_world (outside_in z m.shared) c)) e) ≡ asked) where
  pub IsTaken-cell : (stated : Option Grant) (g : Grant) → IsGrantFor z (pools_in m.shared) asked stated g → IsTaken m stated e g
  IsTaken-cell stated g takes S h =
      takes-by S m.shared z (cell_world (outside_in z m.shared) c) e asked h.shared (world-stands S m z h ∙ same (outside_in z m.shared)) (subject-stands S m.shared e h.shared ∙ is) asks stated g takes

  pub IsMisfitUnder-cell : (stated : Option Grant) → IsUnfit z (pools_in m.shared) asked stated → IsMisfitUnder stated m e m
  IsMisfitUnder-cell None unfit = absurd unfit
  IsMisfitUnder-cell (Some stated) unfit =
      (λ S h. fits-by S m.shared z (cell_world (outside_in z m.shared) c) e asked h.shared (world-stands S m z h ∙ same (outside_in z m.shared)) (subject-stands S m.shared e h.shared ∙ is) asks stated ∙ unfit, refl)

pub allowed-of : (S : State) (e : Event) (s : Subject) → subject S e ≡ s → allowed S e ≡ allowed_of s S e
unfolding allowed
allowed-of S e s is = ap (λ s. allowed_of s S e) is

fits-of : (S : State) (e : Event) (g : Grant) (s : Subject) → subject S e ≡ s → fits S e g ≡ fits_of s S e g
unfolding fits
fits-of S e g s is = ap (λ s. fits_of s S e g) is

-- a zone's state
pub IsZoneState-in : (m : Parts) (z : Name) (s : Option ZoneState) → s ≡ state_of (row_in z m.shared) (world_or_empty (outside_in z m.shared) (cell_at z m)).desk → IsZoneState m z s
IsZoneState-in m z s is S h = is ∙ (ap (λ (w : World). state_of (row_in z m.shared) w.desk) (sym (world-stands S m z h)) ∙ ap (λ row. state_of row (S.desks z)) (sym (stored-stands S m.shared z h.shared)))

-- a zone's new cell is kept, or it has nothing
pub Keeps-new : (z : Name) (d : Cell) (old new : Name → Option Cell) → ((y : Name) → new y ≡ (if bytes_eq z y then Some d else old y)) → Keeps z d old new
Keeps-new z d old new now = λ out y. ap (world_or_empty out) (now y) ∙ at_world out y (bytes_eq z y)
  where
    at_world : (out : Outside) (y : Name) (b : Bool) → world_or_empty out (if b then Some d else old y) ≡ (if b then cell_world out d else world_or_empty out (old y))
    at_world out y true = refl
    at_world out y false = refl

pub Keeps-same : (z : Name) (d : Cell) (old : Name → Option Cell) → ((out : Outside) → cell_world out d ≡ world_or_empty out (old z)) → Keeps z d old old
Keeps-same z d old same = λ out y. at_zone out y (bytes_eq z y) refl
  where
    at_zone : (out : Outside) (y : Name) (b : Bool) → bytes_eq z y ≡ b → world_or_empty out (old y) ≡ (if b then cell_world out d else world_or_empty out (old y))
    at_zone out y true e = ap (λ y. world_or_empty out (old y)) (sym (same_true z y e)) ∙ sym (same out)
    at_zone out y false e = refl

-- the cell at an index is changed, and all others stay
pub Keeps-at : (m u : Parts) (z : Name) (i : ℕ) (d : Cell) → IsUnique bytes_eq m.cells → index_of_by (bytes_eq z) m.cells ≡ Some i → u.cells ≡ with_value_at m.cells i d
    → Keeps z d (λ y. cell_at y m) (λ y. cell_at y u)
Keeps-at m u z i d unique found now = Keeps-new z d (λ y. cell_at y m) (λ y. cell_at y u) (λ y. ap (get_by (bytes_eq y)) now ∙ at_entry (slice_get m.cells.entries i) refl y)
  where
    within : i < length (keys m.cells)
    within = (position-Some (bytes_eq z) (keys m.cells) i z found).0

    is_key : bytes_eq z (get_or (keys m.cells) i z) ≡ true
    is_key = (position-Some (bytes_eq z) (keys m.cells) i z found).1

    key_at : (o : Option (Name × Cell)) → slice_get m.cells.entries i ≡ o → slice_get (keys m.cells) i ≡ option_map (λ e. e.0) o
    key_at o e = slice_get-map (λ e. e.0) m.cells.entries i ∙ ap (option_map (λ (e : Name × Cell). e.0)) e

    at_entry : (o : Option (Name × Cell)) → slice_get m.cells.entries i ≡ o → (y : Name) → get_by (bytes_eq y) (with_value_at m.cells i d) ≡ (if bytes_eq z y then Some d else cell_at y m)
    at_entry (Some e) here y =
        let same : z ≡ e.0 = same_true z e.0 (ap (bytes_eq z) (sym (get_or_from_slice_get (keys m.cells) i e.0 z (key_at (Some e) here))) ∙ is_key) in
        subst (λ x. get_by (bytes_eq y) (with_value_at m.cells i d) ≡ (if bytes_eq x y then Some d else cell_at y m)) (sym same) ((updates-with_value_at m.cells i d nat_list_eq_equiv unique e.0 e.1 here).0 y)
    at_entry None none y = absurd (past (sym (slice_get-get_or (keys m.cells) i z within) ∙ key_at None none))
      where
        past : Some (get_or (keys m.cells) i z) ≡ None → ⊥
        past h = cc

-- a step of the machine, by a step of a cell
module _ (m u : Parts) (z : Name) (e : Event) (c d : Cell) (same : (out : Outside) → world_or_empty out (cell_at z m) ≡ cell_world out c) (keeps : Keeps z d (λ y. cell_at y m) (λ y. cell_at y u)) where
  left_at : (y : Name) (out : Outside) (b : Bool) → bytes_eq z y ≡ b → world_or_empty out (cell_at y u) ≡ (if b then cell_world out d else world_or_empty out (cell_at y m))
  left_at y out b k = keeps out y ∙ ap (λ b. if b then cell_world out d else world_or_empty out (cell_at y m)) k

  pub stands-cell : (S : State) → Stands S m → CellOf c (world z S)
  stands-cell S h = h.worlds z ∙ same (outside_of (world z S))

  pub Stands-cell : (S : State) (g : Grant) (entry : Entry) → subject S e ≡ Zone z → Stands S m → CellAnswers z S e g entry d u.shared → Answers S e g entry u
  Stands-cell S g entry of h after =
      record {
        told = after.told;
        stands = record { worlds = λ y. at_zone y (bytes_eq z y) refl; shared = after.shared };
      }
    where
      other : (y : Name) → bytes_eq z y ≡ false → bytes_eq y z ≡ false
      other y k = nat_list_eq_equiv.symm y z ∙ k

      at_zone : (y : Name) (b : Bool) → bytes_eq z y ≡ b → world y (one S e g).state ≡ world_or_empty (outside_of (world y (one S e g).state)) (cell_at y u)
      at_zone y true k =
          subst (λ x. world x (one S e g).state ≡ cell_world (outside_of (world x (one S e g).state)) d) (same_true z y k) after.cell
          ∙ sym (left_at y (outside_of (world y (one S e g).state)) true k)
      at_zone y false k =
          let kept : world y (one S e g).state ≡ world y S = leaves y S e g (ap (concerns y) of ∙ other y k) in
          kept ∙ (h.worlds y ∙ (ap (λ out. world_or_empty out (cell_at y m)) (sym (ap outside_of kept)) ∙ sym (left_at y (outside_of (world y (one S e g).state)) false k)))

  pub IsStep-cell : (g : Grant) (entry : Entry) → subject_in m.shared e ≡ Zone z → IsCellStep z c m.shared e g entry d u.shared → IsStep m e g entry u
  IsStep-cell g entry is steps S h =
      let of : subject S e ≡ Zone z = subject-stands S m.shared e h.shared ∙ is in
      Stands-cell S g entry of h (steps S (stands-cell S h) h.shared of)

  -- where the cell and the shared part are alike to what they were, the machine is as it was
  pub AsItWas-cell : Alike c m.shared d u.shared → AsItWas m u
  AsItWas-cell alike S = (
    λ h. record { worlds = λ y. h.worlds y ∙ kept y (outside_of (world y S)); shared = h.shared ∙ sym alike.common },
    λ h. record { worlds = λ y. h.worlds y ∙ sym (kept y (outside_of (world y S))); shared = h.shared ∙ alike.common },
  )
    where
      kept : (y : Name) (out : Outside) → world_or_empty out (cell_at y m) ≡ world_or_empty out (cell_at y u)
      kept y out = at_zone (bytes_eq z y) refl
        where
          at_zone : (b : Bool) → bytes_eq z y ≡ b → world_or_empty out (cell_at y m) ≡ world_or_empty out (cell_at y u)
          at_zone true k = subst (λ x. world_or_empty out (cell_at x m) ≡ cell_world out d) (same_true z y k) (same out ∙ sym (alike.world out)) ∙ sym (left_at y out true k)
          at_zone false k = sym (left_at y out false k)

  -- what an event leaves that was not answered
  pub Leaves-cell : (g : Grant) (fault : StepFault) → CellLeaves fault z None c m.shared e d u.shared → (fault ≡ WouldRecord → StoresUnder (Some g) m e) → LeavesGranted fault g m e u
  Leaves-cell g Memory h more = AsItWas-cell h
  Leaves-cell g WouldRecord h more = (AsItWas-cell h, more refl)
  Leaves-cell g BadGrant h more = absurd h
  Leaves-cell g DiskFault h more = tt
  Leaves-cell g (NoStore fault) h more = absurd h

-- the same where a cell was to be kept and is not, and the others stand as they stood
module _ (m u : Parts) (z : Name) (e : Event) (c d : Cell) (same : (y : Name) → cell_at y u ≡ cell_at y m) where
  AsItWas-new : Alike c m.shared d u.shared → AsItWas m u
  AsItWas-new alike S = (
    λ h. record { worlds = λ y. h.worlds y ∙ ap (world_or_empty (outside_of (world y S))) (sym (same y)); shared = h.shared ∙ sym alike.common },
    λ h. record { worlds = λ y. h.worlds y ∙ ap (world_or_empty (outside_of (world y S))) (same y); shared = h.shared ∙ alike.common },
  )

  pub Leaves-new : (g : Grant) (fault : StepFault) → CellLeaves fault z None c m.shared e d u.shared → (fault ≡ WouldRecord → StoresUnder (Some g) m e) → LeavesGranted fault g m e u
  Leaves-new g Memory h more = AsItWas-new h
  Leaves-new g WouldRecord h more = (AsItWas-new h, more refl)
  Leaves-new g BadGrant h more = absurd h
  Leaves-new g DiskFault h more = tt
  Leaves-new g (NoStore fault) h more = absurd h

pub refused-unfit : {D : Type 0} (m u : Parts) (e : Event) (g : Grant) (r : Result Entry StepFault) (a b : Account D) (v w : Disk_view) (s : Shared)
    → IfOk r (λ entry. IsStepUnder (Some g) m e entry u) → IfErr r (λ fault. Leaves fault (Some g) m e u) → IfErr r (λ fault. BankLeft true fault a b v w s) → IsRefusedIfUnfit m e g r
refused-unfit m u e g (Right entry) a b v w s ok fault left = λ S stands unfit. absurd (false≢true (sym unfit ∙ (ok S stands).takes.1))
refused-unfit m u e g (Err Memory) a b v w s ok fault left = λ S stands unfit. inr refl
refused-unfit m u e g (Err BadGrant) a b v w s ok fault left = λ S stands unfit. inl refl
refused-unfit m u e g (Err WouldRecord) a b v w s ok fault left = absurd left
refused-unfit m u e g (Err DiskFault) a b v w s ok fault left = λ S stands unfit. absurd (false≢true (sym unfit ∙ fault S stands))
refused-unfit m u e g (Err (NoStore f)) a b v w s ok fault left = absurd left

-- the same of a cell and the shared part
module _ (z : Name) (c : Cell) (s : Shared) (e : Event) where
  pub cell-left_so : {A : Type 0} (r : Result A StepFault) (stated : Option Grant) → IsErrOf r BadGrant ⊎ IsErrOf r Memory → (IsErrOf r BadGrant → IsCellMisfitUnder z stated c s e c s) → IfErr r (λ fault. CellLeaves fault z stated c s e c s)
  cell-left_so (Right x) stated some h = tt
  cell-left_so (Err Memory) stated some h = record { world = λ out. refl; rows = refl; common = refl; pools = refl }
  cell-left_so (Err WouldRecord) stated some h = record { world = λ out. refl; rows = refl; common = refl; pools = refl }
  cell-left_so (Err BadGrant) stated some h = h refl
  cell-left_so (Err DiskFault) stated (inl is) h = cc
  cell-left_so (Err DiskFault) stated (inr is) h = cc
  cell-left_so (Err (NoStore f)) stated (inl is) h = cc
  cell-left_so (Err (NoStore f)) stated (inr is) h = cc

  pub cell-leaves-stated : (stated : Option Grant) (g : Grant) (asked : List Asked) → asked_of (decide_in z (outside_in z s) c e) ≡ asked → IsGrantFor z (pools_in s) asked stated g → (d : Cell) (t : Shared) (fault : StepFault)
      → CellLeaves fault z None c s e d t → CellLeaves fault z stated c s e d t
  cell-leaves-stated stated g asked asks takes d t Memory h = h
  cell-leaves-stated stated g asked asks takes d t WouldRecord h = h
  cell-leaves-stated stated g asked asks takes d t BadGrant h = absurd h
  cell-leaves-stated stated g asked asks takes d t (NoStore f) h = absurd h
  cell-leaves-stated None g asked asks takes d t DiskFault h = tt
  cell-leaves-stated (Some stated) g asked asks takes d t DiskFault h = λ S cell shared of. (takes-by S s z (cell_world (outside_in z s) c) e asked shared (cell-stands z S c s cell shared) of asks (Some stated) g takes).1

-- what asks nothing is granted nothing
nothing-fits : (P : Pools) (z : Name) (g : Grant) → fits_asked P z [] g ≡ same_grant g Nothing
nothing-fits P z Nothing = refl
nothing-fits P z (Number n) = refl
nothing-fits P z Yes = refl
nothing-fits P z (Denied pool) = refl

-- an event of the global zone
module _ (m : Parts) (e : Event) (is : subject_in m.shared e ≡ Global) where
  of_global : (S : State) → Stands S m → subject S e ≡ Global
  of_global S h = subject-stands S m.shared e h.shared ∙ is

  one-global : (S : State) (g : Grant) → Stands S m → one S e g ≡ one_of Global S e g
  unfolding one
  one-global S g h = ap (λ s. one_of s S e g) (of_global S h)

  pub IsTaken-global : (stated : Option Grant) (g : Grant) → ((P : Pools) (z : Name) → IsGrantFor z P [] stated g) → IsTaken m stated e g
  IsTaken-global None g takes S h = takes (pools_of S) [] ∙ sym (allowed-of S e Global (of_global S h))
  IsTaken-global (Some stated) g takes S h = let fit = takes (pools_of S) [] in (fit.0, fits-of S e stated Global (of_global S h) ∙ (sym (nothing-fits (pools_of S) [] stated) ∙ fit.1))

  pub IsMisfitUnder-global : (stated : Option Grant) → ((P : Pools) (z : Name) → IsUnfit z P [] stated) → IsMisfitUnder stated m e m
  IsMisfitUnder-global None unfit = absurd (unfit (pools_in m.shared) [])
  IsMisfitUnder-global (Some stated) unfit = (λ S h. fits-of S e stated Global (of_global S h) ∙ (sym (nothing-fits (pools_of S) [] stated) ∙ unfit (pools_of S) []), refl)

  pub IsStep-global : (g : Grant) (reply : Reply) → ((S : State) → Stands S m → reply ≡ global_reply S e)
      → IsStep m e g (record { event = e; subject = Global; grant = g; reply = reply }) (record m { shared = record m.shared { started = true } })
  IsStep-global g reply said S h =
      let steps = one-global S g h in
      record {
        told = λ i. record { event = e; subject = sym (of_global S h) i; grant = g; reply = (said S h ∙ ap (λ r. r.reply) (sym steps)) i };
        stands = subst (λ r. Stands r.state (record m { shared = record m.shared { started = true } })) (sym steps)
            (record { worlds = h.worlds; shared = ap (λ (k : Common). record k { started = true }) h.shared });
      }

pub some_is : {A : Type 0} (x y : A) → Some x ≡ Some y → x ≡ y
some_is x y h = cc

-- the case of an event of z as it was read, on the cell that z has or would have
module _ (m : Parts) (z : Name) (e : Event) (c : Cell) (decides : View → Decision) (is : subject_in m.shared e ≡ Zone z)
    (same : (out : Outside) → world_or_empty out (cell_at z m) ≡ cell_world out c) (reads : (v : View) → decides v ≡ decide v e) where
  case_read : (case : Case) → IsCaseIn z (outside_in z m.shared) c decides case → IsCaseIn z (outside_in z m.shared) c (λ v. decide v e) case
  case_read case h = record { decided = sym (reads _) ∙ h.decided; of = h.of; named = h.named; free = h.free }

  -- the grant that it takes
  pub taken_read : (stated : Option Grant) (g : Grant) → IsGrantFor z (pools_in m.shared) (asked_of (decides (view_of z (cell_world (outside_in z m.shared) c)))) stated g → IsTaken m stated e g
  taken_read stated g takes = IsTaken-cell m z e c (asked_of (decides (view_of z (cell_world (outside_in z m.shared) c)))) is same (ap asked_of (sym (reads _))) stated g takes

  pub taken : (stated : Option Grant) (case : Case) (g : Grant) → IsCaseIn z (outside_in z m.shared) c decides case → IsGrantFor z (pools_in m.shared) (asked_of (decision_of c.desk case)) stated g → IsTaken m stated e g
  taken stated case g h takes = IsTaken-cell m z e c (asked_of (decision_of c.desk case)) is same (ap asked_of (case_read case h).decided) stated g takes

  pub unfit : (stated : Option Grant) → IsUnfit z (pools_in m.shared) (asked_of (decides (view_of z (cell_world (outside_in z m.shared) c)))) stated → IsMisfitUnder stated m e m
  unfit stated h = IsMisfitUnder-cell m z e c (asked_of (decides (view_of z (cell_world (outside_in z m.shared) c)))) is same (ap asked_of (sym (reads _))) stated h

-- an event ends before anything is changed
pub left_so : {A : Type 0} (r : Result A StepFault) (stated : Option Grant) (m : Parts) (e : Event) → IsErrOf r BadGrant ⊎ IsErrOf r Memory → (IsErrOf r BadGrant → IsMisfitUnder stated m e m) → IfErr r (λ fault. Leaves fault stated m e m)
left_so (Right x) stated m e some h = tt
left_so (Err Memory) stated m e some h = λ S. (λ stands. stands, λ stands. stands)
left_so (Err WouldRecord) stated m e (inl is) h = cc
left_so (Err WouldRecord) stated m e (inr is) h = cc
left_so (Err BadGrant) stated m e some h = h refl
left_so (Err DiskFault) stated m e (inl is) h = cc
left_so (Err DiskFault) stated m e (inr is) h = cc
left_so (Err (NoStore f)) stated m e (inl is) h = cc
left_so (Err (NoStore f)) stated m e (inr is) h = cc

-- what comes with it is free
pub case_freed : (P : Pools) (z : Name) (d : Desk) (case : Case) (stated : Option Grant) (g : Grant) → IsGrantFor z P (asked_of (decision_of d case)) stated g → IsFreeOf z (act_of (decision_of d case) g).came P
case_freed P z d case stated g takes = freed P z (decision_of d case) stated g (asks_case d case) takes

pub case_numbered : (P : Pools) (z : Name) (d : Desk) (case : Case) (stated : Option Grant) (g : Grant) → IsGrantFor z P (asked_of (decision_of d case)) stated g → IsNumbered case g
case_numbered P z d case stated g takes = numbered_case P z stated g d case takes

-- the cell at an index is the zone's
pub here_at : (m : Parts) (z : Name) (i : ℕ) (c : Cell) → IsCellAt m i z → slice_get (values m.cells) i ≡ Some c → cell_at z m ≡ Some c
here_at m z i c at value = sym at.value ∙ value

pub same_none : (m : Parts) (z : Name) (c : Cell) → cell_at z m ≡ None → ((out : Outside) → cell_world out c ≡ empty_world out) → (out : Outside) → world_or_empty out (cell_at z m) ≡ cell_world out c
same_none m z c none nothing out = ap (world_or_empty out) none ∙ sym (nothing out)

-- what is kept of a map in which room was made, under a key that is the zone
pub Keeps-roomy : (m u : Parts) (z key : Name) (d : Cell) (roomy : Name → Option Cell) → key ≡ z → ((y : Name) → roomy y ≡ cell_at y m) → Keeps key d roomy (λ y. cell_at y u) → Keeps z d (λ y. cell_at y m) (λ y. cell_at y u)
Keeps-roomy m u z key d roomy is same keeps out y =
    keeps out y ∙ (ap (λ k. if bytes_eq k y then cell_world out d else world_or_empty out (roomy y)) is ∙ ap (λ o. if bytes_eq z y then cell_world out d else world_or_empty out o) (same y))

-- only a declaration and a restart are the whole system's
never_named : (word : Option (List ℕ)) → Whole ≡ named_subject word → ⊥
never_named None h = cc
never_named (Some word) h = at_name (name_of word) h
  where
    at_name : (r : Result Name NameFault) → Whole ≡ subject_of_name r → ⊥
    at_name (Right z) h = cc
    at_name (Err fault) h = cc

never_held : (o : Option Name) → Whole ≡ held_subject o → ⊥
never_held None h = cc
never_held (Some y) h = cc

never_idle : (zone : Option (List ℕ)) (k : Kernel) (c : Command) → Whole ≡ idle_subject zone k c → ⊥
never_idle named k (Kill signal pid) h = never_held (pid_owner k pid) h
never_idle named k _ h = never_named named h

never_at : (line : Line) (k : Kernel) (o : Option Name) → Whole ≡ subject_at line k o → ⊥
never_at line k None h = never_idle line.zone k line.command h
never_at line k (Some y) h = cc

pub never_other : (s : Shared) (e : Event) → subject_in s e ≡ Whole → is_restart e ≡ false → ((what : Declaration) → e ≡ event.System what → ⊥) → ⊥
never_other s (event.Session n text) h stays other = never_at (line_of text) s.kernel (owner nat_eq s.sessions n) (sym h)
never_other s (event.Turn z) h stays other = cc
never_other s (event.Process z pid c) h stays other = cc
never_other s (event.System what) h stays other = other what refl
never_other s event.Restart h stays other = absurd (false≢true (sym stays))

-- a world by what is declared now
declared-at : (out : Outside) (d : Declared) (o : Option Cell) → record (world_or_empty out o) { declared = d } ≡ world_or_empty (record out { declared = d }) o
declared-at out d None = refl
declared-at out d (Some c) = refl

-- an event of the whole system
module _ (m : Parts) (e : Event) (is : subject_in m.shared e ≡ Whole) where
  of_whole : (S : State) → Stands S m → subject S e ≡ Whole
  of_whole S h = subject-stands S m.shared e h.shared ∙ is

  one-whole : (S : State) (g : Grant) → Stands S m → one S e g ≡ one_of Whole S e g
  unfolding one
  one-whole S g h = ap (λ s. one_of s S e g) (of_whole S h)

  pub IsTaken-whole : (stated : Option Grant) (g : Grant) → ((P : Pools) (z : Name) → IsGrantFor z P [] stated g) → IsTaken m stated e g
  IsTaken-whole None g takes S h = takes (pools_of S) [] ∙ sym (allowed-of S e Whole (of_whole S h))
  IsTaken-whole (Some stated) g takes S h = let fit = takes (pools_of S) [] in (fit.0, fits-of S e stated Whole (of_whole S h) ∙ (sym (nothing-fits (pools_of S) [] stated) ∙ fit.1))

  pub IsMisfitUnder-whole : (stated : Option Grant) → ((P : Pools) (z : Name) → IsUnfit z P [] stated) → IsMisfitUnder stated m e m
  IsMisfitUnder-whole None unfit = absurd (unfit (pools_in m.shared) [])
  IsMisfitUnder-whole (Some stated) unfit = (λ S h. fits-of S e stated Whole (of_whole S h) ∙ (sym (nothing-fits (pools_of S) [] stated) ∙ unfit (pools_of S) []), refl)

  pub IsStep-whole : (g : Grant) (reply : Reply) (t : Shared) → ((S : State) → whole e S ≡ record S { declared = declared_by e S.declared }) → reply ≡ declare_reply e (common_in m.shared).declared → common_in t ≡ record (common_in m.shared) { declared = declared_by e (common_in m.shared).declared }
      → IsStep m e g (record { event = e; subject = Whole; grant = g; reply = reply }) (record m { shared = t })
  IsStep-whole g reply t only said left S h =
      let steps : one S e g ≡ record { state = record S { declared = declared_by e S.declared }; reply = declare_reply e S.declared } = one-whole S g h ∙ ap (λ (T : State). record { state = T; reply = declare_reply e S.declared }) (only S) in
      let same : S.declared ≡ (common_in m.shared).declared = ap (λ (k : Common). k.declared) h.shared in
      record {
        told = λ i. record { event = e; subject = sym (of_whole S h) i; grant = g; reply = (said ∙ (ap (declare_reply e) (sym same) ∙ ap (λ r. r.reply) (sym steps))) i };
        stands = subst (λ r. Stands r.state (record m { shared = t })) (sym steps)
            (record { worlds = λ z. ap (λ (w : World). record w { declared = declared_by e S.declared }) (h.worlds z) ∙ declared-at (outside_of (world z S)) (declared_by e S.declared) (cell_at z m); shared = ap (λ (k : Common). record k { declared = declared_by e k.declared }) h.shared ∙ sym left });
      }

-- where memory runs out, what was asked of the shared part leaves it as it was
pub AsItWas-shared : (m : Parts) (t : Shared) → common_in t ≡ common_in m.shared → AsItWas m (record m { shared = t })
AsItWas-shared m t same S = (λ h. record { worlds = h.worlds; shared = h.shared ∙ sym same }, λ h. record { worlds = h.worlds; shared = h.shared ∙ same })

-- what the brand answers at the cell of an event's zone
pub heard-at : (m : Parts) (e : Event) (z : Name) (c : Cell) (answer : HookAnswer) → IsHeard m e answer → subject_in m.shared e ≡ Zone z → cell_at z m ≡ Some c → is_turn e ≡ true → IsHeardIn m.shared.brands c answer
heard-at m (event.Session n text) z c answer heard is here turn = absurd (false≢true turn)
heard-at m (event.Process y pid x) z c answer heard is here turn = absurd (false≢true turn)
heard-at m (event.System what) z c answer heard is here turn = absurd (false≢true turn)
heard-at m event.Restart z c answer heard is here turn = absurd (false≢true turn)
heard-at m (event.Turn y) z c answer heard is here turn = heard c (ap (λ y. cell_at y m) (same is) ∙ here)
  where
    same : Zone y ≡ Zone z → y ≡ z
    same h = cc

-- a zone without a cell has no step of which its brand is asked
pub heard-new : (brands : List Tabled) (c : Cell) → ((out : Outside) → cell_world out c ≡ empty_world out) → IsHeardIn brands c Proceed
heard-new brands c nothing = ap (λ (w : World). next_answer brands (objects_of w) w.desk) (sym (nothing (record { stored = None; declared = none_declared; brands = brands })))

-- what the machine hears is what the brand's table answers
pub hears : (m : Parts) (e : Event) (asked : Option (Option ℕ × Change)) (answer : HookAnswer) → IsNextHook m e asked → answer ≡ heard m.shared.brands asked → IsHeard m e answer
hears m (event.Session n text) asked answer next is = tt
hears m (event.Process y pid x) asked answer next is = tt
hears m (event.System what) asked answer next is = tt
hears m event.Restart asked answer next is = tt
hears m (event.Turn z) asked answer next is = λ c here. is ∙ ap (heard m.shared.brands) (next c here)

-- a line's case, in the view that the cell and the shared part make
pub line-case : (z : Name) (s : Shared) (c : Cell) (n : ℕ) (line : Line) (stored : Option Record) (doing : Option Doing) (case : Case) → stored ≡ row_in z s → doing ≡ get nat_eq c.doings n
    → IsCaseIn z (record { stored = stored; declared = declared_in s; brands = s.brands }) c (λ v. typed v (option_map as_doing doing) line) case
    → IsCaseIn z (outside_in z s) c (λ v. typed v (v.world.sessions n) line) case
unfolding view_of
line-case z s c n line stored doing case row does h = record {
  decided = (λ i. typed (view_of z (cell_world (record { stored = sym row i; declared = declared_in s; brands = s.brands }) c)) (option_map as_doing (sym does i)) line) ∙ h.decided;
  of = h.of;
  named = h.named;
  free = h.free;
}
