-- Where only what z has is there besides the records, the pools give z's events no less: what fits in a state fits there too.
use Rattle.std.proofs.Common.{◌≡◌, ◌∷◌, ◌+◌, ◌≤◌, ◌<◌, ◌&&◌, ◌||◌, [], ℕ, List, Bool, true, false, not, Option, Some, None, ap, arith, length, refl, subst, sym, ◌∙◌}
use Rattle.std.specs.Prelude.{◌≢◌, bytes_eq, nat_le}
use Rattle.std.specs.List.{list_all, list_any}
use Rattle.std.proofs.lemmas.Bool.{and_from, and_parts, false≢true, le-leb, leb-true, lt-ltb, ltb-true, not-true, not_from_false}
use Rattle.zn_base.specs.Names.{Name}
use Rattle.commit_journal.specs.Journal.{body_size, fits_after}
use Rattle.commit_journal.specs.Store.{row_of}
use Rattle.commit_journal.specs.Stored as rows
use Rattle.commit_journal.specs.Stored.{Rows, with_stored, without}
use Rattle.commit_journal.specs.declared.records.Record.{Record}
use Rattle.datalink_table.specs.Claims.{claim_of, holds}
use Rattle.datalink_table.specs.declared.claims.Claim.{Claim}
use Rattle.datalink_table.specs.declared.claims.ClaimKind.{ClaimKind}
use Rattle.kernel_objects.specs.Processes.{has_pid}
use Rattle.zone_disk.specs.declared.bank.TheConstants.{BANK_BYTES}
use Rattle.zone_pools.proofs.Holding.{not_same}
use Rattle.zone_pools.proofs.Owned_laws.{other_tag, same_self, same_true}
use Rattle.zone_pools.specs.Asked.{A_path, A_pid, A_serial, A_source, A_zid, A_zone, An_item, Asked}
use Rattle.zone_pools.specs.Decisions.{asked_of}
use Rattle.zone_pools.specs.Firsts.{placed}
use Rattle.zone_pools.specs.Owned_lists.{mine}
use Rattle.zone_pools.specs.Pools.{Pools, fits_asked, fits_pool, fits_yes, has_place, has_room, has_serial}
use Rattle.zone_pools.specs.declared.grant.Grant.{Grant}
use Rattle.zone_pools.specs.declared.grant.Grant.TheVariants.{Denied, Nothing, Number, Yes}
use Rattle.zone_pools.specs.declared.grant.Pool.{Pool}
use Rattle.zone_pools.specs.declared.limits.TheConstants.{PID_MAX, PID_MIN, SERIAL_MAX, ZID_MAX, ZID_MIN, ZONES_MAX}
use Rattle.zone_pools.specs.declared.owned.Owned.{Owned}
use Rattle.zoneadmd_steps.specs.Arrivals.{Arrival, New_claim, New_id, New_process, New_record, No_new_thing}
use Rattle.zoneadmd_steps.specs.Objects.{has_zid}
use Rattle.zone_cases.specs.State.{State, bytes_used, stored}
use Rattle.zone_cases.specs.State.Decisions.{act_of}
use Rattle.zone_cases.specs.State.Worlds.{view, view_of, world}
use Rattle.zone_cases.specs.declared.events.Entry.{Entry}
use Rattle.zone_cases.specs.declared.events.Event.{Event}
use Rattle.zone_cases.specs.declared.events.Event.TheVariants.{Process as Call_of, Restart, Session, System, Turn}
use Rattle.zone_cases.specs.declared.events.Subject.{Subject}
use Rattle.zone_cases.specs.declared.events.Subject.TheVariants.{Zone, Global, Whole}
use Rattle.zone_machine.proofs.Common_laws.{any_mine, any_own, common-global, common-one, common-whole}
use Rattle.zone_machine.proofs.Own_worlds.{decide-world, leaves}
use Rattle.zone_machine.specs.Machine.Common.{Common, came_common, common, whole_common}
use Rattle.zone_machine.specs.Machine.Histories.{after_entry, concerns, entry_at, is_history, is_told, only}
use Rattle.zone_machine.specs.Machine.Pools.{fits, fits_of, held_elsewhere, kind_of, may_hold, of_kind, pools_of}
use Rattle.zone_machine.specs.Machine.{decide, one, subject}
use Rattle.zone_views.proofs.Kept_entries.{same-entry}
use Rattle.zone_views.proofs.Placing.{asks-new, is_zone}
use Rattle.zone_views.proofs.Purge.{Agree, begins, kept_step, subjects, told_entry}
use Rattle.zone_views.proofs.Runs.{told-entry_at}
use Rattle.zone_views.specs.Storable.{zones_besides}

-- pools that give an event of z no less, but for a place for a new zone
record Less (z : Name) (P Q : Pools) : Type 0 where
  pids : (n : ℕ) → P.pid_used n ≡ false → Q.pid_used n ≡ false
  zids : (n : ℕ) → P.zid_used n ≡ false → Q.zid_used n ≡ false
  serial : has_serial P ≡ true → has_serial Q ≡ true
  store : (size : ℕ) → P.may_store z size ≡ true → Q.may_store z size ≡ true
  hold : (pool : Pool) (item : List ℕ) → P.may_hold z pool item ≡ true → Q.may_hold z pool item ≡ true

module _ (z : Name) (P Q : Pools) (l : Less z P Q) where
  free-less : (low high n : ℕ) (used used' : ℕ → Bool) → (used n ≡ false → used' n ≡ false) → (nat_le low n && nat_le n high && not (used n)) ≡ true → (nat_le low n && nat_le n high && not (used' n)) ≡ true
  free-less low high n used used' less h =
      let both = and_parts (nat_le low n && nat_le n high) (not (used n)) h in
      and_from (nat_le low n && nat_le n high) (not (used' n)) both.0 (not_from_false (used' n) (less (not-true (used n) both.1)))

  number-less : (n : ℕ) (a : Asked) → (is_zone a ≡ true → has_place Q ≡ true) → fits_pool P z n a ≡ true → fits_pool Q z n a ≡ true
  number-less n A_pid place h = free-less PID_MIN PID_MAX n P.pid_used Q.pid_used (l.pids n) h
  number-less n A_zid place h = free-less ZID_MIN ZID_MAX n P.zid_used Q.zid_used (l.zids n) h
  number-less n A_zone place h = place refl
  number-less n (A_path path) place h = refl
  number-less n (A_serial size) place h =
      let both = and_parts (nat_le 1 n) (has_room P z size n) h in
      let room = and_parts (has_serial P) (P.may_store z (size n)) both.1 in
      and_from (nat_le 1 n) (has_room Q z size n) both.0 (and_from (has_serial Q) (Q.may_store z (size n)) (l.serial room.0) (l.store (size n) room.1))
  number-less n (An_item pool item) place h = absurd (false≢true h)
  number-less n (A_source source) place h = absurd (false≢true h)

  yes-less : (a : Asked) → fits_yes P z a ≡ true → fits_yes Q z a ≡ true
  yes-less (An_item pool item) h = l.hold pool item h
  yes-less (A_source source) h = refl
  yes-less a h = absurd (false≢true h)

  numbers-less : (n : ℕ) (asked : List Asked) → (list_any is_zone asked ≡ true → has_place Q ≡ true) → list_all (fits_pool P z n) asked ≡ true → list_all (fits_pool Q z n) asked ≡ true
  numbers-less n [] place h = refl
  numbers-less n (a ∷ asked) place h =
      let both = and_parts (fits_pool P z n a) (list_all (fits_pool P z n) asked) h in
      and_from (fits_pool Q z n a) (list_all (fits_pool Q z n) asked) (number-less n a (λ is. place (first is)) both.0) (numbers-less n asked (λ any. place (later (is_zone a) any)) both.1)
    where
      first : is_zone a ≡ true → list_any is_zone (a ∷ asked) ≡ true
      first is = rw is refl

      later : (b : Bool) → list_any is_zone asked ≡ true → (b || list_any is_zone asked) ≡ true
      later true any = refl
      later false any = any

  yeses-less : (asked : List Asked) → list_all (fits_yes P z) asked ≡ true → list_all (fits_yes Q z) asked ≡ true
  yeses-less [] h = refl
  yeses-less (a ∷ asked) h =
      let both = and_parts (fits_yes P z a) (list_all (fits_yes P z) asked) h in
      and_from (fits_yes Q z a) (list_all (fits_yes Q z) asked) (yes-less a both.0) (yeses-less asked both.1)

  fits-less : (asked : List Asked) (g : Grant) → (list_any is_zone asked ≡ true → has_place Q ≡ true) → fits_asked P z asked g ≡ true → fits_asked Q z asked g ≡ true
  fits-less [] Nothing place h = refl
  fits-less [] (Number n) place h = absurd (false≢true h)
  fits-less [] Yes place h = absurd (false≢true h)
  fits-less [] (Denied pool) place h = absurd (false≢true h)
  fits-less (a ∷ asked) Nothing place h = absurd (false≢true h)
  fits-less (a ∷ asked) (Number n) place h = numbers-less n (a ∷ asked) place h
  fits-less (a ∷ asked) Yes place h = yeses-less (a ∷ asked) h
  fits-less (a ∷ asked) (Denied pool) place h = h

-- a list that has z's things alone
module _ {A : Type 0} (z : Name) (ps : List (Owned A)) (bare : (y : Name) → y ≢ z → mine y ps ≡ []) where
  -- what nobody has in a list with the same of z is not in it
  unused : (p : A → Bool) (os : List (Owned A)) → mine z os ≡ mine z ps → list_any (λ o. p o.it) os ≡ false → list_any (λ o. p o.it) ps ≡ false
  unused p os same none = at_test (list_any (λ o. p o.it) ps) refl
    where
      at_zone : (y : Name) → list_any p (mine y ps) ≡ true → (b : Bool) → bytes_eq z y ≡ b → false ≡ true
      at_zone y has true e =
          let here : list_any p (mine z ps) ≡ true = subst (λ x. list_any p (mine x ps) ≡ true) (sym (same_true z y e)) has in
          sym none ∙ any_mine p z os (ap (list_any p) same ∙ here)
      at_zone y has false e = sym (ap (list_any p) (bare y (not_same z y e))) ∙ has

      at_test : (b : Bool) → list_any (λ o. p o.it) ps ≡ b → list_any (λ o. p o.it) ps ≡ false
      at_test false e = e
      at_test true e = let found = any_own p ps e in absurd (false≢true (at_zone found.0 found.1 (bytes_eq z found.0) refl))

nowhere : (z : Name) (c : Claim) (os : List (Owned Claim)) → ((y : Name) → y ≢ z → mine y os ≡ []) → held_elsewhere z c os ≡ false
nowhere z c [] bare = refl
nowhere z c (o ∷ os) bare = at_test (nowhere z c os) (bytes_eq z o.zone) refl
  where
    rest : bytes_eq z o.zone ≡ true → (y : Name) → y ≢ z → mine y os ≡ []
    rest e y other = simp (other_tag z y o.zone (λ w. other (sym w)) e) at (bare y other)

    at_test : (((y : Name) → y ≢ z → mine y os ≡ []) → held_elsewhere z c os ≡ false) → (b : Bool) → bytes_eq z o.zone ≡ b → held_elsewhere z c (o ∷ os) ≡ false
    at_test ih true e = simp e (ih (rest e))
    at_test ih false e = let wrong : o.it ∷ mine o.zone os ≡ [] = simp (same_self o.zone) at (bare o.zone (not_same z o.zone e)) in cc

-- the second state agrees with the first on z, and has no more besides: its records are no more and no longer, and it stores 255
-- other zones at most
pub record Fewer (z : Name) (S T : State) : Type 0 where
  pub agree : Agree z S T
  pub zones : zones_besides z T.commits ≤ 255
  pub records : length T.commits ≤ length S.commits
  pub bytes : bytes_used T.commits ≤ bytes_used S.commits

less : (z : Name) (S T : State) → Fewer z S T → Less z (pools_of S) (pools_of T)
less z S T f = record {
  pids = λ n. unused z T.processes (λ y other. (f.agree.purged y other).processes) (has_pid n) S.processes (ap (λ w. w.processes) f.agree.world);
  zids = λ n. unused z T.ids (λ y other. (f.agree.purged y other).ids) (has_zid n) S.ids (ap (λ w. w.ids) f.agree.world);
  serial = λ h. let few = f.records in let low : length S.commits < SERIAL_MAX = ltb-true (length S.commits) SERIAL_MAX h in lt-ltb (length T.commits) SERIAL_MAX (omega (arith, few, low));
  store = λ size h. at_size (body_size z size) h;
  hold = λ pool item h. at_kind (kind_of pool) item h;
}
  where
    at_size : (size : ℕ) → fits_after (bytes_used S.commits) size ≡ true → fits_after (bytes_used T.commits) size ≡ true
    at_size size h = let few = f.bytes in let low : bytes_used S.commits + 5 + size ≤ BANK_BYTES = leb-true (bytes_used S.commits + 5 + size) BANK_BYTES h in le-leb (bytes_used T.commits + 5 + size) BANK_BYTES (omega (arith, few, low))

    at_claim : (c : Claim) → may_hold S z c ≡ true → may_hold T z c ≡ true
    at_claim c h =
        let both = and_parts (holds c S.declared.items) (not (held_elsewhere z c S.claims)) h in
        let declared : holds c T.declared.items ≡ true = ap (λ w. holds c w.declared.items) (sym f.agree.world) ∙ both.0 in
        and_from (holds c T.declared.items) (not (held_elsewhere z c T.claims)) declared (not_from_false (held_elsewhere z c T.claims) (nowhere z c T.claims (λ y other. (f.agree.purged y other).claims)))

    at_kind : (kind : Option ClaimKind) (item : List ℕ) → of_kind (may_hold S z) kind item ≡ true → of_kind (may_hold T z) kind item ≡ true
    at_kind None item h = h
    at_kind (Some kind) item h = at_claim (claim_of kind item) h

-- the zones besides one that isn't stored are all zones
all-besides : (z : Name) (os : Rows) → row_of z os ≡ None → without z os ≡ os
all-besides z [] none = refl
all-besides z (o ∷ os) none = at_head (all-besides z os) (bytes_eq z o.zone) refl
  where
    at_head : (row_of z os ≡ None → without z os ≡ os) → (b : Bool) → bytes_eq z o.zone ≡ b → without z (o ∷ os) ≡ o ∷ os
    at_head ih true e = let found : ◌≡◌ {A = Option Record} (Some o.it) None = simp e at none in cc
    at_head ih false e = simp e (ap (λ (os : Rows). o ∷ os) (ih (simp e at none)))

-- so there is a place for a new one
place : (z : Name) (T : State) (e : Event) → zones_besides z T.commits ≤ 255 → list_any is_zone (asked_of (decide (view z T) e)) ≡ true → has_place (pools_of T) ≡ true
unfolding view
place z T e few any =
    let none : stored z T.commits ≡ None = asks-new (view z T) e any in
    let all : length (without z (rows.stored T.commits)) ≡ length (rows.stored T.commits) = ap length (all-besides z (rows.stored T.commits) none) in
    lt-ltb (length (rows.stored T.commits)) ZONES_MAX (omega (arith, few, all))

-- a grant that fits in the first fits in the second
fits-kept : (z : Name) (S T : State) (e : Event) (g : Grant) → Fewer z S T → concerns z (subject S e) ≡ true → fits S e g ≡ true → fits T e g ≡ true
unfolding fits
fits-kept z S T e g f h fit = at_subject (subject S e) refl h fit
  where
    same : subject T e ≡ subject S e
    same = subjects z S T e f.agree h

    here : fits_of (Zone z) S e g ≡ true → fits_of (Zone z) T e g ≡ true
    here fit =
        let there : fits_asked (pools_of S) z (asked_of (decide (view z T) e)) g ≡ true = subst (λ d. fits_asked (pools_of S) z (asked_of d) g ≡ true) (decide-world z S T e f.agree.world) fit in
        fits-less z (pools_of S) (pools_of T) (less z S T f) (asked_of (decide (view z T) e)) g (place z T e f.zones) there

    at_subject : (s : Subject) → subject S e ≡ s → concerns z s ≡ true → fits_of s S e g ≡ true → fits_of (subject T e) T e g ≡ true
    at_subject (Zone y) is h fit =
        let own : z ≡ y = same_true z y h in
        let it : subject T e ≡ Zone z = same ∙ (is ∙ ap Zone (sym own)) in
        subst (λ s. fits_of s T e g ≡ true) (sym it) (here (subst (λ x. fits_of (Zone x) S e g ≡ true) (sym own) fit))
    at_subject Global is h fit = absurd (false≢true h)
    at_subject Whole is h fit = subst (λ s. fits_of s T e g ≡ true) (sym (same ∙ is)) fit

-- what comes adds to the records alike
module _ (z : Name) where
  serial-came : (came : Option Arrival) (c d : Common) → c.serial ≤ d.serial → (came_common z came c).serial ≤ (came_common z came d).serial
  serial-came None c d h = h
  serial-came (Some (New_process p)) c d h = h
  serial-came (Some (New_id i)) c d h = h
  serial-came (Some (New_claim k)) c d h = h
  serial-came (Some No_new_thing) c d h = h
  serial-came (Some (New_record row)) c d h = omega (arith, h)

  used-came : (came : Option Arrival) (c d : Common) → c.used ≤ d.used → (came_common z came c).used ≤ (came_common z came d).used
  used-came None c d h = h
  used-came (Some (New_process p)) c d h = h
  used-came (Some (New_id i)) c d h = h
  used-came (Some (New_claim k)) c d h = h
  used-came (Some No_new_thing) c d h = h
  used-came (Some (New_record row)) c d h = omega (arith, h)

  serial-grows : (came : Option Arrival) (c : Common) → c.serial ≤ (came_common z came c).serial
  serial-grows None c = omega arith
  serial-grows (Some (New_process p)) c = omega arith
  serial-grows (Some (New_id i)) c = omega arith
  serial-grows (Some (New_claim k)) c = omega arith
  serial-grows (Some No_new_thing) c = omega arith
  serial-grows (Some (New_record row)) c = omega arith

  used-grows : (came : Option Arrival) (c : Common) → c.used ≤ (came_common z came c).used
  used-grows None c = omega arith
  used-grows (Some (New_process p)) c = omega arith
  used-grows (Some (New_id i)) c = omega arith
  used-grows (Some (New_claim k)) c = omega arith
  used-grows (Some No_new_thing) c = omega arith
  used-grows (Some (New_record row)) c = omega arith

  -- and changes no other zone's
  without-twice : (os : Rows) → without z (without z os) ≡ without z os
  without-twice [] = refl
  without-twice (o ∷ os) = at_head (without-twice os) (bytes_eq z o.zone) refl
    where
      at_head : without z (without z os) ≡ without z os → (b : Bool) → bytes_eq z o.zone ≡ b → without z (without z (o ∷ os)) ≡ without z (o ∷ os)
      at_head ih true e = simp e ih
      at_head ih false e = simp e (ap (λ (os : Rows). o ∷ os) ih)

  without-placed : (row : Record) (os : Rows) → without z (placed z row os) ≡ without z os
  without-placed row [] = simp (same_self z)
  without-placed row (o ∷ os) = at_head (without-placed row os) (bytes_eq z o.zone) refl
    where
      at_head : without z (placed z row os) ≡ without z os → (b : Bool) → bytes_eq z o.zone ≡ b → without z (placed z row (o ∷ os)) ≡ without z (o ∷ os)
      at_head ih true e = simp (e, same_self z)
      at_head ih false e = simp e (ap (λ (os : Rows). o ∷ os) ih)

  without-stored : (row : Option Record) (os : Rows) → without z (with_stored z row os) ≡ without z os
  without-stored None os = without-twice os
  without-stored (Some row) os = without-placed row os

  others-came : (came : Option Arrival) (c : Common) → without z (came_common z came c).rows ≡ without z c.rows
  others-came None c = refl
  others-came (Some (New_process p)) c = refl
  others-came (Some (New_id i)) c = refl
  others-came (Some (New_claim k)) c = refl
  others-came (Some No_new_thing) c = refl
  others-came (Some (New_record row)) c = without-stored row c.rows

-- an event of the whole system adds nothing to the records
record Stay (c d : Common) : Type 0 where
  rows : c.rows ≡ d.rows
  serial : c.serial ≡ d.serial
  used : c.used ≡ d.used

stay-whole : (e : Event) (c : Common) → Stay (whole_common e c) c
stay-whole (Session n text) c = record { rows = refl; serial = refl; used = refl }
stay-whole (Turn z) c = record { rows = refl; serial = refl; used = refl }
stay-whole (Call_of z pid call) c = record { rows = refl; serial = refl; used = refl }
stay-whole (System what) c = record { rows = refl; serial = refl; used = refl }
stay-whole Restart c = record { rows = refl; serial = refl; used = refl }

-- an event of another adds to the records of the first state alone
record Grows (S T : State) : Type 0 where
  records : length S.commits ≤ length T.commits
  bytes : bytes_used S.commits ≤ bytes_used T.commits

grows : (S : State) (e : Event) (g : Grant) → Grows S (one S e g).state
grows S e g = at_subject (subject S e) refl
  where
    at_common : (c : Common) → common (one S e g).state ≡ c → length S.commits ≤ c.serial → bytes_used S.commits ≤ c.used → Grows S (one S e g).state
    at_common c is serial used = record {
      records = subst (λ n. length S.commits ≤ n) (sym (ap (λ (c : Common). c.serial) is)) serial;
      bytes = subst (λ n. bytes_used S.commits ≤ n) (sym (ap (λ (c : Common). c.used) is)) used;
    }

    at_subject : (s : Subject) → subject S e ≡ s → Grows S (one S e g).state
    at_subject (Zone y) is = at_common _ (common-one y S e g is) (serial-grows y (act_of (decide (view_of y (world y S)) e) g).came (common S)) (used-grows y (act_of (decide (view_of y (world y S)) e) g).came (common S))
    at_subject Global is = at_common _ (common-global S e g is) (omega arith) (omega arith)
    at_subject Whole is =
        let stay = stay-whole e (common S) in
        let serial = stay.serial in
        let used = stay.used in
        at_common (whole_common e (common S)) (common-whole S e g is) (omega (arith, serial)) (omega (arith, used))

-- a kept event adds to the records of both
fewer-kept : (z : Name) (S T : State) (e : Event) (g : Grant) → Fewer z S T → concerns z (subject S e) ≡ true → Fewer z (one S e g).state (one T e g).state
fewer-kept z S T e g f h = at_subject (subject S e) refl h
  where
    same : subject T e ≡ subject S e
    same = subjects z S T e f.agree h

    at_commons : (c d : Common) → common (one S e g).state ≡ c → common (one T e g).state ≡ d → without z d.rows ≡ without z (rows.stored T.commits) → d.serial ≤ c.serial → d.used ≤ c.used
        → Fewer z (one S e g).state (one T e g).state
    at_commons c d is it others serial used = record {
      agree = (kept_step z S T e g f.agree h).0;
      zones =
          let left : zones_besides z (one T e g).state.commits ≡ zones_besides z T.commits = ap (λ (c : Common). length (without z c.rows)) it ∙ ap length others in
          let few = f.zones in
          omega (arith, left, few);
      records =
          let before : length (one S e g).state.commits ≡ c.serial = ap (λ (c : Common). c.serial) is in
          let after : length (one T e g).state.commits ≡ d.serial = ap (λ (c : Common). c.serial) it in
          omega (arith, before, after, serial);
      bytes =
          let before : bytes_used (one S e g).state.commits ≡ c.used = ap (λ (c : Common). c.used) is in
          let after : bytes_used (one T e g).state.commits ≡ d.used = ap (λ (c : Common). c.used) it in
          omega (arith, before, after, used);
    }

    at_zone : subject S e ≡ Zone z → Fewer z (one S e g).state (one T e g).state
    at_zone is =
        let came = (act_of (decide (view_of z (world z S)) e) g).came in
        let alike : (act_of (decide (view_of z (world z T)) e) g).came ≡ came = ap (λ w. (act_of (decide (view_of z w) e) g).came) (sym f.agree.world) in
        let serial : (came_common z (act_of (decide (view_of z (world z T)) e) g).came (common T)).serial ≤ (came_common z came (common S)).serial = subst (λ a. (came_common z a (common T)).serial ≤ (came_common z came (common S)).serial) (sym alike) (serial-came z came (common T) (common S) f.records) in
        let used : (came_common z (act_of (decide (view_of z (world z T)) e) g).came (common T)).used ≤ (came_common z came (common S)).used = subst (λ a. (came_common z a (common T)).used ≤ (came_common z came (common S)).used) (sym alike) (used-came z came (common T) (common S) f.bytes) in
        at_commons _ _ (common-one z S e g is) (common-one z T e g (same ∙ is)) (others-came z (act_of (decide (view_of z (world z T)) e) g).came (common T)) serial used

    at_subject : (s : Subject) → subject S e ≡ s → concerns z s ≡ true → Fewer z (one S e g).state (one T e g).state
    at_subject (Zone y) is h = at_zone (is ∙ ap Zone (sym (same_true z y h)))
    at_subject Global is h = absurd (false≢true h)
    at_subject Whole is h =
        let first = stay-whole e (common S) in
        let second = stay-whole e (common T) in
        let serial = first.serial in
        let serial' = second.serial in
        let used = first.used in
        let used' = second.used in
        let records = f.records in
        let bytes = f.bytes in
        at_commons (whole_common e (common S)) (whole_common e (common T)) (common-whole S e g is) (common-whole T e g (same ∙ is)) (ap (without z) second.rows) (omega (arith, serial, serial', records)) (omega (arith, used, used', bytes))

-- so the entries of z and of the whole system are a history whose grants fit
pub kept-fits : (z : Name) (S T : State) (h : List Entry) → Fewer z S T → is_history fits S h ≡ true → is_history fits T (only z h) ≡ true
kept-fits z S T [] f is = refl
kept-fits z S T (e ∷ h) f is = at_test (λ S T f is. kept-fits z S T h f is) (concerns z e.subject) refl
  where
    parts : is_told S e ≡ true
    parts = (begins fits S e h is).told

    first : entry_at S e.event e.grant ≡ e
    first = told_entry S e parts

    whose : concerns z (subject S e.event) ≡ concerns z e.subject
    whose = ap (λ (e : Entry). concerns z e.subject) first

    at_test : ((S T : State) → Fewer z S T → is_history fits S h ≡ true → is_history fits T (only z h) ≡ true)
        → (b : Bool) → concerns z e.subject ≡ b → is_history fits T (only z (e ∷ h)) ≡ true
    at_test ih true own =
        let concerned = whose ∙ own in
        let told : is_told T e ≡ true = subst (λ e. is_told T e ≡ true) (same-entry z S T e.event e.grant f.agree concerned ∙ first) (told-entry_at T e.event e.grant) in
        let fit = fits-kept z S T e.event e.grant f concerned (begins fits S e h is).permitted in
        let more = ih (after_entry S e) (after_entry T e) (fewer-kept z S T e.event e.grant f concerned) (begins fits S e h is).rest in
        rw own (and_from (is_told T e && fits T e.event e.grant) (is_history fits (after_entry T e) (only z h)) (and_from (is_told T e) (fits T e.event e.grant) told fit) more)
    at_test ih false other =
        let left = grows S e.event e.grant in
        let records = left.records in
        let bytes = left.bytes in
        let few = f.records in
        let short = f.bytes in
        let agree : Agree z (after_entry S e) T = record { world = leaves z S e.event e.grant (whose ∙ other) ∙ f.agree.world; purged = f.agree.purged } in
        let fewer : Fewer z (after_entry S e) T = record { agree = agree; zones = f.zones; records = omega (arith, records, few); bytes = omega (arith, bytes, short) } in
        rw other (ih (after_entry S e) T fewer (begins fits S e h is).rest)
