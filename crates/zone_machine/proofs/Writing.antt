-- What is left on the disk where nothing is written, and by the commits of a store.
use Rattle.std.proofs.Common.{◌≡◌, ◌⊎◌, ◌&&◌, Result, Ok as Right, Err, IfErr, ℕ, List, [], ◌∷◌, ◌++◌, Bool, true, false, Option, Some, None, inl, inr, length, refl, ap, sym, subst, ◌∙◌, arith}
use Rattle.std.proofs.lemmas.List.{append-nil, length-append, map-append}
use Rattle.std.proofs.lemmas.Bool.{false≢true}
use Rattle.std.specs.Prelude.{◌≢◌, IsErrOf, is_ok, is_some, not}
use Rattle.zn_io.proofs.Moments.{weaker}
use Rattle.zn_io.specs.Streams.{Rose}
use Rattle.zn_io.specs.Disk.{IsSound, View}
use Rattle.zn_base.specs.Names.{Name}
use Rattle.zone_disk.specs.Bank.{Account}
use Rattle.zone_disk.specs.Image.{Stands, used_by}
use Rattle.zone_pools.specs.declared.grant.Grant.{Grant}
use Rattle.commit_journal.proofs.Applied.{stored-push}
use Rattle.commit_journal.specs.Bodies.{body_text}
use Rattle.commit_journal.specs.Store.{HasZones, Stores, change_text}
use Rattle.commit_journal.specs.Stored.{Rows, stored, with_stored}
use Rattle.commit_journal.specs.Zones.{rows_of}
use Rattle.commit_journal.specs.declared.records.Commit.{Commit}
use Rattle.commit_journal.specs.declared.records.Record.{Record}
use Rattle.zoneadmd_steps.specs.Arrivals.{Arrival, New_claim, New_id, New_process, New_record, No_new_thing, in_store}
use Rattle.zoneadmd_steps.specs.Objects.{Processes_go}
use Rattle.zone_machine.proofs.Common_laws.{used-push}
use Rattle.zone_machine.specs.Code.Cell_steps.{CellLeaves}
use Rattle.zone_machine.specs.Code.Rooms.{Alike}
use Rattle.zone_cases.specs.declared.cell.Cell.{Cell}
use Rattle.zone_machine.specs.Code.Records.{BankLeft, IsReady, NeedsNoDisk, StoresEither, Writes, bodies_with, rows_with, used_with}
use Rattle.zone_machine.specs.Machine.{decide, one, one_of, session_number, subject, whole}
use Rattle.zone_machine.specs.Machine.Changes.{committed}
use Rattle.zone_machine.specs.Machine.Images.{Goes, HoldsEither}
use Rattle.zone_cases.specs.State.{State, bodies_of}
use Rattle.zone_cases.specs.State.Decisions.{Act, act_of, acts, after_came}
use Rattle.zone_cases.specs.State.Edits.{Edit, Of_objects, comes, console_gone, edit, edits, keeps_console}
use Rattle.zone_cases.specs.State.Worlds.{view}
use Rattle.zone_cases.specs.declared.events.Event.{Event}
use Rattle.zone_cases.specs.declared.events.Event.TheVariants.{Process as Call_of, Restart, Session, System, Turn}
use Rattle.zone_cases.specs.declared.events.Subject.{Subject}
use Rattle.zone_cases.specs.declared.events.Subject.TheVariants.{Global, Whole, Zone}
use Rattle.zone_machine.specs.declared.faults.StepFault.{StepFault}
use Rattle.zone_machine.specs.declared.faults.StepFault.TheVariants.{BadGrant, DiskFault, Memory, NoStore, WouldRecord}
use Rattle.zone_machine.specs.declared.machine.shared.Shared.{Shared}

-- where nothing is written, what was stored is one of the two
either-before : (z : Name) (came : Option Arrival) (bodies : List (List ℕ)) (rows : Rows) (image : List ℕ) → Stores bodies rows image → StoresEither z came bodies rows image
either-before z (Some (New_record row)) bodies rows image stores = inl stores
either-before z _ bodies rows image stores = stores

pub writes-nothing : (z : Name) (came : Option Arrival) (bodies : List (List ℕ)) (rows : Rows) (v : View) → IsSound v → HasZones bodies rows → (v.Keeps → (image : List ℕ) → v.Now image → Stands image bodies) → Writes z came bodies rows v v
writes-nothing z came bodies rows v sound zones settled =
    let stores : v.Keeps → (image : List ℕ) → v.Now image → StoresEither z came bodies rows image =
    λ keeps image now. either-before z came bodies rows image (record { stands = settled keeps image now; leave = zones.leave }) in
    record {
      any_moment = λ keeps. record { later = omega arith; each = λ image since. stores keeps image (sound.only_now image since); before = λ t image le since. inl since };
      now = stores;
      model = (λ k. k, λ k. k);
      faults = omega arith;
    }

-- a bank that may be written stays so where the shared part has the same rows and counts the same bytes
pub ready-alike : {D : Type 0} (v : View) (b : Account D) (s t : Shared) → t.rows.entries ≡ s.rows.entries → t.used ≡ s.used → IsReady v b s → IsReady v b t
ready-alike v b s t rows used h = record {
  sound = h.sound;
  zones = subst (λ (es : List (Name × Record)). HasZones b.records (rows_of es)) (sym rows) h.zones;
  used = used ∙ h.used;
  settled = h.settled;
}

-- the bytes of a bank with what is stored
used-with : (z : Name) (came : Option Arrival) (bodies : List (List ℕ)) (n : ℕ) → n ≡ used_by bodies → used_with z came n ≡ used_by (bodies_with z came bodies)
used-with z (Some (New_record row)) bodies n h = let more = used-push bodies (change_text z row) in omega (arith, h, more)
used-with z _ bodies n h = h

-- and once something was stored of z
pub ready-more : {D : Type 0} (z : Name) (came : Option Arrival) (w : View) (a b : Account D) (s t : Shared) → b.sound ≡ true → HasZones b.records (rows_with z came (rows_of s.rows.entries))
    → rows_of t.rows.entries ≡ rows_with z came (rows_of s.rows.entries) → b.records ≡ bodies_with z came a.records → t.used ≡ used_with z came s.used → s.used ≡ used_by a.records
    → (w.Keeps → (image : List ℕ) → w.Now image → Stands image b.records) → IsReady w b t
ready-more z came w a b s t sound zones rows records used counted settled = record {
  sound = sound;
  zones = subst (λ (r : Rows). HasZones b.records r) (sym rows) zones;
  used = used ∙ (used-with z came a.records s.used counted ∙ ap used_by (sym records));
  settled = settled;
}

-- bodies and rows of one commit more
pub bodies-more : (z : Name) (came : Option Arrival) (commits : List Commit) → bodies_of (commits ++ committed z came) ≡ bodies_with z (in_store came) (bodies_of commits)
bodies-more z (Some (New_record row)) commits = map-append body_text commits (record { zone = z; stored = row } ∷ [])
bodies-more z None commits = ap bodies_of (append-nil commits)
bodies-more z (Some (New_process p)) commits = ap bodies_of (append-nil commits)
bodies-more z (Some (New_id i)) commits = ap bodies_of (append-nil commits)
bodies-more z (Some (New_claim c)) commits = ap bodies_of (append-nil commits)
bodies-more z (Some No_new_thing) commits = ap bodies_of (append-nil commits)

rows-more : (z : Name) (came : Option Arrival) (commits : List Commit) → stored (commits ++ committed z came) ≡ rows_with z (in_store came) (stored commits)
rows-more z (Some (New_record row)) commits = stored-push commits (record { zone = z; stored = row })
rows-more z None commits = ap stored (append-nil commits)
rows-more z (Some (New_process p)) commits = ap stored (append-nil commits)
rows-more z (Some (New_id i)) commits = ap stored (append-nil commits)
rows-more z (Some (New_claim c)) commits = ap stored (append-nil commits)
rows-more z (Some No_new_thing) commits = ap stored (append-nil commits)

-- a record that is stored is one commit more
pub grows : (z : Name) (came : Option Arrival) (commits : List Commit) → is_some (in_store came) ≡ true → commits ++ committed z came ≢ commits
grows z (Some (New_record row)) commits some same = let long = length-append commits (record { zone = z; stored = row } ∷ []) in absurd (omega (arith, long, ap length same))
grows z None commits some same = false≢true some
grows z (Some (New_process p)) commits some same = false≢true some
grows z (Some (New_id i)) commits some same = false≢true some
grows z (Some (New_claim c)) commits some same = false≢true some
grows z (Some No_new_thing) commits some same = false≢true some

-- an image stands for bodies and rows, in other words
pub stores-same : (a b : List (List ℕ)) (r s : Rows) (image : List ℕ) → a ≡ b → r ≡ s → Stores a r image → Stores b s image
stores-same a b r s image same rows h = subst (λ (l : Rows). Stores b l image) rows (subst (λ (l : List (List ℕ)). Stores l r image) same h)

either-holds : (z : Name) (came : Option Arrival) (commits : List Commit) (bodies : List (List ℕ)) (rows : Rows) → bodies_of commits ≡ bodies → stored commits ≡ rows → (image : List ℕ) → StoresEither z (in_store came) bodies rows image
    → HoldsEither commits (commits ++ committed z came) image
either-holds z (Some (New_record row)) commits bodies rows same are image (inl h) = inl (stores-same bodies (bodies_of commits) rows (stored commits) image (sym same) (sym are) h)
either-holds z (Some (New_record row)) commits bodies rows same are image (inr h) =
    let more : List Commit = commits ++ committed z (Some (New_record row)) in
    inr (stores-same (bodies ++ change_text z row ∷ []) (bodies_of more) (with_stored z row rows) (stored more) image
    (ap (λ (l : List (List ℕ)). l ++ change_text z row ∷ []) (sym same) ∙ sym (bodies-more z (Some (New_record row)) commits)) (ap (with_stored z row) (sym are) ∙ sym (rows-more z (Some (New_record row)) commits)) h)
either-holds z None commits bodies rows same are image h = inl (stores-same bodies (bodies_of commits) rows (stored commits) image (sym same) (sym are) h)
either-holds z (Some (New_process p)) commits bodies rows same are image h = inl (stores-same bodies (bodies_of commits) rows (stored commits) image (sym same) (sym are) h)
either-holds z (Some (New_id i)) commits bodies rows same are image h = inl (stores-same bodies (bodies_of commits) rows (stored commits) image (sym same) (sym are) h)
either-holds z (Some (New_claim c)) commits bodies rows same are image h = inl (stores-same bodies (bodies_of commits) rows (stored commits) image (sym same) (sym are) h)
either-holds z (Some No_new_thing) commits bodies rows same are image h = inl (stores-same bodies (bodies_of commits) rows (stored commits) image (sym same) (sym are) h)

-- by the commits that the bodies and rows are of
pub goes-writes : (z : Name) (came : Option Arrival) (commits after : List Commit) (bodies : List (List ℕ)) (rows : Rows) (v w : View) → bodies_of commits ≡ bodies → stored commits ≡ rows → after ≡ commits ++ committed z came
    → Writes z (in_store came) bodies rows v w → Goes commits after v w
goes-writes z came commits after bodies rows v w same are is writes =
    let lead : (image : List ℕ) → StoresEither z (in_store came) bodies rows image → HoldsEither commits after image =
    λ image h. subst (λ (l : List Commit). HoldsEither commits l image) (sym is) (either-holds z came commits bodies rows same are image h) in
    record {
      any_moment = λ keeps. weaker v w (StoresEither z (in_store came) bodies rows) (HoldsEither commits after) lead (writes.any_moment keeps);
      now = λ keeps image now. lead image (writes.now keeps image now);
    }

pub goes-nowhere : {D : Type 0} (commits after : List Commit) (b : Account D) (s : Shared) (v : View) → bodies_of commits ≡ b.records → stored commits ≡ rows_of s.rows.entries → IsSound v → IsReady v b s → Goes commits after v v
goes-nowhere commits after b s v same are sound h =
    let holds : v.Keeps → (image : List ℕ) → v.Now image → HoldsEither commits after image =
    λ keeps image now. inl (stores-same b.records (bodies_of commits) (rows_of s.rows.entries) (stored commits) image (sym same) (sym are) (record { stands = h.settled keeps image now; leave = h.zones.leave })) in
    record {
      any_moment = λ keeps. record { later = omega arith; each = λ image since. holds keeps image (sound.only_now image since); before = λ t image le since. inl since };
      now = holds;
    }

-- the commits after an event of z
commits-edit : (z : Name) (n : Option ℕ) (e : Edit) (S : State) → (edit z n e S).commits ≡ S.commits
unfolding edit
commits-edit z n (Of_objects (Processes_go p)) S = refl
commits-edit z n _ S = refl

commits-edits : (z : Name) (n : Option ℕ) (es : List Edit) (S : State) → (edits z n es S).commits ≡ S.commits
commits-edits z n [] S = refl
commits-edits z n (e ∷ es) S = commits-edits z n es (edit z n e S) ∙ commits-edit z n e S

commits-gone : (z : Name) (keeps : Bool) (S : State) → (console_gone z keeps S).commits ≡ S.commits
commits-gone z true S = refl
commits-gone z false S = refl

commits-came : (z : Name) (came : Option Arrival) (S : State) → (after_came z came S).commits ≡ S.commits ++ committed z came
unfolding comes
commits-came z None S = sym (append-nil S.commits)
commits-came z (Some (New_process p)) S = sym (append-nil S.commits)
commits-came z (Some (New_id i)) S = sym (append-nil S.commits)
commits-came z (Some (New_claim c)) S = sym (append-nil S.commits)
commits-came z (Some No_new_thing) S = sym (append-nil S.commits)
commits-came z (Some (New_record row)) S = commits-gone z (keeps_console row) (record S { commits = S.commits ++ record { zone = z; stored = row } ∷ [] })

commits-acts : (z : Name) (n : Option ℕ) (a : Act) (S : State) → (acts z n a S).commits ≡ S.commits ++ committed z a.came
commits-acts z n a S = commits-edits z n a.effect.edits (after_came z a.came S) ∙ commits-came z a.came S

one-by : (S : State) (e : Event) (g : Grant) (s : Subject) → subject S e ≡ s → one S e g ≡ one_of s S e g
unfolding one
one-by S e g s is = ap (λ s. one_of s S e g) is

pub commits-zone : (S : State) (e : Event) (g : Grant) (z : Name) → subject S e ≡ Zone z → (one S e g).state.commits ≡ S.commits ++ committed z (act_of (decide (view z S) e) g).came
commits-zone S e g z is = ap (λ r. r.state.commits) (one-by S e g (Zone z) is) ∙ commits-acts z (session_number e) (act_of (decide (view z S) e) g) S

-- and after any other
pub commits-global : (S : State) (e : Event) (g : Grant) → subject S e ≡ Global → (one S e g).state.commits ≡ S.commits
commits-global S e g is = ap (λ r. r.state.commits) (one-by S e g Global is)

whole-commits : (S : State) (e : Event) → (whole e S).commits ≡ S.commits
whole-commits S (Session n text) = refl
whole-commits S (Turn z) = refl
whole-commits S (Call_of z pid c) = refl
whole-commits S (System what) = refl
whole-commits S Restart = refl

pub commits-whole : (S : State) (e : Event) (g : Grant) → subject S e ≡ Whole → (one S e g).state.commits ≡ S.commits
commits-whole S e g is = ap (λ r. r.state.commits) (one-by S e g Whole is) ∙ whole-commits S e

-- the bank after a fault that no disk has a part in
pub left-apart : {D : Type 0} (may : Bool) (fault : StepFault) (v : View) (b : Account D) (s : Shared) → NeedsNoDisk fault → IsReady v b s → BankLeft may fault b b v v s
left-apart may Memory v b s apart ready = (refl, ready)
left-apart may BadGrant v b s apart ready = (refl, ready)
left-apart may WouldRecord v b s apart ready = absurd apart
left-apart may DiskFault v b s apart ready = absurd apart
left-apart may (NoStore fault) v b s apart ready = absurd apart

pub and_false : (a b : Bool) → b ≡ false → (a && b) ≡ false
and_false true b h = h
and_false false b h = refl

-- the bank after a record could not be written, which was to be written only where it may be
module _ {D : Type 0} (view : D → View) (a b : Account D) (s : Shared) where
  at_may : (may : Bool) (stored : Option Arrival) → (not may && is_some stored) ≡ false → (stored ≡ None → false ≡ true) → Rose (view a.disk).faults (view b.disk).faults → b.sound ≡ false
      → BankLeft may DiskFault a b (view a.disk) (view b.disk) s
  at_may true stored test none rose unsound = (rose, unsound)
  at_may false None test none rose unsound = absurd (false≢true (none refl))
  at_may false (Some came) test none rose unsound = absurd (false≢true (sym test))

  pub left-written : (may : Bool) (stored : Option Arrival) (r : Result (Unit {0}) StepFault) → (not may && is_some stored) ≡ false → (stored ≡ None → is_ok r ≡ true) → (IsErrOf r Memory → b ≡ a) → IsReady (view a.disk) a s
      → (IsErrOf r DiskFault → Rose (view a.disk).faults (view b.disk).faults) → (IsErrOf r DiskFault → b.sound ≡ false) → IfErr r (λ e. (e ≡ Memory) ⊎ (e ≡ DiskFault)) → IfErr r (λ fault. BankLeft may fault a b (view a.disk) (view b.disk) s)
  left-written may stored (Right done) test none memory ready rose unsound only = tt
  left-written may stored (Err Memory) test none memory ready rose unsound only = let same = memory refl in (same, subst (λ (x : Account D). IsReady (view x.disk) x s) (sym same) ready)
  left-written may stored (Err DiskFault) test none memory ready rose unsound only = at_may may stored test none (rose refl) (unsound refl)
  left-written may stored (Err WouldRecord) test none memory ready rose unsound (inl e) = cc
  left-written may stored (Err WouldRecord) test none memory ready rose unsound (inr e) = cc
  left-written may stored (Err BadGrant) test none memory ready rose unsound (inl e) = cc
  left-written may stored (Err BadGrant) test none memory ready rose unsound (inr e) = cc
  left-written may stored (Err (NoStore f)) test none memory ready rose unsound (inl e) = cc
  left-written may stored (Err (NoStore f)) test none memory ready rose unsound (inr e) = cc

-- what is left of the cell and the shared part where a record was not written
pub write-fault : (z : Name) (stored : Option Arrival) (c d : Cell) (s t : Shared) (r : Result (Unit {0}) StepFault) → IfErr r (λ e. (e ≡ Memory) ⊎ (e ≡ DiskFault)) → (stored ≡ None → is_ok r ≡ true)
    → ((stored ≡ None → ⊥) → Alike c s d t) → IfErr r (λ fault. (e : Event) → CellLeaves fault z None c s e d t)
write-fault z stored c d s t (Right done) only none alike = tt
write-fault z stored c d s t (Err Memory) only none alike = λ e. alike (λ is. absurd (false≢true (none is)))
write-fault z stored c d s t (Err DiskFault) only none alike = λ e. tt
write-fault z stored c d s t (Err WouldRecord) (inl e) none alike = absurd (cc)
write-fault z stored c d s t (Err WouldRecord) (inr e) none alike = absurd (cc)
write-fault z stored c d s t (Err BadGrant) (inl e) none alike = absurd (cc)
write-fault z stored c d s t (Err BadGrant) (inr e) none alike = absurd (cc)
write-fault z stored c d s t (Err (NoStore f)) (inl e) none alike = absurd (cc)
write-fault z stored c d s t (Err (NoStore f)) (inr e) none alike = absurd (cc)
