-- What an event was answered, from a step of the machine and the text of its reply, and what an event leaves that was not
-- answered.
use Rattle.std.proofs.Common.{◌≡◌, ◌++◌, inl, inr, ℕ, Bool, true, false, List, Option, Some, None, Result, Ok, Err, refl, ap, sym, subst, ◌∙◌, arith}
use Rattle.std.proofs.lemmas.Bool.{false≢true}
use Rattle.std.specs.Prelude.{◌⊎◌, IfErr, IfOk}
use Rattle.zn_io.specs.Disk.{View}
use Rattle.zn_io.specs.Streams.{Rose, after_known}
use Rattle.commit_journal.specs.Journal.{Leave}
use Rattle.commit_journal.specs.Zones.{rows_of}
use Rattle.commit_journal.specs.declared.records.Commit.{Commit}
use Rattle.zone_disk.specs.Bank.{Account}
use Rattle.zone_disk.specs.Image.{Stands as Image_stands}
use Rattle.zone_machine.specs.Code.Decided.{entry_by}
use Rattle.zone_machine.specs.Code.Records.{BankLeft, GoesUnder, IsReady, Passes, taken}
use Rattle.zone_machine.specs.Code.Restarts.{BankLeftAny, FindsAgain, LeavesAny, LeavesRestart, RestartLeft}
use Rattle.zone_machine.specs.Code.Cells.{Stands}
use Rattle.zone_machine.specs.Code.Steps.{AsItWas, FitsIn, Leaves, StepsUnder, Takes}
use Rattle.zone_cases.specs.Events.{is_restart}
use Rattle.zone_machine.specs.Machine.{one, subject}
use Rattle.zone_machine.specs.Machine.Histories.{entry_at}
use Rattle.zone_machine.specs.Machine.Images.{Goes, Holds, NowHolds}
use Rattle.zone_pools.specs.declared.grant.Grant.{Grant}
use Rattle.zone_cases.specs.State.{State, bodies_of}
use Rattle.zone_cases.specs.declared.events.Answer.{Answer}
use Rattle.zone_cases.specs.declared.events.Entry.{Entry}
use Rattle.zone_cases.specs.declared.events.Event.{Event}
use Rattle.zone_cases.specs.declared.events.Event.TheVariants.{Process as Call_of, Restart, Session, System, Turn}
use Rattle.zone_machine.specs.declared.faults.StepFault.{StepFault}
use Rattle.zone_machine.specs.declared.faults.StepFault.TheVariants.{DiskFault, Memory as No_memory, WouldRecord}
use Rattle.zone_machine.specs.declared.machine.Machine.{Machine}
use Rattle.zone_machine.specs.declared.machine.parts.Parts.{Parts}
use Rattle.zone_machine.specs.declared.machine.shared.Shared.{Shared}
use Rattle.zone_machine.specs.Code.Openings.{StandsFor}
use Rattle.zones_run.specs.Answering.{Fails, FailsLine, IsAnswered, LeavesText, Steps, Stops, StopsText}
use Rattle.zones_run.specs.declared.fault.RunFault.{RunFault}
use Rattle.zones_run.specs.declared.fault.Stop.TheVariants.{Fault}
use Rattle.zones_run.specs.Scripts.{Says, fits_stated, said_by, state_for}
use Rattle.zones_run.specs.declared.due.Due.{Due}
use Rattle.zones_run.specs.declared.fault.Stop.{Stop}
use Rattle.zones_run.specs.Recording.{GoesSurely}
use Rattle.zones_run.specs.Tracing.{entry_text}
use Rattle.zones_run.specs.declared.words.Mode.{Mode}
use Rattle.zones_run.specs.declared.fault.RunFault.TheVariants.{Memory}
use Rattle.zones_run.proofs.Fronts.{after_known-append}

-- what holds of any event holds so of one that is no restart
pub finds_other : (e : Event) (v : View) (bodies : List (List ℕ)) (S : State) → is_restart e ≡ false → FindsAgain e v bodies S
finds_other (Session n text) v bodies S h = tt
finds_other (Turn z) v bodies S h = tt
finds_other (Call_of z pid c) v bodies S h = tt
finds_other (System what) v bodies S h = tt
finds_other Restart v bodies S h = absurd (false≢true (sym h))

pub leaves_other : (fault : StepFault) (stated : Option Grant) (t u : Parts) (e : Event) → is_restart e ≡ false → LeavesAny fault stated t e u → Leaves fault stated t e u
leaves_other fault stated t u (Session n text) h left = left
leaves_other fault stated t u (Turn z) h left = left
leaves_other fault stated t u (Call_of z pid c) h left = left
leaves_other fault stated t u (System what) h left = left
leaves_other fault stated t u Restart h left = absurd (false≢true (sym h))

pub left_other : {D : Type 0} (may : Bool) (e : Event) (fault : StepFault) (a b : Account D) (v w : View) (s : Shared) → is_restart e ≡ false → BankLeftAny may e fault a b v w s → BankLeft may fault a b v w s
left_other may (Session n text) fault a b v w s h left = left
left_other may (Turn z) fault a b v w s h left = left
left_other may (Call_of z pid c) fault a b v w s h left = left
left_other may (System what) fault a b v w s h left = left
left_other may Restart fault a b v w s h left = absurd (false≢true (sym h))

-- and of a restart
pub restart_is : (e : Event) → is_restart e ≡ true → e ≡ Restart
restart_is (Session n text) h = absurd (false≢true h)
restart_is (Turn z) h = absurd (false≢true h)
restart_is (Call_of z pid c) h = absurd (false≢true h)
restart_is (System what) h = absurd (false≢true h)
restart_is Restart h = refl

pub left_restart : {D : Type 0} (e : Event) (fault : StepFault) (a b : Account D) (v w : View) (s : Shared) → is_restart e ≡ true → BankLeftAny true e fault a b v w s → RestartLeft true fault a b v w s
left_restart e fault a b v w s h left = subst (λ x. BankLeftAny true x fault a b v w s) (restart_is e h) left

pub finds_restart : (e : Event) (v : View) (bodies : List (List ℕ)) (S : State) → is_restart e ≡ true → v.Keeps → bodies_of S.commits ≡ bodies → FindsAgain e v bodies S
finds_restart e v bodies S h keeps same = subst (λ x. FindsAgain x v bodies S) (sym (restart_is e h)) (keeps, same)

-- it leaves the commits as they were, whatever came of it
goes_surely : (before after : List Commit) (v w : View) → after ≡ before → Goes before after v w → Passes v w → GoesSurely before after v w
goes_surely before after v w same goes passes = record {
  any_moment = goes.any_moment;
  now = λ keeps image now. either image (goes.now keeps image now);
  model = passes.model.0;
}
  where
    either : (image : List ℕ) → Holds before image ⊎ Holds after image → Holds after image
    either image (inl h) = subst (λ commits. Holds commits image) (sym same) h
    either image (inr h) = h

rests : (e : Event) (S : State) (g : Grant) → is_restart e ≡ true → (one S e g).state.commits ≡ S.commits
unfolding one subject
rests e S g h = ap (λ x. (one S x g).state.commits) (restart_is e h)

pub restart_goes : {D F : Type 0} (S : State) (d : Due) → is_restart d.event ≡ true → (old : Machine D F) (v w : View) → StandsFor S old → GoesUnder d.stated old.parts d.event old.bank.records v w → Passes v w → GoesSurely S.commits (state_for S d).commits v w
restart_goes S d h old v w stands goes passes = goes_surely S.commits _ v w (rests d.event S (taken d.stated S d.event) h) (goes S stands.parts stands.bodies) passes

-- whatever a crash leaves of a ready machine stands for the commits of its state
pub ready_holds : {D F : Type 0} (S : State) (m : Machine D F) (v : View) → StandsFor S m → IsReady v m.bank m.parts.shared → v.Keeps → NowHolds v S.commits
ready_holds S m v stands ready keeps = λ image now. record {
  stands = subst (λ bodies. Image_stands image bodies) (sym stands.bodies) (ready.settled keeps image now);
  leave = subst (λ rows. Leave (bodies_of S.commits) rows) (sym (ap (λ k. k.rows) stands.parts.shared)) (subst (λ bodies. Leave bodies (rows_of m.parts.shared.rows.entries)) (sym stands.bodies) ready.zones.leave);
}

-- the grant that was taken, which fits where it was stated
grant_taken : (stated : Option Grant) (S : State) (e : Event) (g : Grant) → Takes stated S e g → g ≡ taken stated S e
grant_taken None S e g takes = takes
grant_taken (Some stated) S e g takes = takes.0

pub fits_in : (stated : Option Grant) (t : Parts) (e : Event) (S : State) → FitsIn stated t e → Stands S t → fits_stated stated S e ≡ true
fits_in None t e S fits stands = refl
fits_in (Some g) t e S fits stands = fits S stands

-- the machine answered an event
pub steps_by : {D F : Type 0} (S : State) (d : Due) (a : Answer) (old new : Machine D F) (v w : View) → StandsFor S old → FitsIn d.stated old.parts d.event → StepsUnder d.stated S d.event (entry_by d.event a) new.parts → GoesUnder d.stated old.parts d.event old.bank.records v w
    → bodies_of (state_for S d).commits ≡ new.bank.records → IsReady w new.bank new.parts.shared → Passes v w → Steps S d a (λ T. StandsFor T new) v w
steps_by S d a old new v w stands fits step goes bodies ready passes =
    let grant = grant_taken d.stated S d.event (entry_by d.event a).grant step.takes in
    let after : StandsFor (state_for S d) new = record { parts = subst (λ g. Stands (one S d.event g).state new.parts) grant step.answers.stands; bodies = bodies } in
    record {
      fits = fits_in d.stated old.parts d.event S fits stands.parts;
      told = step.answers.told ∙ ap (entry_at S d.event) grant;
      stands = after;
      goes = record {
        any_moment = (goes S stands.parts stands.bodies).any_moment;
        now = λ keeps. ready_holds (state_for S d) new w after ready (passes.model.0 keeps);
        model = passes.model.0;
      };
    }

-- an event was not answered, since memory ran out
pub bank_same : {D : Type 0} (may : Bool) (fault : StepFault) (a b : Account D) (v w : View) (s : Shared) → fault ≡ No_memory → BankLeft may fault a b v w s → b ≡ a
bank_same may fault a b v w s is left = (subst (λ f. BankLeft may f a b v w s) is left).0

-- or since it would record and may not yet
pub would_same : {D : Type 0} (may : Bool) (fault : StepFault) (a b : Account D) (v w : View) (s : Shared) → fault ≡ WouldRecord → BankLeft may fault a b v w s → (b ≡ a) × IsReady w b s
would_same true fault a b v w s is left = absurd (subst (λ f. BankLeft true f a b v w s) is left)
would_same false fault a b v w s is left = subst (λ f. BankLeft false f a b v w s) is left

pub would_as : (fault : StepFault) (stated : Option Grant) (t u : Parts) (e : Event) → fault ≡ WouldRecord → Leaves fault stated t e u → AsItWas t u
would_as fault stated t u e is left = (subst (λ f. Leaves f stated t e u) is left).0

-- or since the disk failed, which it does only in one that may record
pub disk_rose : {D : Type 0} (may : Bool) (fault : StepFault) (a b : Account D) (v w : View) (s : Shared) → fault ≡ DiskFault → BankLeft may fault a b v w s → (may ≡ true) × Rose v.faults w.faults
disk_rose true fault a b v w s is left = (refl, (subst (λ f. BankLeft true f a b v w s) is left).0)
disk_rose false fault a b v w s is left = absurd (subst (λ f. BankLeft false f a b v w s) is left)

pub never_would : {D : Type 0} (fault : StepFault) (a b : Account D) (v w : View) (s : Shared) → fault ≡ WouldRecord → BankLeft true fault a b v w s → ⊥
never_would fault a b v w s is left = subst (λ f. BankLeft true f a b v w s) is left

-- the machine stands for what it stood for
pub stands_on : {D F : Type 0} (S : State) (old new : Machine D F) → AsItWas old.parts new.parts → new.bank ≡ old.bank → StandsFor S old → StandsFor S new
stands_on S old new was bank stands = record { parts = (was S).0 stands.parts; bodies = stands.bodies ∙ sym (ap (λ b. b.records) bank) }

-- the reply waits after what waited
pub is_answered : (mode : Mode) (S : State) (d : Due) (a : Answer) (now_stands : State → Type 0) (v w : View) (old new : List ℕ) (holds between now : Option (List ℕ)) → Steps S d a now_stands v w → after_known between old ≡ holds → new ≡ old ++ entry_text mode (entry_by d.event a)
    → now ≡ between → IsAnswered mode S d a now_stands v w holds (after_known now new)
is_answered mode S d a now_stands v w old new holds between now steps same text stays = record {
  fits = steps.fits;
  told = steps.told;
  stands = steps.stands;
  text = ap (λ known. after_known known new) stays ∙ ap (after_known between) text ∙ sym (after_known-append between old (entry_text mode (entry_by d.event a)))
      ∙ ap (λ known. after_known known (entry_text mode (entry_by d.event a))) same ∙ ap (λ (entry : Entry). after_known holds (entry_text mode entry)) steps.told;
  goes = steps.goes;
}

-- the same event, first left as it is
pub steps_later : {D : Type 0} (view : D → View) (S : State) (d : Due) (a : Answer) (now_stands : State → Type 0) (first mid : Account D) (w : View) → mid ≡ first → Steps S d a now_stands (view mid.disk) w → Steps S d a now_stands (view first.disk) w
steps_later view S d a now_stands first mid w same steps = subst (λ b. Steps S d a now_stands (view b.disk) w) same steps

pub if_ok_steps : {A E : Type 0} (r : Result A E) (P Q : A → Type 0) → ((a : A) → P a → Q a) → IfOk r P → IfOk r Q
if_ok_steps (Ok a) P Q lead holds = lead a holds
if_ok_steps (Err e) P Q lead holds = tt

pub if_err_fails : {A E : Type 0} (r : Result A E) (P Q : E → Type 0) → ((e : E) → P e → Q e) → IfErr r P → IfErr r Q
if_err_fails (Ok a) P Q lead holds = tt
if_err_fails (Err e) P Q lead holds = lead e holds

pub stops_later : {D : Type 0} (view : D → View) (S : State) (said : Says) (stop : Stop) (first mid last : Account D) → mid ≡ first → Stops stop (last ≡ mid) S said (view mid.disk) (view last.disk) → Stops stop (last ≡ first) S said (view first.disk) (view last.disk)
stops_later view S said stop first mid last same stops = subst (λ b. Stops stop (last ≡ b) S said (view b.disk) (view last.disk)) same stops

pub passes_later : {D : Type 0} (view : D → View) (first mid : Account D) (w : View) → mid ≡ first → Passes (view mid.disk) w → Passes (view first.disk) w
passes_later view first mid w same passes = subst (λ b. Passes (view b.disk) w) same passes

pub passes_on : (u v w : View) → Passes u v → Passes v w → Passes u w
passes_on u v w a b = record { model = (λ k. b.model.0 (a.model.0 k), λ k. a.model.1 (b.model.1 k)); faults = omega (arith, a.faults, b.faults) }

-- a line of which nothing was done
pub fails_nothing : (same : Type 0) (S : State) (said : Says) (v w : View) → same → FailsLine Memory same S said v w
fails_nothing same S (Ok (Some d)) v w left = inl left
fails_nothing same S (Ok None) v w left = left
fails_nothing same S (Err fault) v w left = left

-- the event that a line was read as was not answered
pub stops_event : (stop : Stop) (same : Type 0) (S : State) (mode : Mode) (started : Bool) (line : List ℕ) (d : Due) (v w : View) → started ≡ S.started → said_by mode started line ≡ Ok (Some d) → Stops stop same S (Ok (Some d)) v w → Stops stop same S (said_by mode S.started line) v w
stops_event stop same S mode started line d v w is says stops = subst (λ said. Stops stop same S said v w) (sym says ∙ ap (λ b. said_by mode b line) is) stops

-- a restart whose memory ran out fits
pub fits_left : (fault : StepFault) (stated : Option Grant) (t u : Parts) (e : Event) → is_restart e ≡ true → fault ≡ No_memory → LeavesAny fault stated t e u → FitsIn stated t e
fits_left fault stated t u e h is left =
    subst (FitsIn stated t) (sym (restart_is e h)) (subst (λ f. LeavesRestart f stated t u) is (subst (λ x. LeavesAny fault stated t x u) (restart_is e h) left)).1

-- a run that a fault ended
pub fails_of : (stop : Stop) (fault : RunFault) (same : Type 0) (S : State) (d : Due) (v w : View) → stop ≡ Fault fault → Stops stop same S (Ok (Some d)) v w → Fails fault same S d v w
fails_of stop fault same S d v w is stops = subst (λ s. Stops s same S (Ok (Some d)) v w) is stops

pub leaves_of : (stop : Stop) (fault : RunFault) (holds now : Option (List ℕ)) (waiting left : List ℕ) → stop ≡ Fault fault → StopsText stop holds now waiting left → LeavesText fault holds now waiting left
leaves_of stop fault holds now waiting left is text = subst (λ s. StopsText s holds now waiting left) is text
