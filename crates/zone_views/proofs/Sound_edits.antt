-- What is edited stays sound: what a subcommand makes of something sound, and so what a line of zonecfg(8) leaves.
use Rattle.std.proofs.Common.{◌≡◌, ℕ, Bool, true, false, List, [], ◌∷◌, Option, Some, None, Result, Ok, Err, refl, subst}
use Rattle.std.specs.Prelude.{if◌then◌else◌}
use Rattle.config_terms.specs.Edits as edits
use Rattle.config_terms.specs.declared.fault.ConfigFault.{ConfigFault}
use Rattle.config_terms.specs.declared.terms.Resource.{Resource}
use Rattle.config_verify.specs.declared.flaw.Flaw.{Flaw}
use Rattle.zone_config.specs.Edits.{with_property, without_property}
use Rattle.zone_config.specs.Sound.{IsSound}
use Rattle.zone_config.specs.declared.terms.Contents.{Contents}
use Rattle.zonecfg_lex.specs.Subcommands.{subcommands_of}
use Rattle.zonecfg_lex.specs.declared.fault.LexFault.{LexFault}
use Rattle.zonecfg_scopes.specs.Commands.{list_name}
use Rattle.zonecfg_scopes.specs.Edited.{Edited, after_command, answer_of, opened_on, or_stay}
use Rattle.zonecfg_scopes.specs.Forms.{command_of}
use Rattle.zonecfg_scopes.specs.Open.{Inside, Nothing as Closed, Open, Whole}
use Rattle.zonecfg_scopes.specs.OpenOf.{config_of}
use Rattle.zonecfg_scopes.specs.Scopes.{created, leaves, made, made_of_inside, made_of_nothing, made_of_whole, needs_force, put_back, selection, without_matching}
use Rattle.zonecfg_scopes.specs.declared.base.Base.{Base}
use Rattle.zonecfg_scopes.specs.declared.command.Command.{Command}
use Rattle.zonecfg_scopes.specs.declared.command.Command.TheVariants.{Add, Append, Blank, Cancel, Clear, Create, Delete, End, Exit, Help, Info, Remove, RemoveItem, Revert, Select, Set}
use Rattle.zonecfg_scopes.specs.declared.command.EditReply.{EditReply}
use Rattle.zonecfg_scopes.specs.declared.command.EditReply.TheVariants.{Done, Lines, WantCommit, WantDelete, WantExit, WantRevert, WantVerify}
use Rattle.zonecfg_scopes.specs.declared.command.Matching.{Matching}
use Rattle.zonecfg_scopes.specs.declared.command.Topic.TheVariants.{Everything}
use Rattle.zonecfg_scopes.specs.declared.fault.EditFault.{EditFault}
use Rattle.zonecfg_scopes.specs.declared.resource_scope.ResourceScope.{ResourceScope}
use Rattle.zonecfg_lines.specs.Order.{has_misplaced}
use Rattle.zonecfg_lines.specs.Runs.{Run, alone_run, answered, by_answer, first_flaw, followed_by, in_turn, line_by, line_run, obeyed, obeyed_as, refuses, reverted, unless_flawed}
use Rattle.zonecfg_lines.specs.declared.refusal.LineRefusal.{LineRefusal}
use Rattle.zonecfg_lines.specs.declared.refusal.LineRefusal.TheVariants.{Usage}
use Rattle.zonecfg_lines.specs.declared.reply.Ending.{Ending}
use Rattle.zonecfg_lines.specs.declared.reply.Ending.TheVariants as ending
use Rattle.zone_views.proofs.Sound_configs.{blank-sound, branded-sound, with-property-sound, with-replaced-sound, with-resource-sound, without-all-sound, without-found-sound, without-property-sound}

-- what is open is sound, if anything is
abbrev pub IsOpenSound : Open → Type 0
IsOpenSound Closed = Unit {0}
IsOpenSound (Whole c) = IsSound c
IsOpenSound (Inside c r at) = IsSound c

abbrev IsMadeSound : Result Open EditFault → Type 0
IsMadeSound (Ok o) = IsOpenSound o
IsMadeSound (Err fault) = Unit {0}

abbrev pub IsBaseSound : Option Base → Type 0
IsBaseSound None = Unit {0}
IsBaseSound (Some b) = IsSound b.config

created-sound : (bare : Bool) → IsSound (created bare)
created-sound true = blank-sound
created-sound false = branded-sound

forced-sound : (force : Bool) (o : Open) → IsOpenSound o → IsMadeSound (needs_force force o)
forced-sound true o s = s
forced-sound false o s = tt

leaves-sound : {A : Type 0} (scope : A → Open) (r : Result A ConfigFault) → ((x : A) → r ≡ Ok x → IsOpenSound (scope x)) → IsMadeSound (leaves scope r)
leaves-sound scope (Ok x) h = h x refl
leaves-sound scope (Err fault) h = tt

matching-sound : (force : Bool) (m : Matching) (c d : Contents) → IsSound c → without_matching force m c ≡ Ok d → IsSound d
unfolding without_matching
matching-sound false m c d s h = without-found-sound m.kind m.pairs c d s h
matching-sound true m c d s h = without-all-sound m.kind m.pairs c d s h

put-back-sound : (at : Option ℕ) (r : Resource) (c d : Contents) → IsSound c → put_back at r c ≡ Ok d → IsSound d
put-back-sound None r c d s h = with-resource-sound r c d s h
put-back-sound (Some place) r c d s h = with-replaced-sound place r c d s h

whole-sound : (c : Contents) (command : Command) → IsSound c → IsMadeSound (made_of_whole c command)
whole-sound c (Create force bare) s = forced-sound force (Whole (created bare)) (created-sound bare)
whole-sound c (Delete force) s = forced-sound force (Whole c) s
whole-sound c (Revert force) s = forced-sound force (Whole c) s
whole-sound c (Set name value) s = leaves-sound Whole (with_property name value c) (λ d h. with-property-sound name value c d s h)
whole-sound c (Clear name) s = leaves-sound Whole (without_property name c) (λ d h. without-property-sound name c d s h)
whole-sound c (Remove force m) s = leaves-sound Whole (without_matching force m c) (λ d h. matching-sound force m c d s h)
whole-sound c (Add k) s = s
whole-sound c (Select m) s = leaves-sound (λ (x : ResourceScope). Inside c x.resource x.place) (selection m c) (λ x h. s)
whole-sound c (Append list value) s = tt
whole-sound c (RemoveItem list value) s = tt
whole-sound c End s = tt
whole-sound c Cancel s = tt
whole-sound c command s = s

inside-sound : (c : Contents) (r : Resource) (at : Option ℕ) (command : Command) → IsSound c → IsMadeSound (made_of_inside c r at command)
inside-sound c r at (Set name value) s = leaves-sound (λ x. Inside c x at) (edits.with_property name value r) (λ x h. s)
inside-sound c r at (Clear name) s = leaves-sound (λ x. Inside c x at) (edits.without_property name r) (λ x h. s)
inside-sound c r at (Append list value) s = leaves-sound (λ x. Inside c x at) (edits.with_value (list_name list) value r) (λ x h. s)
inside-sound c r at (RemoveItem list value) s = leaves-sound (λ x. Inside c x at) (edits.without_value (list_name list) value r) (λ x h. s)
inside-sound c r at End s = leaves-sound Whole (put_back at r c) (λ d h. put-back-sound at r c d s h)
inside-sound c r at Cancel s = s
inside-sound c r at Blank s = s
inside-sound c r at Help s = s
inside-sound c r at (Info Everything) s = s
inside-sound c r at (Exit true) s = s
inside-sound c r at command s = tt

nothing-sound : (command : Command) → IsMadeSound (made_of_nothing command)
nothing-sound Blank = tt
nothing-sound Help = tt
nothing-sound (Exit force) = tt
nothing-sound (Create force bare) = created-sound bare
nothing-sound command = tt

made-sound : (command : Command) (o : Open) → IsOpenSound o → IsMadeSound (made command o)
unfolding made
made-sound command Closed s = nothing-sound command
made-sound command (Whole c) s = whole-sound c command s
made-sound command (Inside c r at) s = inside-sound c r at command s

-- an editor after a subcommand
stays-sound : (o : Open) (m : Result Open EditFault) → IsOpenSound o → IsMadeSound m → IsOpenSound (or_stay o m)
stays-sound o (Ok n) s h = h
stays-sound o (Err fault) s h = s

after-sound : (command : Command) (e : Edited) → IsOpenSound e.opened → IsOpenSound (after_command command e).opened
after-sound command e s = stays-sound e.opened (made command e.opened) s (made-sound command e.opened s)

-- an editor that begins anew on what is stored
pub opened-sound : (name : List ℕ) (base : Option Base) → IsBaseSound base → IsOpenSound (opened_on name base).opened
opened-sound name None s = tt
opened-sound name (Some b) s = s

module _ (stored : Option Base) (brands : List (List ℕ)) (b : IsBaseSound stored) where
  abbrev IsRunSound : Run → Type 0
  IsRunSound run = IsOpenSound run.edited.opened

  unless-sound : (said : Result (Unit {0}) Flaw) (e : Edited) → IsOpenSound e.opened → IsRunSound (unless_flawed said e)
  unless-sound (Ok x) e s = s
  unless-sound (Err flaw) e s = s

  reverted-sound : (base : Option Base) (e : Edited) → IsBaseSound base → IsOpenSound e.opened → IsRunSound (reverted base e)
  reverted-sound None e h s = s
  reverted-sound (Some base) e h s = h

  answered-sound : (reply : EditReply) (e : Edited) → IsOpenSound e.opened → IsRunSound (answered stored brands reply e)
  answered-sound Done e s = s
  answered-sound (Lines lines) e s = s
  answered-sound WantVerify e s = unless-sound (first_flaw brands (config_of e.opened)) e s
  answered-sound WantRevert e s = reverted-sound stored e b s
  answered-sound WantCommit e s = s
  answered-sound WantDelete e s = s
  answered-sound (WantExit force) e s = s

  obeyed-sound : (command : Command) (e : Edited) → IsOpenSound e.opened → IsRunSound (obeyed stored brands command e)
  unfolding obeyed
  obeyed-sound command e s = at_answer (answer_of command e)
    where
      at_answer : (r : Result EditReply EditFault) → IsRunSound (by_answer stored brands command r e)
      at_answer (Ok reply) = answered-sound reply (after_command command e) (after-sound command e s)
      at_answer (Err fault) = s

  read-sound : (read : Result Command EditFault) (e : Edited) → IsOpenSound e.opened → IsRunSound (obeyed_as stored brands read e)
  read-sound (Ok command) e s = obeyed-sound command e s
  read-sound (Err fault) e s = s

  followed-sound : (e : Edited) (told : List (List ℕ)) (end : Result Ending LineRefusal) (next : Edited → Run) → IsOpenSound e.opened → ((e : Edited) → IsOpenSound e.opened → IsRunSound (next e))
      → IsRunSound (followed_by e told end next)
  followed-sound e told (Ok ending.Nothing) next s h = h e s
  followed-sound e told (Ok other) next s h = s
  followed-sound e told (Err refusal) next s h = s

  turn-sound : (texts : List (List ℕ)) (e : Edited) → IsOpenSound e.opened → IsRunSound (in_turn stored brands texts e)
  turn-sound [] e s = s
  turn-sound (text ∷ texts) e s =
      let run = obeyed_as stored brands (command_of text) e in
      followed-sound run.edited run.told run.end (in_turn stored brands texts) (read-sound (command_of text) e s) (turn-sound texts)

  -- what a line of a session leaves, and one that is a session of its own
  pub line-sound : (text : List ℕ) (e : Edited) → IsOpenSound e.opened → IsRunSound (line_run stored brands text e)
  unfolding line_run
  line-sound text e s = at_parts (subcommands_of text)
    where
      at_place : (misplaced : Bool) (texts : List (List ℕ)) → IsRunSound (if misplaced then refuses Usage e else in_turn stored brands texts e)
      at_place true texts = s
      at_place false texts = turn-sound texts e s

      at_parts : (r : Result (List (List ℕ)) LexFault) → IsRunSound (line_by stored brands r e)
      at_parts (Ok texts) = at_place (has_misplaced texts) texts
      at_parts (Err fault) = s

  pub alone-sound : (text : List ℕ) (e : Edited) → IsOpenSound e.opened → IsRunSound (alone_run stored brands text e)
  unfolding alone_run
  alone-sound text e s =
      let run = line_run stored brands text e in
      followed-sound run.edited run.told run.end (obeyed stored brands (Exit false)) (line-sound text e s) (obeyed-sound (Exit false))

-- the configuration that is open is sound
pub config-sound : (o : Open) (c : Contents) → IsOpenSound o → config_of o ≡ Some c → IsSound c
config-sound Closed c s h = absurd (cc)
config-sound (Whole d) c s h = let same : d ≡ c = cc in subst IsSound same s
config-sound (Inside d r at) c s h = let same : d ≡ c = cc in subst IsSound same s
