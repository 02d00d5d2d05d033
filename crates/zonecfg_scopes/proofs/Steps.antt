-- One more subcommand: what stood for a list stands for the longer one.
use Rattle.std.proofs.Common.{◌≡◌, inl, inr, ℕ, List, [], ◌∷◌, ◌++◌, true, false, Option, Some, None, Result, Ok, Err, refl, ap, sym, subst, ◌∙◌, append_assoc}
use Rattle.config_terms.specs.declared.fault.ConfigFault.{ConfigFault}
use Rattle.config_terms.specs.declared.terms.Resource.{Resource}
use Rattle.config_terms.specs.Edits.{empty}
use Rattle.config_terms.specs.Edits as edits
use Rattle.config_terms.specs.Fields.{kind_of}
use Rattle.zone_config.specs.declared.terms.Contents.{Contents}
use Rattle.zone_config.specs.Edits.{with_property, without_property}
use Rattle.zone_config.specs.Resources.{found}
use Rattle.zonecfg_scopes.specs.declared.command.Command.{Command}
use Rattle.zonecfg_scopes.specs.declared.command.Command.TheVariants.{Blank, Add, Append, Cancel, Clear, Create, Delete, End, Exit, Help, Info, Remove, RemoveItem, Revert, Select, Set}
use Rattle.zonecfg_scopes.specs.declared.command.Matching.{Matching}
use Rattle.zonecfg_scopes.specs.declared.command.Topic.TheVariants.{Everything}
use Rattle.zonecfg_scopes.specs.declared.fault.EditFault.{EditFault}
use Rattle.zonecfg_scopes.specs.declared.fault.EditFault.TheVariants.{Memory, NeedForce, NothingOpen, WrongScope}
use Rattle.zonecfg_scopes.specs.declared.fault.Scope.TheVariants.{Global, Resource as Scoped}
use Rattle.zonecfg_scopes.specs.Open.{Open, Nothing, Whole, Inside}
use Rattle.zonecfg_scopes.specs.declared.resource_scope.ResourceScope.{ResourceScope}
use Rattle.zonecfg_scopes.specs.Commands.{list_name}
use Rattle.zonecfg_scopes.specs.Denotes.{Begins, Builds, Denotes, EndsInside, Follows, GoesOn, Stands, Stays, adds, built_appended, built_cleared, built_from, built_kept, built_removed, built_set, denotes_cancelled, denotes_cleared, denotes_created, denotes_ended, denotes_kept, denotes_removed, denotes_set, fault_in, refusal, selects}
use Rattle.zonecfg_scopes.specs.Edited.{or_stay, stepped}
use Rattle.zonecfg_scopes.specs.Faults.{passed_on}
use Rattle.zone_config.specs.Removal.{given, resource_at}
use Rattle.zonecfg_scopes.specs.Scopes.{leaves, made, put_back, without_matching}

module _ (base : Option Contents) (cs : List Command) where
  -- what is open after one more subcommand stands for the longer list
  abbrev Goes : Command → Open → Type 0
  Goes command o = Stands base (cs ++ command ∷ []) o

  longer : (front inner : List Command) (first command : Command) → cs ≡ front ++ first ∷ inner → cs ++ command ∷ [] ≡ front ++ first ∷ (inner ++ command ∷ [])
  longer front inner first command e = ap (λ xs. xs ++ command ∷ []) e ∙ append_assoc front (first ∷ inner) (command ∷ [])

  kept_inside : (c : Contents) (r : Resource) (at : Option ℕ) (command : Command) → EndsInside base cs c r at → Stays command (Inside c r at) → Goes command (Inside c r at)
  kept_inside c r at command s stays = record {
    front = s.front;
    first = s.first;
    inner = s.inner ++ command ∷ [];
    from = s.from;
    before = s.before;
    begins = s.begins;
    builds = built_kept s.inner r command s.builds stays;
    list = longer s.front s.inner s.first command s.list;
  }

  -- a change of a configuration came to be, or was refused
  changed : (c : Contents) (command : Command) (answer : Result Contents ConfigFault) → Denotes base cs (Some c) → refusal command (Whole c) ≡ fault_in (leaves Whole answer)
      → ((d : Contents) → answer ≡ Ok d → Denotes base (cs ++ command ∷ []) (Some d)) → Goes command (or_stay (Whole c) (leaves Whole answer))
  changed c command (Ok d) den refused done = done d refl
  changed c command (Err fault) den refused done = denotes_kept cs (Some c) command den (inr (passed_on fault, refused))

  -- the same of a resource
  built : (c : Contents) (r : Resource) (at : Option ℕ) (command : Command) (answer : Result Resource ConfigFault) (s : EndsInside base cs c r at) → refusal command (Inside c r at) ≡ fault_in (leaves (λ x. Inside c x at) answer)
      → ((x : Resource) → answer ≡ Ok x → Builds c at s.from (s.inner ++ command ∷ []) x) → Goes command (or_stay (Inside c r at) (leaves (λ x. Inside c x at) answer))
  built c r at command (Ok x) s refused done = record {
    front = s.front;
    first = s.first;
    inner = s.inner ++ command ∷ [];
    from = s.from;
    before = s.before;
    begins = s.begins;
    builds = done x refl;
    list = longer s.front s.inner s.first command s.list;
  }
  built c r at command (Err fault) s refused done = kept_inside c r at command s (inr (passed_on fault, refused))

  begun : (c : Contents) (command : Command) (r : Resource) (at : Option ℕ) → Denotes base cs (Some c) → Begins c command r at → Goes command (Inside c r at)
  begun c command r at den begins = record {
    front = cs;
    first = command;
    inner = [];
    from = r;
    before = den;
    begins = begins;
    builds = built_from;
    list = refl;
  }

  stands_nothing : (command : Command) → Denotes base cs None → Goes command (stepped command Nothing)
  unfolding made
  stands_nothing (Create force bare) den = denotes_created cs None force bare den refl
  stands_nothing Blank den = denotes_kept cs None Blank den (inl refl)
  stands_nothing Help den = denotes_kept cs None Help den (inl refl)
  stands_nothing (Exit force) den = denotes_kept cs None (Exit force) den (inl refl)
  stands_nothing command den = denotes_kept cs None command den (inr (NothingOpen, refl))

  abbrev picks : Contents → Matching → ℕ → ResourceScope
  picks c m place = record { resource = resource_at m.kind place c; place = Some place }

  abbrev opens : Contents → ResourceScope → Open
  opens c s = Inside c s.resource s.place

  selected : (c : Contents) (m : Matching) (answer : Result ℕ ConfigFault) → Denotes base cs (Some c) → found m.kind m.pairs c ≡ answer
      → refusal (Select m) (Whole c) ≡ fault_in (leaves (opens c) (given (picks c m) answer))
      → Goes (Select m) (or_stay (Whole c) (leaves (opens c) (given (picks c m) answer)))
  selected c m (Ok place) den e refused = begun c (Select m) _ _ den (selects m place e)
  selected c m (Err fault) den e refused = denotes_kept cs (Some c) (Select m) den (inr (passed_on fault, refused))

  stands_whole : (c : Contents) (command : Command) → Denotes base cs (Some c) → Goes command (stepped command (Whole c))
  unfolding made
  stands_whole c (Create true bare) den = denotes_created cs (Some c) true bare den refl
  stands_whole c (Create false bare) den = denotes_kept cs (Some c) (Create false bare) den (inr (NeedForce, refl))
  stands_whole c (Delete true) den = denotes_kept cs (Some c) (Delete true) den (inl refl)
  stands_whole c (Delete false) den = denotes_kept cs (Some c) (Delete false) den (inl refl)
  stands_whole c (Revert true) den = denotes_kept cs (Some c) (Revert true) den (inl refl)
  stands_whole c (Revert false) den = denotes_kept cs (Some c) (Revert false) den (inl refl)
  stands_whole c (Set name v) den = changed c (Set name v) (with_property name v c) den refl (λ d e. denotes_set cs c d name v den e)
  stands_whole c (Clear name) den = changed c (Clear name) (without_property name c) den refl (λ d e. denotes_cleared cs c d name den e)
  stands_whole c (Remove force m) den = changed c (Remove force m) (without_matching force m c) den refl (λ d e. denotes_removed cs c d force m den e)
  stands_whole c (Add k) den = begun c (Add k) (empty k) None den (adds k)
  stands_whole c (Select m) den = selected c m (found m.kind m.pairs c) den refl refl
  stands_whole c (Append list v) den = denotes_kept cs (Some c) (Append list v) den (inr (WrongScope Global, refl))
  stands_whole c (RemoveItem list v) den = denotes_kept cs (Some c) (RemoveItem list v) den (inr (WrongScope Global, refl))
  stands_whole c End den = denotes_kept cs (Some c) End den (inr (WrongScope Global, refl))
  stands_whole c Cancel den = denotes_kept cs (Some c) Cancel den (inr (WrongScope Global, refl))
  stands_whole c command den = denotes_kept cs (Some c) command den (inl refl)

  -- a scope that ends puts its resource back, or is refused
  ended : (c : Contents) (r : Resource) (at : Option ℕ) (answer : Result Contents ConfigFault) → EndsInside base cs c r at → put_back at r c ≡ answer
      → refusal End (Inside c r at) ≡ fault_in (leaves Whole answer) → Goes End (or_stay (Inside c r at) (leaves Whole answer))
  ended c r at (Ok d) s e refused =
      let P : List Command → Type 0 = λ all. Denotes base (all ++ End ∷ []) (Some d) in
      subst P (sym s.list) (denotes_ended s.front s.inner c d s.first s.from r at s.before s.begins s.builds e)
  ended c r at (Err fault) s e refused = kept_inside c r at End s (inr (passed_on fault, refused))

  cancelled : (c : Contents) (r : Resource) (at : Option ℕ) → EndsInside base cs c r at → Denotes base (cs ++ Cancel ∷ []) (Some c)
  cancelled c r at s =
      let P : List Command → Type 0 = λ all. Denotes base (all ++ Cancel ∷ []) (Some c) in
      subst P (sym s.list) (denotes_cancelled s.front s.inner c s.first s.from r at s.before s.begins s.builds)

  stands_inside : (c : Contents) (r : Resource) (at : Option ℕ) (command : Command) → EndsInside base cs c r at → Goes command (stepped command (Inside c r at))
  unfolding made
  stands_inside c r at (Set name v) s = built c r at (Set name v) (edits.with_property name v r) s refl (λ x e. built_set s.inner r x name v s.builds e)
  stands_inside c r at (Clear name) s = built c r at (Clear name) (edits.without_property name r) s refl (λ x e. built_cleared s.inner r x name s.builds e)
  stands_inside c r at (Append list v) s = built c r at (Append list v) (edits.with_value (list_name list) v r) s refl (λ x e. built_appended s.inner r x list v s.builds e)
  stands_inside c r at (RemoveItem list v) s = built c r at (RemoveItem list v) (edits.without_value (list_name list) v r) s refl (λ x e. built_removed s.inner r x list v s.builds e)
  stands_inside c r at End s = ended c r at (put_back at r c) s refl refl
  stands_inside c r at Cancel s = cancelled c r at s
  stands_inside c r at Blank s = kept_inside c r at Blank s (inl refl)
  stands_inside c r at Help s = kept_inside c r at Help s (inl refl)
  stands_inside c r at (Info Everything) s = kept_inside c r at (Info Everything) s (inl refl)
  stands_inside c r at (Exit true) s = kept_inside c r at (Exit true) s (inl refl)
  stands_inside c r at command s = kept_inside c r at command s (inr (WrongScope (Scoped (kind_of r)), refl))

  -- what a stepped editor stands for
  pub stands_stepped : (command : Command) (o : Open) → Stands base cs o → Goes command (stepped command o)
  stands_stepped command Nothing s = stands_nothing command s
  stands_stepped command (Whole c) s = stands_whole c command s
  stands_stepped command (Inside c r at) s = stands_inside c r at command s

step_made : (command : Command) (old new : Open) → stepped command old ≡ new → (base : Option Contents) (cs : List Command) → Stands base cs old → Stands base (cs ++ command ∷ []) new
step_made command old new e base cs s = let P : Open → Type 0 = λ o. Stands base (cs ++ command ∷ []) o in subst P e (stands_stepped base cs command old s)

step_refused : (command : Command) (old new : Open) (fault : EditFault) → (made command old ≡ Err fault) × (new ≡ old) → (base : Option Contents) (cs : List Command) → Stands base cs old → Stands base (cs ++ command ∷ []) new
step_refused command old new fault f = step_made command old new (ap (or_stay old) f.0 ∙ sym f.1)

-- what follows goes on
pub goes_on : (command : Command) (old new : Open) (result : Result (Unit {0}) EditFault) → Follows command old new result → GoesOn command old new result
goes_on command old new (Ok x) f = step_made command old new (ap (or_stay old) f)
goes_on command old new (Err Memory) f = λ base cs s. (let P : Open → Type 0 = λ o. Stands base cs o in subst P (sym f) s)
goes_on command old new (Err fault) f = step_refused command old new fault f
