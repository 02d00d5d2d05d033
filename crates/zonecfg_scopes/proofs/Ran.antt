-- What a list of subcommands denotes is what a run over it leaves open, and so one thing.
use Rattle.std.proofs.Common.{◌≡◌, inl, inr, ℕ, List, [], ◌∷◌, ◌++◌, Bool, true, false, Option, Some, None, Result, Ok, Err, refl, ap, sym, subst, ◌∙◌, append_assoc}
use Rattle.std.proofs.lemmas.Bool.{false≢true}
use Rattle.std.proofs.lemmas.List.{append-nil}
use Rattle.config_terms.specs.declared.fault.ConfigFault.{ConfigFault}
use Rattle.config_terms.specs.declared.terms.Resource.{Resource}
use Rattle.zone_config.specs.declared.terms.Contents.{Contents}
use Rattle.zonecfg_scopes.specs.declared.command.Command.{Command}
use Rattle.zonecfg_scopes.specs.declared.command.Command.TheVariants.{Add, Append, Cancel, Clear, Create, Delete, End, Exit, Info, Remove, RemoveItem, Revert, Select, Set}
use Rattle.zonecfg_scopes.specs.declared.command.Matching.{Matching}
use Rattle.zonecfg_scopes.specs.declared.command.Topic.TheVariants.{Everything}
use Rattle.zonecfg_scopes.specs.declared.fault.EditFault.{EditFault}
use Rattle.zonecfg_scopes.specs.declared.resource_scope.ResourceScope.{ResourceScope}
use Rattle.zonecfg_scopes.specs.Denotes.{Begins, Builds, Denotes, Stands, Stays, adds, based, built_appended, built_cleared, built_from, built_kept, built_removed, built_set, denotes_cancelled, denotes_cleared, denotes_created, denotes_ended, denotes_kept, denotes_removed, denotes_set, fault_in, only_shows, refusal, selects, whole}
use Rattle.zonecfg_scopes.specs.Edited.{or_stay, stepped}
use Rattle.zonecfg_scopes.specs.Laws.{OneStands}
use Rattle.zonecfg_scopes.specs.Open.{Open, Nothing, Whole, Inside}
use Rattle.zone_config.specs.Removal.{given, resource_at}
use Rattle.zonecfg_scopes.specs.Scopes.{created, leaves, made, made_of_inside, made_of_nothing, made_of_whole}
use Rattle.zonecfg_scopes.proofs.Steps.{stands_stepped}

-- what is open after subcommands, one after another
abbrev ran : Open → List Command → Open
ran o [] = o
ran o (command ∷ cs) = ran (stepped command o) cs

ran-append : (o : Open) (xs ys : List Command) → ran o (xs ++ ys) ≡ ran (ran o xs) ys
ran-append o [] ys = refl
ran-append o (x ∷ xs) ys = ran-append (stepped x o) xs ys

shows_nothing : (command : Command) → only_shows command ≡ true → or_stay Nothing (made_of_nothing command) ≡ Nothing
shows_nothing (Create force bare) h = absurd (false≢true h)
shows_nothing command h = refl

shows_whole : (c : Contents) (command : Command) → only_shows command ≡ true → or_stay (Whole c) (made_of_whole c command) ≡ Whole c
shows_whole c (Create force bare) h = absurd (false≢true h)
shows_whole c (Set name v) h = absurd (false≢true h)
shows_whole c (Clear name) h = absurd (false≢true h)
shows_whole c (Remove force m) h = absurd (false≢true h)
shows_whole c (Add k) h = absurd (false≢true h)
shows_whole c (Select m) h = absurd (false≢true h)
shows_whole c (Delete true) h = refl
shows_whole c (Delete false) h = refl
shows_whole c (Revert true) h = refl
shows_whole c (Revert false) h = refl
shows_whole c command h = refl

shows_inside : (c : Contents) (r : Resource) (at : Option ℕ) (command : Command) → only_shows command ≡ true → or_stay (Inside c r at) (made_of_inside c r at command) ≡ Inside c r at
shows_inside c r at (Set name v) h = absurd (false≢true h)
shows_inside c r at (Clear name) h = absurd (false≢true h)
shows_inside c r at (Append list v) h = absurd (false≢true h)
shows_inside c r at (RemoveItem list v) h = absurd (false≢true h)
shows_inside c r at End h = absurd (false≢true h)
shows_inside c r at Cancel h = absurd (false≢true h)
shows_inside c r at (Info Everything) h = refl
shows_inside c r at (Exit true) h = refl
shows_inside c r at command h = refl

shows : (command : Command) (o : Open) → only_shows command ≡ true → stepped command o ≡ o
unfolding made
shows command Nothing h = shows_nothing command h
shows command (Whole c) h = shows_whole c command h
shows command (Inside c r at) h = shows_inside c r at command h

refused : (o : Open) (answer : Result Open EditFault) (fault : EditFault) → fault_in answer ≡ Some fault → or_stay o answer ≡ o
refused o (Ok new) fault h = absurd (cc)
refused o (Err other) fault h = refl

-- what denotes nothing new leaves all as it was
stayed : (command : Command) (o : Open) → Stays command o → stepped command o ≡ o
stayed command o (inl h) = shows command o h
stayed command o (inr h) = refused o (made command o) h.0 h.1

created_step : (o : Option Contents) (force bare : Bool) → refusal (Create force bare) (whole o) ≡ None → stepped (Create force bare) (whole o) ≡ Whole (created bare)
unfolding made
created_step None force bare h = refl
created_step (Some c) true bare h = refl
created_step (Some c) false bare h = absurd (cc)

abbrev picks : Contents → Matching → ℕ → ResourceScope
picks c m place = record { resource = resource_at m.kind place c; place = Some place }

abbrev opens : Contents → ResourceScope → Open
opens c s = Inside c s.resource s.place

begun_step : (c : Contents) (first : Command) (from : Resource) (at : Option ℕ) → Begins c first from at → stepped first (Whole c) ≡ Inside c from at
unfolding made
begun_step c first from at (adds k) = refl
begun_step c first from at (selects m place e) =
    ap (λ answer. or_stay (Whole c) (leaves (opens c) (given (picks c m) answer))) e

-- a run over a longer list
at_end : (start o p : Open) (cs : List Command) (command : Command) → ran start cs ≡ o → stepped command o ≡ p → ran start (cs ++ command ∷ []) ≡ p
at_end start o p cs command e f = ran-append start cs (command ∷ []) ∙ ap (stepped command) e ∙ f

module _ (c : Contents) (at : Option ℕ) (from : Resource) where
  edited : (r : Resource) (answer : Result Resource ConfigFault) (s : Resource) → answer ≡ Ok s → or_stay (Inside c r at) (leaves (λ x. Inside c x at) answer) ≡ Inside c s at
  edited r answer s e = ap (λ x. or_stay (Inside c r at) (leaves (λ y. Inside c y at) x)) e

  built : (cs : List Command) (r : Resource) → Builds c at from cs r → ran (Inside c from at) cs ≡ Inside c r at
  unfolding made
  built all end built_from = refl
  built all end (built_set cs r s name v b e) = at_end _ _ _ cs (Set name v) (built cs r b) (edited r _ s e)
  built all end (built_cleared cs r s name b e) = at_end _ _ _ cs (Clear name) (built cs r b) (edited r _ s e)
  built all end (built_appended cs r s list v b e) = at_end _ _ _ cs (Append list v) (built cs r b) (edited r _ s e)
  built all end (built_removed cs r s list v b e) = at_end _ _ _ cs (RemoveItem list v) (built cs r b) (edited r _ s e)
  built all end (built_kept cs r command b stays) = at_end _ _ _ cs command (built cs r b) (stayed command (Inside c r at) stays)

-- what stands in a scope that was begun
inside : (start : Open) (cs inner : List Command) (c : Contents) (first : Command) (from r : Resource) (at : Option ℕ) → ran start cs ≡ Whole c → Begins c first from at → Builds c at from inner r → ran start (cs ++ first ∷ inner) ≡ Inside c r at
inside start cs inner c first from r at e begins builds =
    ran-append start cs (first ∷ inner) ∙ ap (λ o. ran o (first ∷ inner)) e ∙ ap (λ o. ran o inner) (begun_step c first from at begins) ∙ built c at from inner r builds

module _ (base : Option Contents) where
  changed : (c : Contents) (answer : Result Contents ConfigFault) (d : Contents) → answer ≡ Ok d → or_stay (Whole c) (leaves Whole answer) ≡ Whole d
  changed c answer d e = ap (λ x. or_stay (Whole c) (leaves Whole x)) e

  denoted : (cs : List Command) (o : Option Contents) → Denotes base cs o → ran (whole base) cs ≡ whole o
  unfolding made
  denoted all o based = refl
  denoted all p (denotes_created cs o force bare den e) = at_end _ _ _ cs (Create force bare) (denoted cs o den) (created_step o force bare e)
  denoted all o (denotes_set cs c d name v den e) = at_end _ _ _ cs (Set name v) (denoted cs (Some c) den) (changed c _ d e)
  denoted all o (denotes_cleared cs c d name den e) = at_end _ _ _ cs (Clear name) (denoted cs (Some c) den) (changed c _ d e)
  denoted all o (denotes_removed cs c d force m den e) = at_end _ _ _ cs (Remove force m) (denoted cs (Some c) den) (changed c _ d e)
  denoted all o (denotes_ended cs inner c d first from r at den begins builds e) =
      at_end _ _ _ (cs ++ first ∷ inner) End (inside (whole base) cs inner c first from r at (denoted cs (Some c) den) begins builds)
      (ap (λ x. or_stay (Inside c r at) (leaves Whole x)) e)
  denoted all o (denotes_cancelled cs inner c first from r at den begins builds) =
      at_end _ _ _ (cs ++ first ∷ inner) Cancel (inside (whole base) cs inner c first from r at (denoted cs (Some c) den) begins builds) refl
  denoted all o (denotes_kept cs p command den stays) = at_end _ _ _ cs command (denoted cs o den) (stayed command (whole o) stays)

  stood : (cs : List Command) (o : Open) → Stands base cs o → o ≡ ran (whole base) cs
  stood cs Nothing s = sym (denoted cs None s)
  stood cs (Whole c) s = sym (denoted cs (Some c) s)
  stood cs (Inside c r at) s =
      sym (ap (ran (whole base)) s.list ∙ inside (whole base) s.front s.inner c s.first s.from r at (denoted s.front (Some c) s.before) s.begins s.builds)

  begun : (o : Option Contents) → Denotes base [] o → Stands base [] (whole o)
  begun None d = d
  begun (Some c) d = d

  -- what a run leaves open stands for the list
  goes : (xs : List Command) (o : Open) (cs : List Command) → Stands base xs o → Stands base (xs ++ cs) (ran o cs)
  goes xs o [] s = let P : List Command → Type 0 = λ all. Stands base all o in subst P (sym (append-nil xs)) s
  goes xs o (command ∷ cs) s =
      let P : List Command → Type 0 = λ all. Stands base all (ran (stepped command o) cs) in
      subst P (append_assoc xs (command ∷ []) cs) (goes (xs ++ command ∷ []) (stepped command o) cs (stands_stepped base xs command o s))

pub one_stands : OneStands
one_stands base cs = record {
  what = ran (whole base) cs;
  stands = goes base [] (whole base) cs (begun base base based);
  alone = stood base cs;
}
