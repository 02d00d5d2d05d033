-- What was selected keeps its place.
use Rattle.std.proofs.Common.{◌≡◌, ℕ, ◌<◌, Bool, true, false, cond, nat_lt, List, [], ◌∷◌, Option, Some, None, Result, Ok, Err, length, refl, ap, sym, subst, arith, ◌∙◌}
use Rattle.std.specs.Prelude.{count_by, option_map, position, slice_get, unwrap_or}
use Rattle.std.proofs.lemmas.Bool.Decides.{nat_tests}
use Rattle.std.proofs.lemmas.List.Quantifiers.{position-Some}
use Rattle.config_terms.specs.declared.fault.ConfigFault.{ConfigFault}
use Rattle.config_terms.specs.declared.fault.ConfigFault.TheVariants.{SeveralMatch}
use Rattle.config_terms.specs.declared.terms.Kind.{Kind}
use Rattle.config_terms.specs.declared.terms.Resource.{Resource}
use Rattle.config_terms.specs.Edits as edits
use Rattle.config_terms.specs.Edits.{empty}
use Rattle.config_terms.specs.Fields.{kind_of}
use Rattle.config_terms.specs.Matches.{has_all, only_place, place_or}
use Rattle.zn_base.specs.declared.values.Pair.{Pair}
use Rattle.zone_config.specs.declared.terms.Contents.{Contents}
use Rattle.zone_config.specs.Edits.{with_property, without_property}
use Rattle.zone_config.specs.Resources.{count_of, found}
use Rattle.zone_config.proofs.Rows.{count_of-row, each_kind, found-row, resource_at-row}
use Rattle.zonecfg_scopes.specs.declared.command.Command.{Command}
use Rattle.zonecfg_scopes.specs.declared.command.Command.TheVariants.{Blank, Add, Append, Cancel, Clear, Create, Delete, End, Exit, Help, Info, Remove, RemoveItem, Revert, Select, Set}
use Rattle.zonecfg_scopes.specs.declared.command.Matching.{Matching}
use Rattle.zonecfg_scopes.specs.declared.command.Topic.TheVariants.{Everything}
use Rattle.zonecfg_scopes.specs.declared.fault.EditFault.{EditFault}
use Rattle.zonecfg_scopes.specs.declared.fault.EditFault.TheVariants.{Memory}
use Rattle.zonecfg_scopes.specs.declared.resource_scope.ResourceScope.{ResourceScope}
use Rattle.zonecfg_scopes.specs.Commands.{list_name}
use Rattle.zonecfg_scopes.specs.Denotes.{Follows}
use Rattle.zonecfg_scopes.specs.Open.{Open, Nothing, Whole, Inside}
use Rattle.zone_config.specs.Removal.{given, resource_at}
use Rattle.zonecfg_scopes.specs.Scopes.{is_in_place, is_placed, leaves, made, made_of_inside, made_of_nothing, made_of_whole, put_back, without_matching}
use Rattle.zonecfg_scopes.proofs.SameKind.{KeepsKind, with_property-kind, with_value-kind, without_property-kind, without_value-kind}

-- what is left open, if something is, is in its place
abbrev Lands : Result Open EditFault → Type 0
Lands (Ok o) = is_in_place o ≡ true
Lands (Err fault) = Unit {0}

lands_whole : (answer : Result Contents ConfigFault) → Lands (leaves Whole answer)
lands_whole (Ok c) = refl
lands_whole (Err fault) = tt

lands_of_nothing : (command : Command) → Lands (made_of_nothing command)
lands_of_nothing Blank = refl
lands_of_nothing Help = refl
lands_of_nothing (Exit force) = refl
lands_of_nothing (Create force bare) = refl
lands_of_nothing command = tt

unwrapped-kind : {A : Type 0} (mk : A → Resource) (none : Resource) (k : Kind) (o : Option A) → ((a : A) → kind_of (mk a) ≡ k) → kind_of none ≡ k → kind_of (unwrap_or (option_map mk o) none) ≡ k
unwrapped-kind mk none k None h n = n
unwrapped-kind mk none k (Some a) h n = h a

resource_at-kind : (k : Kind) (place : ℕ) (c : Contents) → kind_of (resource_at k place c) ≡ k
resource_at-kind k place c =
    each_kind (λ k. kind_of (resource_at k place c) ≡ k)
    (λ A row law. ap kind_of (resource_at-row row law c place) ∙ unwrapped-kind row.make (empty row.kind) row.kind (slice_get (row.list c) place) law.known.kind law.known.nothing) k

place_or-inside : (n : ℕ) (o : Option ℕ) (place bound : ℕ) → place_or n o ≡ Ok place → ((at : ℕ) → o ≡ Some at → at < bound) → place < bound
place_or-inside n None place bound e h = absurd (cc)
place_or-inside n (Some at) place bound e h =
    elim (nat_lt 1 n) as (λ b. cond b (Err (SeveralMatch n)) (Ok at) ≡ Ok place → place < bound) [
      | true ↦ λ f. absurd (cc)
      | false ↦ λ f. (let same : at ≡ place = cc in subst (λ (p : ℕ). p < bound) same (h at refl))
    ] e

only_place-inside : {A : Type 0} (test : A → Bool) (xs : List A) (place : ℕ) → only_place test xs ≡ Ok place → place < length xs
unfolding only_place
only_place-inside test [] place e = absurd (cc)
only_place-inside test (x ∷ xs) place e =
    place_or-inside (count_by test (x ∷ xs)) (position test (x ∷ xs)) place (length (x ∷ xs)) e (λ at h. (position-Some test (x ∷ xs) at x h).0)

found-inside : (k : Kind) (wanted : List Pair) (c : Contents) (place : ℕ) → found k wanted c ≡ Ok place → place < count_of k c
found-inside k wanted c place =
    each_kind (λ k. found k wanted c ≡ Ok place → place < count_of k c)
    (λ A row law e. rw (count_of-row row law c) (only_place-inside (λ x. has_all row.kind wanted (row.shown x)) (row.list c) place (sym (found-row row law c wanted) ∙ e))) k

test_less : (m n : ℕ) → m < n → nat_lt m n ≡ true
test_less m n h = grind (arith, nat_tests)

abbrev opens : Contents → ResourceScope → Open
opens c s = Inside c s.resource s.place

abbrev picks : Contents → Matching → ℕ → ResourceScope
picks c m place = record { resource = resource_at m.kind place c; place = Some place }

lands_selected : (c : Contents) (m : Matching) (answer : Result ℕ ConfigFault) → found m.kind m.pairs c ≡ answer → Lands (leaves (opens c) (given (picks c m) answer))
lands_selected c m (Ok place) e =
    ap (λ k. nat_lt place (count_of k c)) (resource_at-kind m.kind place c) ∙ test_less place (count_of m.kind c) (found-inside m.kind m.pairs c place e)
lands_selected c m (Err fault) e = tt

lands_of_whole : (c : Contents) (command : Command) → Lands (made_of_whole c command)
lands_of_whole c (Create true bare) = refl
lands_of_whole c (Create false bare) = tt
lands_of_whole c (Delete true) = refl
lands_of_whole c (Delete false) = tt
lands_of_whole c (Revert true) = refl
lands_of_whole c (Revert false) = tt
lands_of_whole c (Set name v) = lands_whole (with_property name v c)
lands_of_whole c (Clear name) = lands_whole (without_property name c)
lands_of_whole c (Remove force m) = lands_whole (without_matching force m c)
lands_of_whole c (Add k) = refl
lands_of_whole c (Select m) = lands_selected c m (found m.kind m.pairs c) refl
lands_of_whole c (Append list v) = tt
lands_of_whole c (RemoveItem list v) = tt
lands_of_whole c End = tt
lands_of_whole c Cancel = tt
lands_of_whole c command = refl

lands_inside : (c : Contents) (r : Resource) (at : Option ℕ) (answer : Result Resource ConfigFault) → is_placed at r c ≡ true → KeepsKind r answer → Lands (leaves (λ s. Inside c s at) answer)
lands_inside c r at (Err fault) h k = tt
lands_inside c r None (Ok s) h k = refl
lands_inside c r (Some place) (Ok s) h k = ap (λ q. nat_lt place (count_of q c)) k ∙ h

lands_of_inside : (c : Contents) (r : Resource) (at : Option ℕ) (command : Command) → is_placed at r c ≡ true → Lands (made_of_inside c r at command)
lands_of_inside c r at (Set name v) h = lands_inside c r at (edits.with_property name v r) h (with_property-kind name v r)
lands_of_inside c r at (Clear name) h = lands_inside c r at (edits.without_property name r) h (without_property-kind name r)
lands_of_inside c r at (Append list v) h = lands_inside c r at (edits.with_value (list_name list) v r) h (with_value-kind (list_name list) v r)
lands_of_inside c r at (RemoveItem list v) h = lands_inside c r at (edits.without_value (list_name list) v r) h (without_value-kind (list_name list) v r)
lands_of_inside c r at End h = lands_whole (put_back at r c)
lands_of_inside c r at Cancel h = refl
lands_of_inside c r at Blank h = h
lands_of_inside c r at Help h = h
lands_of_inside c r at (Info Everything) h = h
lands_of_inside c r at (Exit true) h = h
lands_of_inside c r at command h = tt

lands : (command : Command) (o : Open) → is_in_place o ≡ true → Lands (made command o)
unfolding made
lands command Nothing h = lands_of_nothing command
lands command (Whole c) h = lands_of_whole c command
lands command (Inside c r at) h = lands_of_inside c r at command h

-- what is open is in its place after each subcommand
pub follows_in_place : (command : Command) (old new : Open) (result : Result (Unit {0}) EditFault) → Follows command old new result → is_in_place old ≡ true → is_in_place new ≡ true
follows_in_place command old new (Ok x) f h = subst Lands f (lands command old h)
follows_in_place command old new (Err Memory) f h = ap is_in_place f ∙ h
follows_in_place command old new (Err fault) f h = ap is_in_place f.1 ∙ h
