-- Which resource a match finds.
use Rattle.std.specs.Prelude.{ℕ, List, Bool, false, nat_lt, Option, Some, None, Result, Ok, Err, count_by, position, ◌&&◌, if◌then◌else◌}
use Rattle.std.specs.List.{list_all}
use Rattle.std.specs.Str.{bytes_eq}
use Rattle.zn_base.specs.declared.values.Pair.{Pair}
use Rattle.config_terms.specs.declared.fault.ConfigFault.{ConfigFault}
use Rattle.config_terms.specs.declared.fault.ConfigFault.TheVariants.{NoMatch, SeveralMatch}
use Rattle.config_terms.specs.declared.fields.Field.{Field}
use Rattle.config_terms.specs.declared.terms.Kind.{Kind}
use Rattle.config_terms.specs.Fields.{field_named}

-- whether a property shows a text; a name that the kind lacks matches nothing
abbrev pub is_text : (Field → List ℕ) → Option Field → List ℕ → Bool
is_text shown None text = false
is_text shown (Some f) text = bytes_eq (shown f) text

abbrev pub has_pair : Kind → (Field → List ℕ) → Pair → Bool
has_pair k shown wanted = is_text shown (field_named k wanted.name) wanted.value

-- whether each wanted pair is there
abbrev pub has_all : Kind → List Pair → (Field → List ℕ) → Bool
has_all k wanted shown = list_all (has_pair k shown) wanted

-- whether a property shows a text, and each other wanted pair is there
abbrev pub is_wanted : {A : Type 0} → (A → Field → List ℕ) → Kind → Option Field → List ℕ → List Pair → A → Bool
is_wanted shown k field text rest x = is_text (shown x) field text && has_all k rest (shown x)

abbrev pub place_or : ℕ → Option ℕ → Result ℕ ConfigFault
place_or n None = Err NoMatch
place_or n (Some place) = if nat_lt 1 n then Err (SeveralMatch n) else Ok place

-- the one place in a list where a test holds
unfoldable pub only_place : {A : Type 0} → (A → Bool) → List A → Result ℕ ConfigFault
only_place test xs = place_or (count_by test xs) (position test xs)
