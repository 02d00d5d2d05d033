-- What adding, replacing, removing and finding a resource make of a configuration, or why they are refused.
use Rattle.std.specs.Prelude.{◌≡◌, ℕ, List, [], ◌∷◌, ◌++◌, length, Bool, not, nat_le, Option, Some, None, Result, Ok, Err, remove, slice_get, slice_set, option_map, if◌then◌else◌}
use Rattle.zn_base.specs.declared.values.Pair.{Pair}
use Rattle.config_terms.specs.declared.fault.ConfigFault.{ConfigFault}
use Rattle.config_terms.specs.declared.fault.ConfigFault.TheVariants.{BadValue, Duplicate, TooMany}
use Rattle.config_terms.specs.declared.terms.Kind.{Kind}
use Rattle.config_terms.specs.declared.terms.Resource.{Resource}
use Rattle.config_terms.specs.Allowed.{are_told_apart, is_allowed, is_taken, options_passed}
use Rattle.config_terms.specs.Matches.{has_all, only_place}
use Rattle.zone_config.specs.declared.limits.TheConstants.{RESOURCES_MAX}
use Rattle.zone_config.specs.declared.terms.Contents.{Contents}
use Rattle.zone_config.specs.Export.{export_text, sized}
use Rattle.zone_config.specs.Kinds.{by_kind, by_resource}
use Rattle.zone_config.specs.Sound.{count}

-- how many there are of a kind
abbrev pub count_of : Kind → Contents → ℕ
count_of k c = by_kind k (λ A row. length (row.list c))

-- a resource put last in its kind
abbrev pub added : Resource → Contents → Contents
added r c = by_resource r (λ A row x. row.put (row.list c ++ x ∷ []) c)

-- a resource put in the place of another of its kind
abbrev pub replaced : ℕ → Resource → Contents → Contents
replaced place r c = by_resource r (λ A row x. row.put (slice_set (row.list c) place x) c)

-- the resource of a kind at a place, and the configuration without it
abbrev pub removed : Kind → ℕ → Contents → Option (Resource × Contents)
removed k place c =
    by_kind k (λ A row. option_map (λ x. (row.make x, row.put (remove (row.list c) place) c)) (slice_get (row.list c) place))

-- whether another of its kind has the key of a resource
abbrev pub has_taken : Resource → Contents → Bool
has_taken r c = by_resource r (λ A row x. is_taken row.shown row.kind x (row.list c))

-- whether another of its kind but the one at a place has the key of a resource
abbrev pub has_taken_but : ℕ → Resource → Contents → Bool
has_taken_but place r c = by_resource r (λ A row x. is_taken row.shown row.kind x (remove (row.list c) place))

-- whether no two of a kind have one key, where the kind has a key
abbrev pub are_apart : Kind → Contents → Bool
are_apart k c = by_kind k (λ A row. are_told_apart row.shown row.kind (row.list c))

-- the bound that one more passes, where there is one, or else a further limit
abbrev pub most_passed : Option ℕ → ℕ → Option ℕ → Option ℕ
most_passed None n further = further
most_passed (Some most) n further = if nat_le most n then Some most else further

-- the limit of its kind that one more resource passes, if it passes one
abbrev pub kind_passed : Resource → Contents → Option ℕ
kind_passed r c = by_resource r (λ A row x. most_passed row.most (length (row.list c)) (options_passed r))

-- the first limit that one more resource passes, if it passes one
abbrev pub limit_passed : Resource → Contents → Option ℕ
limit_passed r c = if nat_le RESOURCES_MAX (count c) then Some RESOURCES_MAX else kind_passed r c

abbrev pub unless_passed : Option ℕ → Contents → Result Contents ConfigFault
unless_passed (Some limit) c = Err (TooMany limit)
unless_passed None c = sized c

-- the configuration with one more resource, or the refusal
unfoldable pub with_resource : Resource → Contents → Result Contents ConfigFault
with_resource r c =
    if not (is_allowed r) then Err BadValue
    else (if has_taken r c then Err Duplicate else unless_passed (limit_passed r c) (added r c))

-- the configuration with another resource at a place, or the refusal
unfoldable pub with_replaced : ℕ → Resource → Contents → Result Contents ConfigFault
with_replaced place r c =
    if not (is_allowed r) then Err BadValue
    else (if has_taken_but place r c then Err Duplicate else unless_passed (options_passed r) (replaced place r c))

-- the one place of a kind where each wanted pair matches; none is NoMatch, and several are SeveralMatch
abbrev pub found : Kind → List Pair → Contents → Result ℕ ConfigFault
found k wanted c = by_kind k (λ A row. only_place (λ x. has_all row.kind wanted (row.shown x)) (row.list c))

-- the text of the resource of a kind at a place
abbrev pub text_at : ℕ → Kind → Contents → Option (List ℕ)
text_at place k c = by_kind k (λ A row. option_map row.text (slice_get (row.list c) place))

-- how long a text is that is there
abbrev pub IsLengthOf : ℕ → Option (List ℕ) → Type 0
IsLengthOf n None = ⊥
IsLengthOf n (Some text) = n ≡ length text

-- how long the export text is of what an answer gives
abbrev pub length_of : Result Contents ConfigFault → Result ℕ ConfigFault
length_of (Ok c) = Ok (length (export_text c))
length_of (Err fault) = Err fault
