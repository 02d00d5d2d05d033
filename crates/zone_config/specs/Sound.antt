-- What is true of every configuration.
use Rattle.std.specs.Prelude.{◌≡◌, ◌≢◌, ◌≤◌, ℕ, List, [], length, nat_le, Bool, IsTrue, Option, Some, None}
use Rattle.std.specs.List.{list_all, sum_by}
use Rattle.config_terms.specs.declared.terms.Kind.{Kind}
use Rattle.config_terms.specs.declared.terms.Resource.{Resource}
use Rattle.config_terms.specs.Allowed.{are_told_apart, is_allowed}
use Rattle.config_terms.specs.Fields.{kinds, resource_options}
use Rattle.config_terms.specs.Rules.{fits}
use Rattle.zone_config.specs.declared.limits.TheConstants.{RESOURCES_MAX, TEXT_MAX}
use Rattle.zone_config.specs.declared.terms.Contents.{Contents}
use Rattle.zone_config.specs.declared.terms.Property.{Property}
use Rattle.zone_config.specs.Export.{export_text}
use Rattle.zone_config.specs.Kinds.{Row, by_kind}
use Rattle.zone_config.specs.Property.{property_rule, shown}

-- how many resources there are
unfoldable pub count : Contents → ℕ
count c = sum_by (λ k. by_kind k (λ A row. length (row.list c))) kinds

-- a number is within a bound, where there is one
abbrev pub IsWithin : Option ℕ → ℕ → Type 0
IsWithin None n = Unit {0}
IsWithin (Some most) n = n ≤ most

-- the options of a resource, which an fs alone may have, are at most 32
abbrev pub has_few_options : Resource → Bool
has_few_options r = nat_le (length (resource_options r)) 32

-- the resources of a kind: each has values that their rules allow and few options, no two have one key, and they are no
-- more than there may be
pub record AreSound {A : Type 0} (row : Row A) (xs : List A) : Type 0 where
  pub each : IsTrue (list_all (λ x. is_allowed (row.make x)) xs)
  pub few_options : IsTrue (list_all (λ x. has_few_options (row.make x)) xs)
  pub once : IsTrue (are_told_apart row.shown row.kind xs)
  pub few : IsWithin row.most (length xs)

-- the resources of each kind are sound, and all together they are at most 256
pub record HasSoundResources (c : Contents) : Type 0 where
  pub kinds : (k : Kind) → by_kind k (λ A row. AreSound row (row.list c))
  pub few : count c ≤ RESOURCES_MAX

-- each property is unset or has a value that its rule allows, and a zonepath that is set is not empty
pub record HasSoundProperties (c : Contents) : Type 0 where
  pub values : (p : Property) → IsTrue (fits (property_rule p) (shown p c))
  pub zonepath : c.zonepath ≢ Some []

-- properties and resources are sound, and the export text is short
pub record IsSound (c : Contents) : Type 0 where
  pub properties : HasSoundProperties c
  pub resources : HasSoundResources c
  pub short : length (export_text c) ≤ TEXT_MAX

-- a sound configuration, and how long its export text is
pub record IsKept (c : Contents) (size : ℕ) : Type 0 where
  pub measured : size ≡ length (export_text c)
  pub sound : IsSound c
