-- A shortest name that no resource of its kind has.
use Rattle.std.specs.Prelude.{ℕ, List, [], ◌∷◌, Bool, false, not, ◌&&◌, Some, None, find, codes, if◌then◌else◌}
use Rattle.config_terms.specs.Allowed.{has_key}
use Rattle.config_terms.specs.Fields.{attr_shown, rctl_shown, text_shown}
use Rattle.config_terms.specs.Rules.{fits}
use Rattle.config_terms.specs.declared.fields.Field.{Field}
use Rattle.config_terms.specs.declared.fields.Field.TheVariants.{DeviceMatch, RctlName, AttrName, DatasetName}
use Rattle.config_terms.specs.declared.rules.Rule.{Rule}
use Rattle.zone_config.specs.declared.terms.Contents.{Contents}

-- the bytes that print without quotes
abbrev pub bare_bytes : List ℕ
bare_bytes = codes "ABCDEFGHIJKLMNOPQRSTUVWXYZabcdefghijklmnopqrstuvwxyz0123456789_-./:,*?!@+%"

-- a name that a rule allows, or none at all, and that is not used
abbrev pub is_free : Rule → (List ℕ → Bool) → List ℕ → Bool
is_free rule used name = fits rule name && not (used name)

-- the first of two bytes that is free
abbrev pub pair_by : (List ℕ → Bool) → List ℕ → List ℕ
pair_by free [] = []
pair_by free (a ∷ firsts) = elim (find (λ b. free (a ∷ (b ∷ []))) bare_bytes) [ Some b ↦ a ∷ (b ∷ []) | None ↦ pair_by free firsts ]

-- no name, or the first of one byte, or the first of two, that is free
abbrev pub name_by : (List ℕ → Bool) → List ℕ
name_by free =
    if free [] then []
    else elim (find (λ b. free (b ∷ [])) bare_bytes) [ Some b ↦ b ∷ [] | None ↦ pair_by free (codes "abcd") ]

unfoldable pub fresh : Rule → (List ℕ → Bool) → List ℕ
fresh rule used = name_by (is_free rule used)

-- whether a resource shows a name in a property by which resources are told apart
abbrev pub is_used : Field → Contents → List ℕ → Bool
is_used DeviceMatch c name = has_key (λ m. text_shown m DeviceMatch) name c.device
is_used RctlName c name = has_key (λ r. rctl_shown r RctlName) name c.rctl
is_used AttrName c name = has_key (λ a. attr_shown a AttrName) name c.attr
is_used DatasetName c name = has_key (λ d. text_shown d DatasetName) name c.dataset
is_used field c name = false
