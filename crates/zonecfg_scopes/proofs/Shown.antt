-- The line of `help`, and the lines of a whole configuration.
use Rattle.std.proofs.Common.{◌≡◌, ℕ, List, [], ◌∷◌, ◌++◌, codes, map, refl, ap, ◌∙◌, append_assoc}
use Rattle.std.specs.List.{flat_map}
use Rattle.config_terms.specs.Fields.{kinds}
use Rattle.zone_config.specs.declared.terms.Contents.{Contents}
use Rattle.zone_config.specs.Property.{properties}
use Rattle.zonecfg_scopes.specs.Info.{all_lines, help_line, kind_lines, named_line, property_line}

pub helped : help_line ≡ codes "add cancel clear commit create delete end exit export help info remove revert select set verify"
unfolding help_line
helped = refl

-- the name, the properties and the resources, one after another
pub all_put : (name : List ℕ) (c : Contents) (out named more new : List (List ℕ)) → named ≡ out ++ named_line (codes "zonename") name ∷ []
    → more ≡ named ++ map (property_line c) properties → new ≡ more ++ flat_map (kind_lines c) kinds → new ≡ out ++ all_lines name c
unfolding all_lines
all_put name c out named more new first second third =
    let line = named_line (codes "zonename") name in
    let lines = map (property_line c) properties in
    third ∙ ap (λ l. l ++ flat_map (kind_lines c) kinds) (second ∙ ap (λ l. l ++ lines) first)
    ∙ append_assoc (out ++ line ∷ []) lines (flat_map (kind_lines c) kinds) ∙ append_assoc out (line ∷ []) (lines ++ flat_map (kind_lines c) kinds)
