-- An export text is its script.
use Rattle.std.proofs.Common.{◌≡◌, ℕ, List, [], ◌∷◌, ◌++◌, refl, ap, sym, ◌∙◌, append_assoc, append-nil, codes}
use Rattle.std.specs.Prelude.{map}
use Rattle.std.specs.List.{flat_map}
use Rattle.std.proofs.lemmas.List.Concat.{flat_map-append}
use Rattle.config_terms.specs.Fields.{field_name, fields_of, kind_name, kinds}
use Rattle.config_terms.specs.Texts.{entry_text, limit_line, limit_lines, limit_text, options_line, options_text, setting, settings}
use Rattle.config_terms.specs.declared.fields.Field.{Field}
use Rattle.config_terms.specs.declared.terms.Kind.{Kind}
use Rattle.config_terms.specs.declared.terms.Limit.{Limit}
use Rattle.export_read.specs.Commands.{entry_commands, kind_commands, line_of, property_commands, resource_commands, script, where_any, where_set}
use Rattle.export_read.specs.declared.command.Command.{Command}
use Rattle.export_read.specs.declared.command.Command.TheVariants.{Value, End}
use Rattle.zone_config.proofs.Rows.{IsLawful, each_kind}
use Rattle.zone_config.specs.Export.{export_text, kind_text, property_line}
use Rattle.zone_config.specs.Kinds.{Row}
use Rattle.zone_config.specs.Property.{properties}
use Rattle.zone_config.specs.declared.terms.Contents.{Contents}

-- commands as a text: each has a line of its own
abbrev pub text_of : List Command → List ℕ
text_of commands = flat_map (λ x. line_of x ++ 10 ∷ []) commands

pub text-append : (xs ys : List Command) → text_of (xs ++ ys) ≡ text_of xs ++ text_of ys
text-append xs ys = flat_map-append (λ x. line_of x ++ 10 ∷ []) xs ys

-- what is printed for each of a list is the text of the commands for each
pub text-each : {A : Type 0} (commands : A → List Command) (text : A → List ℕ) → ((x : A) → text_of (commands x) ≡ text x) → (xs : List A) → text_of (flat_map commands xs) ≡ flat_map text xs
text-each commands text same [] = refl
text-each commands text same (x ∷ xs) =
    text-append (commands x) (flat_map commands xs) ∙ ap (λ l. l ++ text_of (flat_map commands xs)) (same x) ∙ ap (λ l. text x ++ l) (text-each commands text same xs)

pub text-where_set : (name value : List ℕ) → text_of (where_set name value) ≡ setting name value
unfolding setting
text-where_set name [] = refl
text-where_set name (b ∷ value) = simp (append_assoc, append-nil) refl

text-where_any : (options : List (List ℕ)) → text_of (where_any options) ≡ options_line options
unfolding options_line options_text
text-where_any [] = refl
text-where_any (o ∷ options) = simp (append_assoc, append-nil) refl

text-values : (values : List Limit) → text_of (map (λ v. Value v) values) ≡ limit_lines values
unfolding limit_lines limit_line limit_text
text-values [] = refl
text-values (v ∷ values) = simp (append_assoc, append-nil, text-values values) refl

-- commands one after another
text-both : (xs ys : List Command) (a b : List ℕ) → text_of xs ≡ a → text_of ys ≡ b → text_of (xs ++ ys) ≡ a ++ b
text-both xs ys a b e g = text-append xs ys ∙ ap (λ l. l ++ text_of ys) e ∙ ap (λ l. a ++ l) g

pub text-entry : (k : Kind) (shown : Field → List ℕ) (options : List (List ℕ)) (values : List Limit) → text_of (entry_commands k shown options values) ≡ entry_text k shown options values
unfolding entry_text settings
text-entry k shown options values =
    let body = text-both (flat_map (λ f. where_set (field_name f) (shown f)) (fields_of k)) (where_any options ++ (map (λ v. Value v) values ++ End ∷ [])) _ _
    (text-each (λ f. where_set (field_name f) (shown f)) (λ f. setting (field_name f) (shown f)) (λ f. text-where_set (field_name f) (shown f)) (fields_of k))
    (text-both (where_any options) (map (λ v. Value v) values ++ End ∷ []) _ _ (text-where_any options)
    (text-both (map (λ v. Value v) values) (End ∷ []) _ (codes "end\n") (text-values values) refl)) in
    ap (λ l. codes "add " ++ l) (append_assoc (kind_name k) (10 ∷ []) _ ∙ ap (λ l. kind_name k ++ 10 ∷ l) body)

text-row : (A : Type 0) (row : Row A) → IsLawful row → (c : Contents) → text_of (kind_commands c row.kind) ≡ kind_text c row.kind
text-row A row law c =
    ap text_of (law.known.of_kind (List Command) (λ B other. flat_map (λ x. resource_commands (other.make x)) (other.list c)))
    ∙ text-each (λ x. resource_commands (row.make x)) row.text (λ x. text-entry _ _ _ _ ∙ law.known.text x) (row.list c)
    ∙ sym (law.known.of_kind (List ℕ) (λ B other. flat_map other.text (other.list c)))

-- the text is the script's
pub text-script : (c : Contents) → text_of (script c) ≡ export_text c
unfolding script export_text
text-script c =
    ap (λ l. codes "create -b\n" ++ l)
    (text-both _ _ _ _ (text-each (property_commands c) (property_line c) (λ p. text-where_set _ _) properties)
    (text-each (kind_commands c) (kind_text c) (each_kind (λ k. text_of (kind_commands c k) ≡ kind_text c k) (λ A row law. text-row A row law c)) kinds))
    ∙ sym (append_assoc (codes "create -b\n") (flat_map (property_line c) properties) (flat_map (kind_text c) kinds))
