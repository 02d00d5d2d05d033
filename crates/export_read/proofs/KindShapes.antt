-- What must be known of a kind, and of where its resources stand.
use Rattle.std.proofs.Common.{◌≡◌, ◌≤◌, ◌⊎◌, ℕ, Bool, true, false, ◌&&◌, List, [], ◌∷◌, ◌++◌, length, Some, None}
use Rattle.std.specs.Prelude.{map, nat_lt}
use Rattle.std.specs.List.{AllByRecursion, flat_map}
use Rattle.config_terms.specs.Allowed.{are_distinct, entry_allowed, has_key, is_allowed, is_taken}
use Rattle.config_terms.specs.Edits.{empty, with_field}
use Rattle.config_terms.specs.Fields.{field_name, field_rule, fields_of, key_field, kind_of}
use Rattle.config_terms.specs.declared.fields.Field.{Field}
use Rattle.config_terms.specs.declared.terms.Kind.{Kind}
use Rattle.config_terms.specs.declared.terms.Limit.{Limit}
use Rattle.config_terms.specs.declared.terms.Resource.{Resource}
use Rattle.export_read.proofs.Texts.{text_of}
use Rattle.export_read.specs.declared.command.Command.{Command}
use Rattle.zone_config.specs.Export.{export_text}
use Rattle.zone_config.specs.Resources.{added, has_taken, limit_passed}
use Rattle.zone_config.specs.declared.terms.Contents.{Contents}
use Rattle.export_read.specs.Drafts.{with_limit, with_options}
use Rattle.export_read.specs.Names.{is_used}
use Rattle.export_read.proofs.Fresh.{IsOfNames}

-- what must be known of a kind: how a resource of it stands among all, what it shows, and what setting a property does
pub record IsForm {A : Type 0} (k : Kind) (wrap : A → Resource) (shown : A → Field → List ℕ) (options : A → List (List ℕ)) (values : A → List Limit) (put_field : Field → List ℕ → A → A)
    (whole : A → Bool) (nothing : A) : Type 0 where
  pub kind : (a : A) → kind_of (wrap a) ≡ k
  pub judged : (a : A) → is_allowed (wrap a) ≡ (whole a && entry_allowed k (shown a) (options a) (values a))
  pub distinct : are_distinct field_name (fields_of k) ≡ true
  pub key_first : (f : Field) → key_field k ≡ Some f → (rest : List Field) × (fields_of k ≡ f ∷ rest)
  pub set : (f : Field) (v : List ℕ) (a : A) → with_field f v (wrap a) ≡ wrap (put_field f v a)
  pub own : AllByRecursion (λ f. (v : List ℕ) (a : A) → shown (put_field f v a) f ≡ v) (fields_of k)
  pub others : (f g : Field) (v : List ℕ) (a : A) → (g ≡ f) ⊎ (shown (put_field f v a) g ≡ shown a g)
  pub same_options : (f : Field) (v : List ℕ) (a : A) → options (put_field f v a) ≡ options a
  pub same_values : (f : Field) (v : List ℕ) (a : A) → values (put_field f v a) ≡ values a
  pub stays_whole : (f : Field) (v : List ℕ) (a : A) → whole a ≡ true → whole (put_field f v a) ≡ true
  pub key_named : (f : Field) → key_field k ≡ Some f → IsOfNames (field_rule f)
  pub puts_options : (o : List ℕ) (os : List (List ℕ)) (a x : A) → options x ≡ o ∷ os
      → (b : A) × (with_options (o ∷ os) (wrap a) ≡ Some (wrap b)) × (map (shown b) (fields_of k) ≡ map (shown a) (fields_of k)) × (options b ≡ o ∷ os) × (values b ≡ values a) × (whole b ≡ whole a)
  pub puts_value : (v : Limit) (front rest : List Limit) (a x : A) → values x ≡ front ++ v ∷ rest
      → (b : A) × (with_limit v (wrap a) ≡ Some (wrap b)) × (map (shown b) (fields_of k) ≡ map (shown a) (fields_of k)) × (options b ≡ options a) × (values b ≡ values a ++ v ∷ []) × (whole b ≡ whole a)
  pub is_nothing : wrap nothing ≡ empty k
  pub shows_nothing : (f : Field) → shown nothing f ≡ []
  pub no_options : options nothing ≡ []
  pub no_values : values nothing ≡ []
  pub whole_nothing : whole nothing ≡ true
  pub same : (a b : A) → whole a ≡ true → whole b ≡ true → map (shown a) (fields_of k) ≡ map (shown b) (fields_of k) → options a ≡ options b → values a ≡ values b → a ≡ b

-- where the resources of a kind stand in a configuration that is being read, and in the whole one
pub record IsPlace {A : Type 0} (k : Kind) (wrap : A → Resource) (shown : A → Field → List ℕ) (options : A → List (List ℕ)) (commands : A → List Command) (c : Contents)
    (now : List A → Contents) (front behind : List Command) (all : List A) : Type 0 where
  pub text : (xs : List A) → export_text (now xs) ≡ text_of (front ++ flat_map commands xs)
  pub whole : export_text c ≡ text_of (front ++ (flat_map commands all ++ behind))
  pub short : length (export_text c) ≤ 32768
  pub adds : (xs : List A) (a : A) → added (wrap a) (now xs) ≡ now (xs ++ a ∷ [])
  pub taken : (xs : List A) (a : A) → has_taken (wrap a) (now xs) ≡ is_taken shown k a xs
  pub used : (xs : List A) (f : Field) → key_field k ≡ Some f → is_used f (now xs) ≡ (λ n. has_key (λ a. shown a f) n xs)
  pub room : (pre post : List A) (x : A) → pre ++ x ∷ post ≡ all → length pre ≤ 256
  pub limit : (pre post : List A) (x y : A) → pre ++ x ∷ post ≡ all → nat_lt 32 (length (options y)) ≡ false → limit_passed (wrap y) (now pre) ≡ None
