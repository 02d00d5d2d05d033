-- An edit of a resource keeps its kind.
use Rattle.std.proofs.Common.{◌≡◌, ℕ, true, false, cond, List, [], Option, Some, None, Result, Ok, Err, refl, sym, ◌∙◌}
use Rattle.zn_base.specs.declared.values.Value.{Value}
use Rattle.zn_base.specs.declared.values.Value.TheVariants.{Simple, Complex, List as Items}
use Rattle.config_terms.specs.declared.fault.ConfigFault.{ConfigFault}
use Rattle.config_terms.specs.declared.fault.ConfigFault.TheVariants.{BadValue}
use Rattle.config_terms.specs.declared.fields.Field.{Field}
use Rattle.config_terms.specs.declared.fields.Named.{Named}
use Rattle.config_terms.specs.declared.fields.Named.TheVariants.{One, Many}
use Rattle.config_terms.specs.declared.lists.ListEdit.{ListEdit}
use Rattle.config_terms.specs.declared.lists.ListEdit.TheVariants.{Put, Add, Remove}
use Rattle.config_terms.specs.declared.terms.Fs as fs
use Rattle.config_terms.specs.declared.terms.Rctl as rctl
use Rattle.config_terms.specs.declared.terms.Resource.{Resource}
use Rattle.config_terms.specs.declared.terms.Resource.TheVariants.{Fs, Rctl}
use Rattle.config_terms.specs.Edits.{and_then, cleared_in, edited_in, field_set, fs_edited, list_edited, put_in, rctl_edited, with_field, with_property, with_value, without_list, without_property, without_value}
use Rattle.config_terms.specs.Fields.{field_rule, kind_of, named}
use Rattle.config_terms.specs.Rules.{obeys}
use Rattle.zone_config.proofs.Rows.{each_resource}

-- an answer, if there is one, has the kind of a resource
abbrev pub KeepsKind : Resource → Result Resource ConfigFault → Type 0
KeepsKind r (Ok s) = kind_of s ≡ kind_of r
KeepsKind r (Err fault) = Unit {0}

with_field-kind : (field : Field) (text : List ℕ) (r : Resource) → kind_of (with_field field text r) ≡ kind_of r
with_field-kind field text r = each_resource (λ r. kind_of (with_field field text r) ≡ kind_of r) (λ A row law x. law.known.edited field text x ∙ sym (law.known.kind x)) r

without_list-kind : (r : Resource) → kind_of (without_list r) ≡ kind_of r
without_list-kind r = each_resource (λ r. kind_of (without_list r) ≡ kind_of r) (λ A row law x. law.known.unlisted x ∙ sym (law.known.kind x)) r

field_set-kind : (field : Field) (v : Value) (r : Resource) → KeepsKind r (field_set field v r)
field_set-kind field (Simple text) r =
    elim (obeys (field_rule field) text) as (λ b. KeepsKind r (cond b (Ok (with_field field text r)) (Err BadValue))) [ true ↦ with_field-kind field text r | false ↦ tt ]
field_set-kind field (Complex pairs) r = tt
field_set-kind field (Items texts) r = tt

fs_kept : (f : fs.Fs) (answer : Result fs.Fs ConfigFault) → KeepsKind (Fs f) (and_then answer (λ g. Ok (Fs g)))
fs_kept f (Ok g) = refl
fs_kept f (Err fault) = tt

rctl_kept : (r : rctl.Rctl) (answer : Result rctl.Rctl ConfigFault) → KeepsKind (Rctl r) (and_then answer (λ s. Ok (Rctl s)))
rctl_kept r (Ok s) = refl
rctl_kept r (Err fault) = tt

list_edited-kind : (edit : ListEdit) (v : Value) (r : Resource) → KeepsKind r (list_edited edit v r)
unfolding list_edited
list_edited-kind edit v (Fs f) = fs_kept f (fs_edited edit v f)
list_edited-kind edit v (Rctl r) = rctl_kept r (rctl_edited edit v r)
list_edited-kind edit v r = tt

put_in-kind : (o : Option Named) (v : Value) (r : Resource) → KeepsKind r (put_in o v r)
put_in-kind None v r = tt
put_in-kind (Some (One field)) v r = field_set-kind field v r
put_in-kind (Some Many) v r = list_edited-kind Put v r

cleared_in-kind : (o : Option Named) (r : Resource) → KeepsKind r (cleared_in o r)
cleared_in-kind None r = tt
cleared_in-kind (Some (One field)) r = with_field-kind field [] r
cleared_in-kind (Some Many) r = without_list-kind r

edited_in-kind : (o : Option Named) (edit : ListEdit) (v : Value) (r : Resource) → KeepsKind r (edited_in o edit v r)
edited_in-kind None edit v r = tt
edited_in-kind (Some (One field)) edit v r = tt
edited_in-kind (Some Many) edit v r = list_edited-kind edit v r

pub with_property-kind : (name : List ℕ) (v : Value) (r : Resource) → KeepsKind r (with_property name v r)
unfolding with_property
with_property-kind name v r = put_in-kind (named (kind_of r) name) v r

pub without_property-kind : (name : List ℕ) (r : Resource) → KeepsKind r (without_property name r)
unfolding without_property
without_property-kind name r = cleared_in-kind (named (kind_of r) name) r

pub with_value-kind : (name : List ℕ) (v : Value) (r : Resource) → KeepsKind r (with_value name v r)
unfolding with_value
with_value-kind name v r = edited_in-kind (named (kind_of r) name) Add v r

pub without_value-kind : (name : List ℕ) (v : Value) (r : Resource) → KeepsKind r (without_value name v r)
unfolding without_value
without_value-kind name v r = edited_in-kind (named (kind_of r) name) Remove v r
