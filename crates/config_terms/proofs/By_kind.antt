-- What is known of the resources of each kind, in one clause a kind, and what follows for all of them.
use Rattle.std.proofs.Common.{◌≡◌, ◌⊎◌, inl, inr, ◌+◌, ℕ, zero, suc, true, List, [], ◌∷◌, Some, IsTrue, refl, ap, subst, arith}
use Rattle.std.specs.Prelude.{slice_get, slice_set}
use Rattle.std.proofs.lemmas.Bool.Decides.{nat_tests}
use Rattle.config_terms.specs.declared.fields.Field.{Field}
use Rattle.config_terms.specs.declared.fields.Field.TheVariants.{FsDir, FsSpecial, FsRaw, FsType, NetAddress, NetAllowed, NetPhysical, NetDefrouter, DeviceMatch, RctlName, AttrName, AttrType, AttrValue, DatasetName}
use Rattle.config_terms.specs.declared.terms.Kind.{Kind}
use Rattle.config_terms.specs.declared.terms.Kind.TheVariants as kind
use Rattle.config_terms.specs.declared.terms.Resource.{Resource}
use Rattle.config_terms.specs.declared.terms.Resource.TheVariants.{Fs, Net, Device, Rctl, Attr, Dataset}
use Rattle.config_terms.specs.Rules.{fits}
use Rattle.config_terms.specs.Fields.{fields_of, kind_of, path_text, resource_options, resource_values}
use Rattle.config_terms.specs.Allowed.{entry_allowed, fields_fit, is_allowed, is_kept_path, is_whole}
use Rattle.config_terms.specs.Edits.{empty, kept_path, with_field}
use Rattle.config_terms.specs.Settable.{shown_texts}

shown_path : (t : List ℕ) → path_text (kept_path t) ≡ t
shown_path [] = refl
shown_path (b ∷ t) = refl

kept_path_kept : (t : List ℕ) → is_kept_path (kept_path t) ≡ true
kept_path_kept [] = refl
kept_path_kept (b ∷ t) = grind (arith, nat_tests)

pub empty_allowed : (k : Kind) → IsTrue (is_allowed (empty k))
unfolding fits fields_fit entry_allowed
empty_allowed kind.Fs = refl
empty_allowed kind.Net = refl
empty_allowed kind.Device = refl
empty_allowed kind.Rctl = refl
empty_allowed kind.Attr = refl
empty_allowed kind.Dataset = refl

-- a property stands in the table of a resource's kind, or putting it changes nothing
pub placed : (r : Resource) (f : Field) → ((place : ℕ) × (slice_get (fields_of (kind_of r)) place ≡ Some f)) ⊎ ((text : List ℕ) → with_field f text r ≡ r)
placed (Fs x) FsDir = inl (0, refl)
placed (Fs x) FsSpecial = inl (1, refl)
placed (Fs x) FsRaw = inl (2, refl)
placed (Fs x) FsType = inl (3, refl)
placed (Fs x) f = inr (λ text. refl)
placed (Net x) NetAddress = inl (0, refl)
placed (Net x) NetAllowed = inl (1, refl)
placed (Net x) NetPhysical = inl (2, refl)
placed (Net x) NetDefrouter = inl (3, refl)
placed (Net x) f = inr (λ text. refl)
placed (Device x) DeviceMatch = inl (0, refl)
placed (Device x) f = inr (λ text. refl)
placed (Rctl x) RctlName = inl (0, refl)
placed (Rctl x) f = inr (λ text. refl)
placed (Attr x) AttrName = inl (0, refl)
placed (Attr x) AttrType = inl (1, refl)
placed (Attr x) AttrValue = inl (2, refl)
placed (Attr x) f = inr (λ text. refl)
placed (Dataset x) DatasetName = inl (0, refl)
placed (Dataset x) f = inr (λ text. refl)

-- a text that is put shows in its place of the table, and everything else is as it was
abbrev pub PutsAt : Resource → List ℕ → ℕ → Field → Type 0
PutsAt r text place f =
    (kind_of (with_field f text r) ≡ kind_of r) × (shown_texts (with_field f text r) ≡ slice_set (shown_texts r) place text)
    × (resource_options (with_field f text r) ≡ resource_options r) × (resource_values (with_field f text r) ≡ resource_values r)
    × (is_whole r ≡ true → is_whole (with_field f text r) ≡ true)

-- the same of each of some properties, of which the first stands at a place
abbrev pub EachPuts : Resource → List ℕ → ℕ → List Field → Type 0
EachPuts r text place [] = Unit {0}
EachPuts r text place (f ∷ fs) = (PutsAt r text place f) × (EachPuts r text (suc place) fs)

each_puts : (r : Resource) (text : List ℕ) → EachPuts r text 0 (fields_of (kind_of r))
each_puts (Fs x) text = (
  (refl, ap (λ t. t ∷ x.special ∷ x.raw ∷ x.fstype ∷ []) (shown_path text), refl, refl, λ h. kept_path_kept text),
  ((refl, refl, refl, refl, λ h. h), ((refl, refl, refl, refl, λ h. h), ((refl, refl, refl, refl, λ h. h), tt))),
)
each_puts (Net x) text =
    ((refl, refl, refl, refl, λ h. h), ((refl, refl, refl, refl, λ h. h), ((refl, refl, refl, refl, λ h. h), ((refl, refl, refl, refl, λ h. h), tt))))
each_puts (Device x) text = ((refl, refl, refl, refl, λ h. h), tt)
each_puts (Rctl x) text = ((refl, refl, refl, refl, λ h. h), tt)
each_puts (Attr x) text = ((refl, refl, refl, refl, λ h. h), ((refl, refl, refl, refl, λ h. h), ((refl, refl, refl, refl, λ h. h), tt)))
each_puts (Dataset x) text = ((refl, refl, refl, refl, λ h. h), tt)

puts_from : (r : Resource) (text : List ℕ) (fs : List Field) (start i place : ℕ) (f : Field) → EachPuts r text start fs → slice_get fs i ≡ Some f
    → place ≡ start + i → PutsAt r text place f
puts_from r text [] start i place f all at e = absurd (cc)
puts_from r text (g ∷ fs) start zero place f all at e =
    let here : start ≡ place = omega (arith, e) in
    let same : g ≡ f = cc in
    subst (λ p. PutsAt r text p f) here (subst (λ h. PutsAt r text start h) same all.0)
puts_from r text (g ∷ fs) start (suc i) place f all at e = puts_from r text fs (suc start) i place f all.1 at (omega (arith, e))

-- what putting the property at a place of the table does
pub puts_at : (r : Resource) (text : List ℕ) (place : ℕ) (f : Field) → slice_get (fields_of (kind_of r)) place ≡ Some f → PutsAt r text place f
puts_at r text place f at = puts_from r text (fields_of (kind_of r)) 0 place place f (each_puts r text) at (omega arith)
