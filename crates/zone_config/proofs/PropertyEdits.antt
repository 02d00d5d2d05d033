-- A configuration over a property that is given a value.
use Rattle.std.proofs.Common.{◌≡◌, ◌≢◌, ◌⊎◌, inl, inr, ◌≤◌, ◌+◌, ◌-◌, ℕ, Bool, true, false, cond, List, [], ◌∷◌, ◌||◌, length, Some, refl, ap, sym, subst, arith, length-append, codes, IsTrue}
use Rattle.std.specs.Prelude.{◌==◌}
use Rattle.std.specs.List.{flat_map}
use Rattle.std.specs.Str.{bytes_eq}
use Rattle.std.proofs.lemmas.Slice.Eq.{bytes_eq-Decides}
use Rattle.zn_base.specs.Path.{is_path}
use Rattle.config_terms.specs.declared.rules.Rule.{Rule}
use Rattle.config_terms.specs.declared.rules.Rule.TheVariants.{OwnPath, RootedPath}
use Rattle.config_terms.specs.declared.terms.Kind.{Kind}
use Rattle.config_terms.specs.declared.terms.Kind.TheVariants as kind
use Rattle.config_terms.specs.declared.terms.IpType.TheVariants.{Shared, Exclusive}
use Rattle.config_terms.specs.Edits.{kept_path}
use Rattle.config_terms.specs.Fields.{path_text}
use Rattle.config_terms.specs.Rules.{fits, obeys}
use Rattle.config_terms.specs.Texts.{setting}
use Rattle.zone_config.specs.declared.terms.Contents.{Contents}
use Rattle.zone_config.specs.declared.terms.Property.{Property}
use Rattle.zone_config.specs.declared.terms.Property.TheVariants.{Zonepath, Brand, Autoboot, Bootargs, Pool, Limitpriv, SchedulingClass, IpType, Hostid, FsAllowed}
use Rattle.zone_config.specs.Property.{blank, bool_text, ip_text, properties, property_name, property_rule, shown, unset_text, with_value}
use Rattle.zone_config.specs.Export.{export_text, property_line}
use Rattle.zone_config.specs.Kinds.{by_kind}
use Rattle.zone_config.specs.Sound.{AreSound, IsKept, count}
use Rattle.zone_config.proofs.Lists.{first_true}
use Rattle.zone_config.proofs.Rows.{export_text-length}
use Rattle.zone_config.proofs.SameResources.{HaveSameResources, same-texts, same_resources-apart, sound-same}

-- a path that a text is shows as that text
kept_path-shown : (v : List ℕ) → path_text (kept_path v) ≡ v
kept_path-shown [] = refl
kept_path-shown (b ∷ v) = refl

kept_path-set : (v : List ℕ) → kept_path v ≢ Some []
kept_path-set [] h = cc
kept_path-set (b ∷ v) h = cc

one_of_two : (a b : Bool) → (a || (b || false)) ≡ true → a ≡ false → b ≡ true
one_of_two true b h g = absurd (cc)
one_of_two false true h g = refl
one_of_two false false h g = absurd (cc)

-- a value that its rule allows shows as it was given
pub shown_obeyed : (p : Property) (v : List ℕ) (c : Contents) → obeys (property_rule p) v ≡ true → shown p (with_value p v c) ≡ v
unfolding obeys
shown_obeyed Zonepath v c h = kept_path-shown v
shown_obeyed Brand v c h = refl
shown_obeyed Autoboot v c h =
    elim (bytes_eq v (codes "true")) as (λ b. bytes_eq v (codes "true") ≡ b → bool_text b ≡ v) [
      | true ↦ λ e. sym ((bytes_eq-Decides v (codes "true")).0 e)
      | false ↦ λ e. sym ((bytes_eq-Decides v (codes "false")).0 (one_of_two _ _ h e))
    ] refl
shown_obeyed Bootargs v c h = refl
shown_obeyed Pool v c h = refl
shown_obeyed Limitpriv v c h = refl
shown_obeyed SchedulingClass v c h = refl
shown_obeyed IpType v c h =
    elim (bytes_eq v (codes "exclusive")) as (λ b. bytes_eq v (codes "exclusive") ≡ b → ip_text (cond b Exclusive Shared) ≡ v) [
      | true ↦ λ e. sym ((bytes_eq-Decides v (codes "exclusive")).0 e)
      | false ↦ λ e. sym ((bytes_eq-Decides v (codes "shared")).0 (first_of_two _ _ h e))
    ] refl
  where
    first_of_two : (a b : Bool) → (a || (b || false)) ≡ true → b ≡ false → a ≡ true
    first_of_two true b h g = refl
    first_of_two false true h g = absurd (cc)
    first_of_two false false h g = absurd (cc)
shown_obeyed Hostid v c h = refl
shown_obeyed FsAllowed v c h = refl

-- and so does the text of a property that is not set
pub shown_unset : (p : Property) (c : Contents) → shown p (with_value p (unset_text p) c) ≡ unset_text p
shown_unset Zonepath c = refl
shown_unset Brand c = refl
shown_unset Autoboot c = refl
shown_unset Bootargs c = refl
shown_unset Pool c = refl
shown_unset Limitpriv c = refl
shown_unset SchedulingClass c = refl
shown_unset IpType c = refl
shown_unset Hostid c = refl
shown_unset FsAllowed c = refl

pub fits_obeyed : (r : Rule) (v : List ℕ) → obeys r v ≡ true → IsTrue (fits r v)
unfolding fits
fits_obeyed r v h =
    elim (length v == 0) as (λ b. (b || obeys r v) ≡ true) [ true ↦ refl | false ↦ h ]

-- a path that a zone may have is one
own_path_fits : (v : List ℕ) → obeys OwnPath v ≡ true → IsTrue (fits RootedPath v)
unfolding obeys fits
own_path_fits v h =
    elim (length v == 0) as (λ b. (b || is_path v) ≡ true) [ true ↦ refl | false ↦ first_true (is_path v) _ h ]

pub own_path_given : (p : Property) (v : List ℕ) → p ≡ Zonepath → IsTrue (obeys (property_rule p) v) → IsTrue (fits RootedPath v)
own_path_given p v e h = own_path_fits v (subst (λ (q : Property). obeys (property_rule q) v ≡ true) e h)

pub fits_unset : (p : Property) → IsTrue (fits (property_rule p) (unset_text p))
unfolding fits obeys
fits_unset Zonepath = refl
fits_unset Brand = refl
fits_unset Autoboot = refl
fits_unset Bootargs = refl
fits_unset Pool = refl
fits_unset Limitpriv = refl
fits_unset SchedulingClass = refl
fits_unset IpType = refl
fits_unset Hostid = refl
fits_unset FsAllowed = refl

-- the lines of the properties, where one is given a value
lines-with : (p : Property) (v : List ℕ) (c : Contents)
    → length (flat_map (property_line (with_value p v c)) properties) + length (property_line c p)
    ≡ length (flat_map (property_line c) properties) + length (property_line (with_value p v c) p)
lines-with Zonepath v c = omega (arith, length-append {A = ℕ})
lines-with Brand v c = omega (arith, length-append {A = ℕ})
lines-with Autoboot v c = omega (arith, length-append {A = ℕ})
lines-with Bootargs v c = omega (arith, length-append {A = ℕ})
lines-with Pool v c = omega (arith, length-append {A = ℕ})
lines-with Limitpriv v c = omega (arith, length-append {A = ℕ})
lines-with SchedulingClass v c = omega (arith, length-append {A = ℕ})
lines-with IpType v c = omega (arith, length-append {A = ℕ})
lines-with Hostid v c = omega (arith, length-append {A = ℕ})
lines-with FsAllowed v c = omega (arith, length-append {A = ℕ})

line_within : (p : Property) (c : Contents) → length (property_line c p) ≤ length (flat_map (property_line c) properties)
line_within Zonepath c = omega (arith, length-append {A = ℕ})
line_within Brand c = omega (arith, length-append {A = ℕ})
line_within Autoboot c = omega (arith, length-append {A = ℕ})
line_within Bootargs c = omega (arith, length-append {A = ℕ})
line_within Pool c = omega (arith, length-append {A = ℕ})
line_within Limitpriv c = omega (arith, length-append {A = ℕ})
line_within SchedulingClass c = omega (arith, length-append {A = ℕ})
line_within IpType c = omega (arith, length-append {A = ℕ})
line_within Hostid c = omega (arith, length-append {A = ℕ})
line_within FsAllowed c = omega (arith, length-append {A = ℕ})

-- a property that is given a value shows it, and each other is as it was
pub shown-with : (p q : Property) (v : List ℕ) (c : Contents) → (q ≡ p) ⊎ (shown q (with_value p v c) ≡ shown q c)
shown-with Zonepath Zonepath v c = inl refl
shown-with Zonepath q v c = inr refl
shown-with Brand Brand v c = inl refl
shown-with Brand q v c = inr refl
shown-with Autoboot Autoboot v c = inl refl
shown-with Autoboot q v c = inr refl
shown-with Bootargs Bootargs v c = inl refl
shown-with Bootargs q v c = inr refl
shown-with Pool Pool v c = inl refl
shown-with Pool q v c = inr refl
shown-with Limitpriv Limitpriv v c = inl refl
shown-with Limitpriv q v c = inr refl
shown-with SchedulingClass SchedulingClass v c = inl refl
shown-with SchedulingClass q v c = inr refl
shown-with IpType IpType v c = inl refl
shown-with IpType q v c = inr refl
shown-with Hostid Hostid v c = inl refl
shown-with Hostid q v c = inr refl
shown-with FsAllowed FsAllowed v c = inl refl
shown-with FsAllowed q v c = inr refl

fits-with : (p : Property) (v : List ℕ) (c : Contents) → shown p (with_value p v c) ≡ v → IsTrue (fits (property_rule p) v)
    → ((q : Property) → IsTrue (fits (property_rule q) (shown q c))) → (q : Property) → IsTrue (fits (property_rule q) (shown q (with_value p v c)))
fits-with p v c e fit s q =
    elim (shown-with p q v c) [ inl same ↦ rw same (rw e fit) | inr as_before ↦ rw as_before (s q) ]

zonepath-with : (p : Property) (v : List ℕ) (c : Contents) → c.zonepath ≢ Some [] → (with_value p v c).zonepath ≢ Some []
zonepath-with Zonepath v c s = kept_path-set v
zonepath-with Brand v c s = s
zonepath-with Autoboot v c s = s
zonepath-with Bootargs v c s = s
zonepath-with Pool v c s = s
zonepath-with Limitpriv v c s = s
zonepath-with SchedulingClass v c s = s
zonepath-with IpType v c s = s
zonepath-with Hostid v c s = s
zonepath-with FsAllowed v c s = s

-- its resources are as they were
pub resources-with : (p : Property) (v : List ℕ) (c : Contents) → HaveSameResources c (with_value p v c)
resources-with Zonepath v c = same_resources-apart c (with_value Zonepath v c)
resources-with Brand v c = same_resources-apart c (with_value Brand v c)
resources-with Autoboot v c = same_resources-apart c (with_value Autoboot v c)
resources-with Bootargs v c = same_resources-apart c (with_value Bootargs v c)
resources-with Pool v c = same_resources-apart c (with_value Pool v c)
resources-with Limitpriv v c = same_resources-apart c (with_value Limitpriv v c)
resources-with SchedulingClass v c = same_resources-apart c (with_value SchedulingClass v c)
resources-with IpType v c = same_resources-apart c (with_value IpType v c)
resources-with Hostid v c = same_resources-apart c (with_value Hostid v c)
resources-with FsAllowed v c = same_resources-apart c (with_value FsAllowed v c)

-- the length of the line that goes, and of the text with the one that comes
pub record Measures (old line size text : ℕ) : Type 0 where
  pub within : old ≤ size
  pub now : size - old + line ≡ text

pub size_with : (p : Property) (v : List ℕ) (c : Contents) (size : ℕ) → IsKept c size → shown p (with_value p v c) ≡ v
    → Measures (length (setting (property_name p) (shown p c))) (length (setting (property_name p) v)) size (length (export_text (with_value p v c)))
size_with p v c size k e =
    let now = export_text-length (with_value p v c) in
    let then = export_text-length c in
    let lines = lines-with p v c in
    let shows = ap (λ t. length (setting (property_name p) t)) e in
    let texts = ap length (same-texts c (with_value p v c) (resources-with p v c)) in
    let within = line_within p c in
    record { within = omega (arith, k.measured); now = omega (arith, k.measured) }

pub kept_with : (p : Property) (v : List ℕ) (c : Contents) (size n : ℕ) → IsKept c size → shown p (with_value p v c) ≡ v → IsTrue (fits (property_rule p) v)
    → n ≡ length (export_text (with_value p v c)) → n ≤ 32768 → IsKept (with_value p v c) n
kept_with p v c size n k e fit measured short =
    let s = k.sound in
    record {
      measured = measured;
      sound = record {
        properties = record { values = fits-with p v c e fit s.properties.values; zonepath = zonepath-with p v c s.properties.zonepath };
        resources = sound-same c (with_value p v c) (resources-with p v c) s.resources;
        short = omega arith;
      };
    }

-- a configuration in which nothing is set is sound
blank-each : (k : Kind) → by_kind k (λ A row. AreSound row (row.list blank))
blank-each kind.Fs = record { each = refl; few_options = refl; once = refl; few = omega arith }
blank-each k = record { each = refl; few_options = refl; once = refl; few = tt }

pub blank_kept : IsKept blank 48
unfolding setting count export_text
blank_kept = record {
  measured = refl;
  sound = record {
    properties = record { values = fits_unset; zonepath = λ h. cc };
    resources = record { kinds = blank-each; few = omega arith };
    short = omega arith;
  };
}
