-- The properties of the global scope are walked.
use Rattle.std.proofs.Common.{◌≡◌, ◌≢◌, ◌≤◌, ℕ, Bool, true, false, List, [], ◌∷◌, ◌++◌, length, Option, Some, None, refl, ap, sym, ◌∙◌, arith, append_assoc, append-nil, length-append, codes}
use Rattle.std.specs.Prelude.{map, nat_lt}
use Rattle.std.specs.List.{flat_map}
use Rattle.std.proofs.lemmas.Bool.Decides.{nat_tests}
use Rattle.config_terms.specs.Edits.{kept_path}
use Rattle.config_terms.specs.Fields.{path_text}
use Rattle.config_terms.specs.Allowed.{are_distinct}
use Rattle.config_terms.specs.Rules.{fits, obeys}
use Rattle.config_terms.specs.Texts.{setting}
use Rattle.config_terms.specs.declared.terms.IpType.{IpType as Ip}
use Rattle.config_terms.specs.declared.terms.IpType.TheVariants.{Shared, Exclusive}
use Rattle.config_terms.specs.declared.terms.Kind.TheVariants as kind
use Rattle.zone_config.specs.Edits.{with_property}
use Rattle.zone_config.specs.Export.{export_text, property_line}
use Rattle.zone_config.specs.Property.{bool_text, ip_text, properties, property_name, property_rule, setting_named, shown, with_value}
use Rattle.zone_config.specs.Sound.{IsSound}
use Rattle.zone_config.specs.declared.terms.Contents.{Contents}
use Rattle.zone_config.specs.declared.terms.Property.{Property}
use Rattle.zone_config.specs.declared.terms.Property.TheVariants.{Zonepath, Brand, Autoboot, Bootargs, Pool, Limitpriv, SchedulingClass, IpType, Hostid, FsAllowed}
use Rattle.zone_config.specs.declared.terms.Setting.TheVariants.{Kept}
use Rattle.zone_config.proofs.PropertyEdits.{resources-with, shown_obeyed, shown-with}
use Rattle.zone_config.proofs.SameResources.{HaveSameResources, same-texts, same_resources-self, same_resources-then}
use Rattle.export_read.proofs.Printable.{fits-set}
use Rattle.export_read.proofs.Texts.{text-each, text-where_set, text_of}
use Rattle.export_read.specs.Commands.{property_commands}
use Rattle.export_read.specs.declared.command.Command.TheVariants.{Create, Set}
use Rattle.export_read.specs.Drafts.{closed, completed, least, put}
use Rattle.export_read.proofs.Tables.{IsBetween, IsStep, IsTable, Reaches, between_lines, between_short, one_more, walk_rows}
use Rattle.export_read.proofs.Walks.{Begins}

abbrev shows : Contents → Property → List ℕ
shows c p = shown p c

-- a configuration without resources, and with no empty path
pub record IsBare (s : Contents) : Type 0 where
  pub resources : HaveSameResources least s
  pub zonepath : s.zonepath ≢ Some []

-- its text has the lines of its properties alone
pub bare_text : (s : Contents) → IsBare s → export_text s ≡ codes "create -b\n" ++ flat_map (property_line s) properties
unfolding export_text
bare_text s bare =
    let lines = codes "create -b\n" ++ flat_map (property_line s) properties in
    ap (λ l. lines ++ l) (same-texts least s bare.resources) ∙ append-nil lines

-- the properties are no longer than the whole
within_whole : (c : Contents) → length (codes "create -b\n" ++ flat_map (property_line c) properties) ≤ length (export_text c)
unfolding export_text
within_whole c = simp length-append (omega arith)

-- what is always shown is shown in the beginning in the fewest bytes
flag_least : (a : Bool) → length (setting (codes "autoboot") (codes "true")) ≤ length (setting (codes "autoboot") (bool_text a))
unfolding setting
flag_least true = omega arith
flag_least false = omega arith

ip_least : (i : Ip) → length (setting (codes "ip-type") (codes "shared")) ≤ length (setting (codes "ip-type") (ip_text i))
unfolding setting
ip_least Shared = omega arith
ip_least Exclusive = omega arith

least_lines : (c : Contents) (p : Property) → length (setting (property_name p) (shown p least)) ≤ length (setting (property_name p) (shown p c))
unfolding setting
least_lines c Zonepath = omega arith
least_lines c Brand = omega arith
least_lines c Autoboot = flag_least c.autoboot
least_lines c Bootargs = omega arith
least_lines c Pool = omega arith
least_lines c Limitpriv = omega arith
least_lines c SchedulingClass = omega arith
least_lines c IpType = ip_least c.ip
least_lines c Hostid = omega arith
least_lines c FsAllowed = omega arith

no_flag : (a : Bool) → bool_text a ≡ [] → ⊥
no_flag true h = cc
no_flag false h = cc

no_ip : (i : Ip) → ip_text i ≡ [] → ⊥
no_ip Shared h = cc
no_ip Exclusive h = cc

unset_in_both : (c : Contents) (p : Property) → shown p c ≡ [] → shown p least ≡ []
unset_in_both c Zonepath h = refl
unset_in_both c Brand h = refl
unset_in_both c Autoboot h = absurd (no_flag c.autoboot h)
unset_in_both c Bootargs h = refl
unset_in_both c Pool h = refl
unset_in_both c Limitpriv h = refl
unset_in_both c SchedulingClass h = refl
unset_in_both c IpType h = absurd (no_ip c.ip h)
unset_in_both c Hostid h = refl
unset_in_both c FsAllowed h = refl

named_kept : (p : Property) → setting_named (property_name p) ≡ Some (Kept p)
unfolding setting_named
named_kept Zonepath = refl
named_kept Brand = refl
named_kept Autoboot = refl
named_kept Bootargs = refl
named_kept Pool = refl
named_kept Limitpriv = refl
named_kept SchedulingClass = refl
named_kept IpType = refl
named_kept Hostid = refl
named_kept FsAllowed = refl

put_property : (p : Property) (v : List ℕ) (s : Contents) → obeys (property_rule p) v ≡ true → length (export_text (with_value p v s)) ≤ 32768
    → put (Set (property_name p) v) (closed s) ≡ Some (closed (with_value p v s))
unfolding with_property
put_property p v s allowed short =
    let fits : nat_lt 32768 (length (export_text (with_value p v s))) ≡ false = grind (arith, nat_tests) in
    rw (named_kept p, allowed, fits) refl

path_kept : (v : List ℕ) → kept_path v ≢ Some []
path_kept [] h = cc
path_kept (b ∷ v) h = cc

zonepath-with : (p : Property) (v : List ℕ) (s : Contents) → s.zonepath ≢ Some [] → (with_value p v s).zonepath ≢ Some []
zonepath-with Zonepath v s h = path_kept v
zonepath-with Brand v s h = h
zonepath-with Autoboot v s h = h
zonepath-with Bootargs v s h = h
zonepath-with Pool v s h = h
zonepath-with Limitpriv v s h = h
zonepath-with SchedulingClass v s h = h
zonepath-with IpType v s h = h
zonepath-with Hostid v s h = h
zonepath-with FsAllowed v s h = h

bare-with : (p : Property) (v : List ℕ) (s : Contents) → IsBare s → IsBare (with_value p v s)
bare-with p v s bare = record { resources = same_resources-then least s (with_value p v s) bare.resources (resources-with p v s); zonepath = zonepath-with p v s bare.zonepath }

module _ (c : Contents) (sound : IsSound c) where
  abbrev Between : List Property → List Property → Contents → Type 0
  Between done rest s = IsBetween shows least c done rest s

  short : (done rest : List Property) (s : Contents) → done ++ rest ≡ properties → Between done rest s → IsBare s → length (export_text s) ≤ 32768
  short done rest s e between bare =
      let lines = between_short property_name shows least c done rest properties s e between (least_lines c) in
      let here = ap length (bare_text s bare) ∙ length-append (codes "create -b\n") (flat_map (property_line s) properties) in
      let whole = within_whole c in
      let there = length-append (codes "create -b\n") (flat_map (property_line c) properties) in
      let bound = sound.short in
      omega (arith, lines, here, whole, there, bound)

  begins : (done rest : List Property) (s : Contents) → done ++ rest ≡ properties → Between done rest s → IsBare s → Begins (Create ∷ flat_map (property_commands c) done) (closed s)
  unfolding completed
  begins done rest s e between bare =
      let lines = between_lines property_name shows least c done rest properties s e between in
      let said : text_of (flat_map (property_commands c) done) ≡ flat_map (property_line c) done = text-each (property_commands c) (property_line c) (λ p. text-where_set _ _) done in (
        s,
        refl,
        (
          flat_map (property_line least) rest,
          bare_text s bare ∙ ap (λ l. codes "create -b\n" ++ l) lines ∙ sym (append_assoc (codes "create -b\n") (flat_map (property_line c) done) (flat_map (property_line least) rest))
              ∙ ap (λ l. (codes "create -b\n" ++ l) ++ flat_map (property_line least) rest) (sym said),
        ),
      )

  step : (done rest : List Property) (p : Property) (b : ℕ) (v : List ℕ) (s : Contents) → done ++ p ∷ rest ≡ properties → Between done (p ∷ rest) s → IsBare s → shown p c ≡ b ∷ v
      → IsStep property_name shows closed IsBare p (b ∷ v) s (with_value p (b ∷ v) s)
  step done rest p b v s e between bare is =
      let fit = sound.properties.values p in
      let allowed = fits-set (property_rule p) b v (ap (fits (property_rule p)) (sym is) ∙ fit) in
      let t = with_value p (b ∷ v) s in
      let own = shown_obeyed p (b ∷ v) s allowed in
      let others = λ (q : Property). shown-with p q (b ∷ v) s in
      let now = one_more property_name shows least c done rest p s t (ap (are_distinct property_name) e) between (own ∙ sym is) others in
      let bound = short (done ++ p ∷ []) rest t (append_assoc done (p ∷ []) rest ∙ e) now (bare-with p (b ∷ v) s bare) in
      record { is_put = put_property p (b ∷ v) s allowed bound; shows = own; others = others; kept = bare-with p (b ∷ v) s bare }

  table : IsTable property_name shows closed IsBare least c properties (Create ∷ [])
  table = record {
    distinct = refl;
    unset = unset_in_both c;
    next = with_value;
    step = step;
    begins = λ done rest p b v s e between bare is. begins (done ++ p ∷ []) rest s (append_assoc done (p ∷ []) rest ∙ e) between bare;
  }

  least_bare : IsBare least
  least_bare = record { resources = same_resources-self least; zonepath = λ h. cc }

  -- the properties of the scope, and what they make
  pub walk_properties : Reaches shows closed IsBare least c properties (Create ∷ []) least (flat_map (property_commands c) properties)
  walk_properties = walk_rows property_name shows closed IsBare least c properties (Create ∷ []) table [] properties least refl (record { given = refl; unset = refl }) least_bare

pub same_path : (p q : Option (List ℕ)) → path_text p ≡ path_text q → p ≢ Some [] → q ≢ Some [] → p ≡ q
same_path None None e h g = refl
same_path None (Some []) e h g = absurd (g refl)
same_path None (Some (b ∷ v)) e h g = absurd (cc)
same_path (Some []) q e h g = absurd (h refl)
same_path (Some (b ∷ v)) None e h g = absurd (cc)
same_path (Some (b ∷ v)) (Some w) e h g = ap (λ (t : List ℕ). Some t) e

same_flag : (a b : Bool) → bool_text a ≡ bool_text b → a ≡ b
same_flag true true e = refl
same_flag true false e = cc
same_flag false true e = cc
same_flag false false e = refl

same_ip : (i j : Ip) → ip_text i ≡ ip_text j → i ≡ j
same_ip Shared Shared e = refl
same_ip Shared Exclusive e = cc
same_ip Exclusive Shared e = cc
same_ip Exclusive Exclusive e = refl

-- a configuration's properties alone
abbrev pub without_resources : Contents → Contents
without_resources c = record c { fs = []; net = []; device = []; rctl = []; attr = []; dataset = [] }

-- a configuration without resources that shows what another shows has the properties of that one
pub same_properties : (c e : Contents) → c.zonepath ≢ Some [] → IsBare e → map (shows e) properties ≡ map (shows c) properties → e ≡ without_resources c
same_properties c e set bare h =
    let zonepath = same_path e.zonepath c.zonepath (cc) bare.zonepath set in
    let brand : e.brand ≡ c.brand = cc in
    let autoboot = same_flag e.autoboot c.autoboot (cc) in
    let bootargs : e.bootargs ≡ c.bootargs = cc in
    let pool : e.pool ≡ c.pool = cc in
    let limitpriv : e.limitpriv ≡ c.limitpriv = cc in
    let class : e.class ≡ c.class = cc in
    let ip = same_ip e.ip c.ip (cc) in
    let hostid : e.hostid ≡ c.hostid = cc in
    let fs_allowed : e.fs_allowed ≡ c.fs_allowed = cc in
    λ i. record {
      zonepath = zonepath i;
      brand = brand i;
      autoboot = autoboot i;
      bootargs = bootargs i;
      pool = pool i;
      limitpriv = limitpriv i;
      class = class i;
      ip = ip i;
      hostid = hostid i;
      fs_allowed = fs_allowed i;
      fs = bare.resources kind.Fs i;
      net = bare.resources kind.Net i;
      device = bare.resources kind.Device i;
      rctl = bare.resources kind.Rctl i;
      attr = bare.resources kind.Attr i;
      dataset = bare.resources kind.Dataset i;
    }
