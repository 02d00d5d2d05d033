-- The tests of `SameEntries` tell what is one.
use Rattle.std.proofs.Common.{◌≡◌, Bool, true, Option, Some, None, refl, ap}
use Rattle.std.specs.Bool.{Decides}
use Rattle.std.specs.Cmp.{booleans_Decides}
use Rattle.std.specs.Cmp.Lexicographic.{pointwise}
use Rattle.std.specs.Option.{option_eq}
use Rattle.std.specs.Str.{bytes_eq}
use Rattle.std.proofs.lemmas.Bool.{false≢true}
use Rattle.std.proofs.lemmas.Bool.Decides.{Decides-and, Decides-eqb, Decides-like}
use Rattle.std.proofs.lemmas.Slice.Eq.{bytes_eq-Decides, slice_eq-Decides}
use Rattle.config_terms.specs.declared.terms.Attr.{Attr}
use Rattle.config_terms.specs.declared.terms.Fs.{Fs}
use Rattle.config_terms.specs.declared.terms.Limit.{Limit}
use Rattle.config_terms.specs.declared.terms.Net.{Net}
use Rattle.config_terms.specs.declared.terms.Rctl.{Rctl}
use Rattle.config_terms.specs.Edits.{same_limit}
use Rattle.zone_config.specs.SameEntries.{same_attr, same_fs, same_net, same_rctl}

-- a test of equality
abbrev pub Tells : {A : Type 0} → (A → A → Bool) → Type 0
Tells {A} same = (a b : A) → Decides (same a b) (a ≡ b)

pub items : {A : Type 0} (same : A → A → Bool) → Tells same → Tells (pointwise same)
items same tells xs ys = slice_eq-Decides tells xs ys (pointwise same xs ys) refl

option-true : {A : Type 0} (same : A → A → Bool) → Tells same → (a b : Option A) → option_eq same a b ≡ true → a ≡ b
option-true same tells None None h = refl
option-true same tells (Some a) (Some b) h = ap Some ((tells a b).0 h)
option-true same tells None (Some b) h = absurd (false≢true h)
option-true same tells (Some a) None h = absurd (false≢true h)

option-self : {A : Type 0} (same : A → A → Bool) → Tells same → (a : Option A) → option_eq same a a ≡ true
option-self same tells None = refl
option-self same tells (Some a) = (tells a a).1 refl

pub option-Decides : {A : Type 0} (same : A → A → Bool) → Tells same → Tells (option_eq same)
option-Decides same tells a b = (option-true same tells a b, λ e. rw (← e) (option-self same tells a))

pub path-Decides : Tells (option_eq bytes_eq)
path-Decides = option-Decides bytes_eq bytes_eq-Decides

texts-Decides : Tells (pointwise bytes_eq)
texts-Decides = items bytes_eq bytes_eq-Decides

pub fs-Decides : Tells same_fs
fs-Decides a b =
    Decides-like _
    (λ h i. record { dir = h.0.0.0.0 i; special = h.0.0.0.1 i; raw = h.0.0.1 i; fstype = h.0.1 i; options = h.1 i })
    (λ e. ((((ap (λ (f : Fs). f.dir) e, ap (λ (f : Fs). f.special) e), ap (λ (f : Fs). f.raw) e), ap (λ (f : Fs). f.fstype) e), ap (λ (f : Fs). f.options) e))
    (Decides-and _ _ (Decides-and _ _ (Decides-and _ _ (Decides-and _ _ (path-Decides a.dir b.dir) (bytes_eq-Decides a.special b.special)) (bytes_eq-Decides a.raw b.raw)) (bytes_eq-Decides a.fstype b.fstype)) (texts-Decides a.options b.options))

pub net-Decides : Tells same_net
net-Decides a b =
    Decides-like _
    (λ h i. record { address = h.0.0.0 i; allowed = h.0.0.1 i; physical = h.0.1 i; defrouter = h.1 i })
    (λ e. (((ap (λ (n : Net). n.address) e, ap (λ (n : Net). n.allowed) e), ap (λ (n : Net). n.physical) e), ap (λ (n : Net). n.defrouter) e))
    (Decides-and _ _ (Decides-and _ _ (Decides-and _ _ (bytes_eq-Decides a.address b.address) (bytes_eq-Decides a.allowed b.allowed)) (bytes_eq-Decides a.physical b.physical)) (bytes_eq-Decides a.defrouter b.defrouter))

limit-Decides : Tells same_limit
limit-Decides a b =
    Decides-like _ (λ h i. record { limit = h.0 i; deny = h.1 i }) (λ e. (ap (λ (v : Limit). v.limit) e, ap (λ (v : Limit). v.deny) e))
    (Decides-and _ _ (Decides-eqb a.limit b.limit) (booleans_Decides a.deny b.deny))

pub rctl-Decides : Tells same_rctl
rctl-Decides a b =
    Decides-like _ (λ h i. record { name = h.0 i; values = h.1 i }) (λ e. (ap (λ (r : Rctl). r.name) e, ap (λ (r : Rctl). r.values) e))
    (Decides-and _ _ (bytes_eq-Decides a.name b.name) (items same_limit limit-Decides a.values b.values))

pub attr-Decides : Tells same_attr
attr-Decides a b =
    Decides-like _
    (λ h i. record { name = h.0.0 i; form = h.0.1 i; value = h.1 i })
    (λ e. ((ap (λ (t : Attr). t.name) e, ap (λ (t : Attr). t.form) e), ap (λ (t : Attr). t.value) e))
    (Decides-and _ _ (Decides-and _ _ (bytes_eq-Decides a.name b.name) (bytes_eq-Decides a.form b.form)) (bytes_eq-Decides a.value b.value))
