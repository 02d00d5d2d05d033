-- The tests of `Same` say what is one.
use Rattle.std.proofs.Common.{◌≡◌, Bool, true, ap}
use Rattle.std.specs.Bool.{Decides}
use Rattle.std.specs.Cmp.{booleans_Decides}
use Rattle.std.specs.Cmp.Lexicographic.{pointwise}
use Rattle.std.proofs.lemmas.Bool.Decides.{Decides-and, Decides-like}
use Rattle.std.proofs.lemmas.Slice.Eq.{bytes_eq-Decides}
use Rattle.config_terms.specs.contracts.terms.IpType.{the_type as ip_type}
use Rattle.config_terms.specs.declared.terms.Kind.TheVariants as kind
use Rattle.config_terms.specs.Fields.{kinds}
use Rattle.zone_config.specs.declared.terms.Contents.{Contents}
use Rattle.zone_config.specs.Kinds.{Row}
use Rattle.zone_config.specs.Same.{same_contents, same_ip, same_of_kind, same_resources, same_settings}
use Rattle.zone_config.proofs.Lists.{all-each}
use Rattle.zone_config.proofs.Rows.{IsLawful, all_kinds, all_of_kinds, each_kind}
use Rattle.zone_config.proofs.SameEntries.{Tells, items, path-Decides}
use Rattle.zone_config.proofs.SameResources.{HaveSameResources}
use denote.Enum.Bare.{same_true, true_same}

ip-Decides : Tells same_ip
ip-Decides a b = (same_true ip_type tt a b, true_same ip_type a b)

-- the properties of the global scope are one
record SameSettings (a b : Contents) : Type 0 where
  zonepath : a.zonepath ≡ b.zonepath
  brand : a.brand ≡ b.brand
  autoboot : a.autoboot ≡ b.autoboot
  bootargs : a.bootargs ≡ b.bootargs
  pool : a.pool ≡ b.pool
  limitpriv : a.limitpriv ≡ b.limitpriv
  class : a.class ≡ b.class
  ip : a.ip ≡ b.ip
  hostid : a.hostid ≡ b.hostid
  fs_allowed : a.fs_allowed ≡ b.fs_allowed

settings-Decides : (a b : Contents) → Decides (same_settings a b) (SameSettings a b)
settings-Decides a b =
    Decides-like _
    (λ h. record {
      zonepath = h.0.0.0.0.0.0.0.0.0;
      brand = h.0.0.0.0.0.0.0.0.1;
      autoboot = h.0.0.0.0.0.0.0.1;
      bootargs = h.0.0.0.0.0.0.1;
      pool = h.0.0.0.0.0.1;
      limitpriv = h.0.0.0.0.1;
      class = h.0.0.0.1;
      ip = h.0.0.1;
      hostid = h.0.1;
      fs_allowed = h.1;
    })
    (λ s. (((((((((s.zonepath, s.brand), s.autoboot), s.bootargs), s.pool), s.limitpriv), s.class), s.ip), s.hostid), s.fs_allowed))
    (Decides-and _ _ (Decides-and _ _ (Decides-and _ _ (Decides-and _ _ (Decides-and _ _ (Decides-and _ _ (Decides-and _ _ (Decides-and _ _ (Decides-and _ _
    (path-Decides a.zonepath b.zonepath)
    (bytes_eq-Decides a.brand b.brand))
    (booleans_Decides a.autoboot b.autoboot))
    (bytes_eq-Decides a.bootargs b.bootargs))
    (bytes_eq-Decides a.pool b.pool))
    (bytes_eq-Decides a.limitpriv b.limitpriv))
    (bytes_eq-Decides a.class b.class))
    (ip-Decides a.ip b.ip))
    (bytes_eq-Decides a.hostid b.hostid))
    (bytes_eq-Decides a.fs_allowed b.fs_allowed))

-- the resources are one
module _ (a b : Contents) where
  row-Decides : (A : Type 0) (row : Row A) → IsLawful row → Decides (same_of_kind a b row.kind) (row.list a ≡ row.list b)
  row-Decides A row law =
      rw (law.known.of_kind Bool (λ B other. pointwise other.same (other.list a) (other.list b))) (items row.same law.known.tells (row.list a) (row.list b))

  resources-Decides : Decides (same_resources a b) (HaveSameResources b a)
  resources-Decides = (
    λ h. all_kinds (λ A row. row.list a ≡ row.list b) (λ A row law. (row-Decides A row law).0 (all_of_kinds (same_of_kind a b) h row.kind)),
    λ same. all-each (same_of_kind a b) kinds
        (each_kind (λ k. same_of_kind a b k ≡ true) (λ A row law. (row-Decides A row law).1 (law.known.says (λ B other. other.list a ≡ other.list b) (same row.kind)))),
  )

joined : (a b : Contents) → SameSettings a b → HaveSameResources b a → a ≡ b
joined a b s r i = record {
  zonepath = s.zonepath i;
  brand = s.brand i;
  autoboot = s.autoboot i;
  bootargs = s.bootargs i;
  pool = s.pool i;
  limitpriv = s.limitpriv i;
  class = s.class i;
  ip = s.ip i;
  hostid = s.hostid i;
  fs_allowed = s.fs_allowed i;
  fs = r kind.Fs i;
  net = r kind.Net i;
  device = r kind.Device i;
  rctl = r kind.Rctl i;
  attr = r kind.Attr i;
  dataset = r kind.Dataset i;
}

settings_of : (a b : Contents) → a ≡ b → SameSettings a b
settings_of a b e = record {
  zonepath = ap (λ (c : Contents). c.zonepath) e;
  brand = ap (λ (c : Contents). c.brand) e;
  autoboot = ap (λ (c : Contents). c.autoboot) e;
  bootargs = ap (λ (c : Contents). c.bootargs) e;
  pool = ap (λ (c : Contents). c.pool) e;
  limitpriv = ap (λ (c : Contents). c.limitpriv) e;
  class = ap (λ (c : Contents). c.class) e;
  ip = ap (λ (c : Contents). c.ip) e;
  hostid = ap (λ (c : Contents). c.hostid) e;
  fs_allowed = ap (λ (c : Contents). c.fs_allowed) e;
}

pub contents-Decides : Tells same_contents
unfolding same_contents
contents-Decides a b =
    Decides-like _ (λ h. joined a b h.0 h.1) (λ e. (settings_of a b e, all_kinds (λ A row. row.list a ≡ row.list b) (λ A row law. ap row.list e))) (Decides-and _ _ (settings-Decides a b) (resources-Decides a b))
