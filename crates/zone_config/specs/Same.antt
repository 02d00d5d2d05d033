-- Whether two configurations are one, as a test that computes.
use Rattle.std.specs.Prelude.{Bool, ◌&&◌}
use Rattle.std.specs.Cmp.Lexicographic.{pointwise}
use Rattle.std.specs.List.{list_all}
use Rattle.std.specs.Option.{option_eq}
use Rattle.std.specs.Str.{bytes_eq}
use Rattle.std.proofs.Math.Bool.{beq}
use Rattle.config_terms.specs.contracts.terms.IpType.{the_type as ip_type}
use Rattle.config_terms.specs.declared.terms.IpType.{IpType}
use Rattle.config_terms.specs.declared.terms.Kind.{Kind}
use Rattle.config_terms.specs.Fields.{kinds}
use Rattle.zone_config.specs.declared.terms.Contents.{Contents}
use Rattle.zone_config.specs.Kinds.{by_kind}
use denote.Enum.Bare.{sameb}

abbrev pub same_ip : IpType → IpType → Bool
same_ip a b = sameb ip_type a b

-- the properties of the global scope
abbrev pub same_settings : Contents → Contents → Bool
same_settings a b =
    option_eq bytes_eq a.zonepath b.zonepath && bytes_eq a.brand b.brand && beq a.autoboot b.autoboot && bytes_eq a.bootargs b.bootargs
    && bytes_eq a.pool b.pool && bytes_eq a.limitpriv b.limitpriv && bytes_eq a.class b.class && same_ip a.ip b.ip
    && bytes_eq a.hostid b.hostid && bytes_eq a.fs_allowed b.fs_allowed

-- the resources of a kind
abbrev pub same_of_kind : Contents → Contents → Kind → Bool
same_of_kind a b k = by_kind k (λ A row. pointwise row.same (row.list a) (row.list b))

abbrev pub same_resources : Contents → Contents → Bool
same_resources a b = list_all (same_of_kind a b) kinds

unfoldable pub same_contents : Contents → Contents → Bool
same_contents a b = same_settings a b && same_resources a b
