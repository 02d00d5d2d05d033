-- UUIDs of zones: version 5 of RFC 9562, section 5.5, by the zone's name and a record's number.
use Rattle.std.specs.Prelude.{ℕ, List, ◌∷◌, ◌++◌, take}
use Rattle.std.specs.Fmt.{decimal}
use Rattle.sha1.specs.Sha1.{sha1}
use Rattle.uuid.specs.Parts.{with_variant, with_version}
use Rattle.uuid.specs.Uuid.{namespace_dns}
use Rattle.uuid.specs.declared.Variant.TheVariants.{RFC4122}
use Rattle.uuid.specs.declared.Version.TheVariants.{Sha1}
use Rattle.zn_base.specs.Names.{Name}

-- the first sixteen bytes of the digest of a namespace and a name, with variant and version set
abbrev pub name_based : List ℕ → List ℕ → List ℕ
name_based namespace name = with_version (with_variant (take 16 (sha1 (namespace ++ name))) RFC4122) Sha1

-- what the UUID of a zone names: the zone, a colon and the record's number in decimal
abbrev pub uuid_name : Name → ℕ → List ℕ
uuid_name name serial = name ++ 58 ∷ decimal serial

-- the namespace is 6ba7b810-9dad-11d1-80b4-00c04fd430c8
unfoldable pub uuid_of : Name → ℕ → List ℕ
uuid_of name serial = name_based namespace_dns (uuid_name name serial)
