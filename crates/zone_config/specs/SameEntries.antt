-- Whether two resources of a kind are one, as tests that compute.
use Rattle.std.specs.Prelude.{Bool, ◌&&◌}
use Rattle.std.specs.Cmp.Lexicographic.{pointwise}
use Rattle.std.specs.Option.{option_eq}
use Rattle.std.specs.Str.{bytes_eq}
use Rattle.config_terms.specs.declared.terms.Attr.{Attr}
use Rattle.config_terms.specs.declared.terms.Fs.{Fs}
use Rattle.config_terms.specs.declared.terms.Net.{Net}
use Rattle.config_terms.specs.declared.terms.Rctl.{Rctl}
use Rattle.config_terms.specs.Edits.{same_limit}

abbrev pub same_fs : Fs → Fs → Bool
same_fs a b =
    option_eq bytes_eq a.dir b.dir && bytes_eq a.special b.special && bytes_eq a.raw b.raw && bytes_eq a.fstype b.fstype
    && pointwise bytes_eq a.options b.options

abbrev pub same_net : Net → Net → Bool
same_net a b =
    bytes_eq a.address b.address && bytes_eq a.allowed b.allowed && bytes_eq a.physical b.physical && bytes_eq a.defrouter b.defrouter

abbrev pub same_rctl : Rctl → Rctl → Bool
same_rctl a b = bytes_eq a.name b.name && pointwise same_limit a.values b.values

abbrev pub same_attr : Attr → Attr → Bool
same_attr a b = bytes_eq a.name b.name && bytes_eq a.form b.form && bytes_eq a.value b.value
