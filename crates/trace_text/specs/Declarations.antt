-- What may be declared, and how it is written: links by dladm(8), addresses by ifconfig(8), datasets by zfs(8), and
-- devices by zonecfg(8).
use Rattle.std.specs.Prelude.{ℕ, List, ◌++◌, Bool, ◌||◌, codes}
use Rattle.zn_base.specs.Names.{is_name_byte}
use Rattle.zn_base.specs.Path.{is_path, is_slash}
use Rattle.config_verify.specs.Values.{is_plain_address}
use Rattle.datalink_table.specs.declared.claims.ClaimKind.TheVariants.{Address, Dataset, Link}
use Rattle.process_calls.specs.Calls.{is_run}
use Rattle.zone_cases.specs.declared.events.Declaration.{Declaration}
use Rattle.zone_cases.specs.declared.events.Declaration.TheVariants.{Device, Item}

-- a letter, a digit, `_`, `-`, `.` or `/`
abbrev pub is_item_byte : ℕ → Bool
is_item_byte b = is_name_byte b || is_slash b

-- the name of a link or of a dataset
abbrev pub is_item_name : List ℕ → Bool
is_item_name word = is_run is_item_byte 63 word

-- whether what is declared is named rightly; an address is four numbers from 0 to 255 without a prefix
abbrev pub is_declaration : Declaration → Bool
is_declaration (Item Link name) = is_item_name name
is_declaration (Item Address address) = is_plain_address address
is_declaration (Item Dataset name) = is_item_name name
is_declaration (Device path) = is_path path

-- what is declared, as it is written
abbrev pub declaration_text : Declaration → List ℕ
declaration_text (Item Link name) = codes "link " ++ name
declaration_text (Item Address address) = codes "address " ++ address
declaration_text (Item Dataset name) = codes "dataset " ++ name
declaration_text (Device path) = codes "device " ++ path
