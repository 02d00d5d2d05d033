-- What is declared for zones to ask for: links, addresses, datasets and devices.
use Rattle.std.specs.Prelude.{ℕ, List, [], ◌∷◌, ◌++◌, Option, Some, None, bytes_eq, length, nat_lt, if◌then◌else◌}
use Rattle.std.specs.List.{count_by, list_any}
use Rattle.datalink_table.specs.Claims.{claim_of, holds, is_of}
use Rattle.datalink_table.specs.declared.claims.Claim.{Claim}
use Rattle.datalink_table.specs.declared.limits.TheConstants.{ITEMS_MAX}
use Rattle.kernel_objects.specs.declared.limits.TheConstants.{DEVICES_MAX}
use Rattle.zone_cases.specs.declared.events.Declaration.{Declaration}
use Rattle.zone_cases.specs.declared.events.Declaration.TheVariants.{Device, Item}
use Rattle.zone_cases.specs.declared.replies.Refusal.{Refusal}
use Rattle.zone_cases.specs.declared.replies.Refusal.TheVariants.{Duplicate, TooMany}

-- in order of declaration
pub record Declared : Type 0 where
  pub items : List Claim
  pub devices : List (List ℕ)

abbrev pub none_declared : Declared
none_declared = record { items = []; devices = [] }

-- an item is declared once, and 1,024 of each kind at most
abbrev pub item_refusal : Claim → List Claim → Option Refusal
item_refusal c items =
    if holds c items then Some Duplicate
    else if nat_lt (count_by (is_of c.kind) items) ITEMS_MAX then None
    else Some (TooMany ITEMS_MAX)

abbrev pub device_refusal : List ℕ → List (List ℕ) → Option Refusal
device_refusal path devices =
    if list_any (bytes_eq path) devices then Some Duplicate
    else if nat_lt (length devices) DEVICES_MAX then None
    else Some (TooMany DEVICES_MAX)

-- why a declaration is refused, if it is
abbrev pub declare_refusal : Declaration → Declared → Option Refusal
declare_refusal (Item kind item) d = item_refusal (claim_of kind item) d.items
declare_refusal (Device path) d = device_refusal path d.devices

abbrev pub with_declared : Declaration → Declared → Declared
with_declared (Item kind item) d = record d { items = d.items ++ claim_of kind item ∷ [] }
with_declared (Device path) d = record d { devices = d.devices ++ path ∷ [] }

abbrev pub unless_refused : {A : Type 0} → Option Refusal → A → A → A
unless_refused None new old = new
unless_refused (Some r) new old = old

-- what is declared after a declaration
abbrev pub declaring : Declaration → Declared → Declared
declaring what d = unless_refused (declare_refusal what d) (with_declared what d) d
