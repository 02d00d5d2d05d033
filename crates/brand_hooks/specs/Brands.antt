-- Brands, by brands(7) and the property brand of zonecfg(8).
use Rattle.std.specs.Prelude.{ℕ, List, [], Bool, ◌&&◌, ◌||◌, ◌==◌, bytes_eq, find, length, map, nat_le, option_and_then, position, slice_get, slice_index_or, take, Option, Some, None, Result, Ok, Err, if◌then◌else◌}
use Rattle.std.specs.List.{list_all, list_any, range_with_len}
use Rattle.zn_base.specs.Names.{is_letter_or_digit}
use Rattle.brand_hooks.specs.declared.fault.BrandFault.{BrandFault}
use Rattle.brand_hooks.specs.declared.fault.BrandFault.TheVariants.{BadBrandName, SameBrand}
use Rattle.brand_hooks.specs.declared.change.Change.{Change}
use Rattle.brand_hooks.specs.declared.table.HookAnswer.{HookAnswer}
use Rattle.brand_hooks.specs.declared.table.HookAnswer.TheVariants.{Proceed}
use Rattle.brand_hooks.specs.Tables.{answer_at}

-- a brand, to contracts: its name, what its hook answers, and the hook
pub record Hooked (F : Type 0) : Type 0 where
  pub name : List ℕ
  pub table : List HookAnswer
  pub hook : F

-- a letter, a digit, `_` or `-`
abbrev pub is_brand_byte : ℕ → Bool
is_brand_byte b = is_letter_or_digit b || b == 95 || b == 45

abbrev pub is_brand_name : List ℕ → Bool
is_brand_name name = nat_le 1 (length name) && nat_le (length name) 32 && list_all is_brand_byte name

-- the brand that is made of a name, a table and a hook, or why there is none
abbrev pub brand_of : {F : Type 0} → List ℕ → List HookAnswer → F → Result (Hooked F) BrandFault
brand_of name table hook = if is_brand_name name then Ok (record { name = name; table = table; hook = hook }) else Err BadBrandName

abbrev pub names_of : {F : Type 0} → List (Hooked F) → List (List ℕ)
names_of brands = map (λ b. b.name) brands

-- whether an earlier name is that at a place
abbrev pub is_again : List (List ℕ) → ℕ → Bool
is_again names place = list_any (bytes_eq (slice_index_or names place [])) (take place names)

-- the place of the first name that an earlier one is
abbrev pub first_again : List (List ℕ) → Option ℕ
first_again names = find (is_again names) (range_with_len 0 (length names))

abbrev pub brands_unless : {F : Type 0} → Option ℕ → List (Hooked F) → Result (List (Hooked F)) BrandFault
brands_unless (Some place) list = Err (SameBrand place)
brands_unless None list = Ok list

-- the brands that a list makes, or why it makes none
abbrev pub brands_of : {F : Type 0} → List (Hooked F) → Result (List (Hooked F)) BrandFault
brands_of list = brands_unless (first_again (names_of list)) list

-- the first brand of a name
abbrev pub brand_named : {F : Type 0} → List ℕ → List (Hooked F) → Option (Hooked F)
brand_named name brands = find (λ b. bytes_eq name b.name) brands

-- a brand without its hook: its name, and what its hook answers
pub record Tabled : Type 0 where
  pub name : List ℕ
  pub table : List HookAnswer

abbrev pub tabled : {F : Type 0} → Hooked F → Tabled
tabled b = record { name = b.name; table = b.table }

-- brands without their hooks
abbrev pub tables_of : {F : Type 0} → List (Hooked F) → List Tabled
tables_of brands = map tabled brands

abbrev pub tabled_names : List Tabled → List (List ℕ)
tabled_names brands = map (λ b. b.name) brands

-- the place of the first brand of a name
abbrev pub place_of : List ℕ → List Tabled → Option ℕ
place_of name brands = position (λ b. bytes_eq name b.name) brands

-- the brand at a place, with its hook or without it
abbrev pub brand_at : {B : Type 0} → List B → Option ℕ → Option B
brand_at brands place = option_and_then (slice_get brands) place

-- what a brand answers of a change; a brand that isn't there is asked nothing, and the change proceeds
abbrev pub answer_by : Option Tabled → Change → HookAnswer
answer_by None change = Proceed
answer_by (Some b) change = answer_at change b.table

-- what the brand at a place answers of a change
abbrev pub answer_of : List Tabled → Option ℕ → Change → HookAnswer
answer_of brands place change = answer_by (brand_at brands place) change
