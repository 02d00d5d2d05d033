-- What edits keep true of a resource.
use Rattle.std.specs.Prelude.{◌≡◌, ◌⊎◌, ℕ, List, Ok, IsTrue}
use Rattle.zn_base.specs.declared.values.Value.{Value}
use Rattle.config_terms.specs.declared.terms.Resource.{Resource}
use Rattle.config_terms.specs.Allowed.{is_allowed}
use Rattle.config_terms.specs.Edits.{with_property, without_property, with_value, without_value}

-- one resource is another after an edit
abbrev pub IsEdited : List ℕ → Value → Resource → Resource → Type 0
IsEdited name value old new =
    (with_property name value old ≡ Ok new) ⊎ (without_property name old ≡ Ok new) ⊎ (with_value name value old ≡ Ok new)
    ⊎ (without_value name value old ≡ Ok new)

-- an edit leaves an allowed resource allowed
abbrev pub EditsStayAllowed : Type 0
EditsStayAllowed =
    (name : List ℕ) (value : Value) (old new : Resource) → IsTrue (is_allowed old) → IsEdited name value old new → IsTrue (is_allowed new)
