-- Whether two values are one, as a test that computes.
use Rattle.std.specs.Prelude.{Bool, true, false, ◌==◌}
use Rattle.zn_base.specs.contracts.state.ZoneState.{the_type as state_type}
use Rattle.zn_base.specs.declared.name.NameFault.{NameFault}
use Rattle.zn_base.specs.declared.name.NameFault.TheVariants.{Memory, Empty, TooLong, BadByte, Reserved}
use Rattle.zn_base.specs.declared.state.ZoneState.{ZoneState}
use denote.Enum.Bare.{sameb}

-- by their tags, where no variant has a field
abbrev pub same_state : ZoneState → ZoneState → Bool
same_state a b = sameb state_type a b

abbrev pub same_name_fault : NameFault → NameFault → Bool
same_name_fault Memory Memory = true
same_name_fault Empty Empty = true
same_name_fault TooLong TooLong = true
same_name_fault (BadByte m) (BadByte n) = m == n
same_name_fault Reserved Reserved = true
same_name_fault _ _ = false
