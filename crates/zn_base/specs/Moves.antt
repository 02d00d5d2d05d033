-- The transition table, built from zones(7).
use Rattle.std.specs.Prelude.{Bool, true, false, Option, Some, None}
use Rattle.zn_base.specs.declared.state.ZoneState.{ZoneState}
use Rattle.zn_base.specs.declared.state.ZoneState.TheVariants.{Configured, Incomplete, Installed, Ready, Running, ShuttingDown, Down}

-- the fourteen moves of a zone; None where no such zone is stored
abbrev pub may_move : Option ZoneState → Option ZoneState → Bool
may_move None (Some Configured) = true
may_move (Some Configured) None = true
may_move (Some Configured) (Some Incomplete) = true
may_move (Some Configured) (Some Installed) = true
may_move (Some Incomplete) (Some Installed) = true
may_move (Some Incomplete) (Some Configured) = true
may_move (Some Installed) (Some Incomplete) = true
may_move (Some Installed) (Some Configured) = true
may_move (Some Installed) (Some Ready) = true
may_move (Some Ready) (Some Running) = true
may_move (Some Ready) (Some ShuttingDown) = true
may_move (Some Running) (Some ShuttingDown) = true
may_move (Some ShuttingDown) (Some Down) = true
may_move (Some Down) (Some Installed) = true
may_move _ _ = false
