-- The states' names in zoneadm(8), and the states in which a zone is stored.
use Rattle.std.specs.Prelude.{ℕ, List, Bool, true, false, Option, Some, None, bytes_eq, codes, if◌then◌else◌}
use Rattle.zn_base.specs.declared.state.ZoneState.{ZoneState}
use Rattle.zn_base.specs.declared.state.ZoneState.TheVariants.{Configured, Incomplete, Installed, Ready, Running, ShuttingDown, Down}

abbrev pub state_text : ZoneState → List ℕ
state_text Configured = codes "configured"
state_text Incomplete = codes "incomplete"
state_text Installed = codes "installed"
state_text Ready = codes "ready"
state_text Running = codes "running"
state_text ShuttingDown = codes "shutting_down"
state_text Down = codes "down"

-- the other four are states of a running system, and do not outlast it
abbrev pub is_stored : ZoneState → Bool
is_stored Configured = true
is_stored Incomplete = true
is_stored Installed = true
is_stored _ = false

-- the stored state that a word names
abbrev pub stored_state : List ℕ → Option ZoneState
stored_state word =
    if bytes_eq word (state_text Configured) then Some Configured
    else if bytes_eq word (state_text Incomplete) then Some Incomplete
    else if bytes_eq word (state_text Installed) then Some Installed
    else None
