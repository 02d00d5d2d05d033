-- Where a zone may go from each state, by zones(7) and zoneadm(8).
use Rattle.std.proofs.Common.{◌≡◌, List, Option, Some, None, [], ◌∷◌, refl}
use Rattle.std.specs.Prelude.{filter}
use Rattle.zn_base.specs.declared.state.ZoneState.{ZoneState}
use Rattle.zn_base.specs.declared.state.ZoneState.TheVariants.{Configured, Incomplete, Installed, Ready, Running, ShuttingDown, Down}
use Rattle.zn_base.specs.Moves.{may_move}

-- not stored, and each state
abbrev all : List (Option ZoneState)
all = None ∷ Some Configured ∷ Some Incomplete ∷ Some Installed ∷ Some Ready ∷ Some Running ∷ Some ShuttingDown ∷ Some Down ∷ []

abbrev moves_from : Option ZoneState → List (Option ZoneState)
moves_from from = filter (may_move from) all

create : moves_from None ≡ Some Configured ∷ []
create = refl

install_attach_or_delete : moves_from (Some Configured) ≡ None ∷ Some Incomplete ∷ Some Installed ∷ []
install_attach_or_delete = refl

installed_or_given_up : moves_from (Some Incomplete) ≡ Some Configured ∷ Some Installed ∷ []
installed_or_given_up = refl

uninstall_detach_or_ready : moves_from (Some Installed) ≡ Some Configured ∷ Some Incomplete ∷ Some Ready ∷ []
uninstall_detach_or_ready = refl

boot_or_halt : moves_from (Some Ready) ≡ Some Running ∷ Some ShuttingDown ∷ []
boot_or_halt = refl

halt : moves_from (Some Running) ≡ Some ShuttingDown ∷ []
halt = refl

ended : moves_from (Some ShuttingDown) ≡ Some Down ∷ []
ended = refl

freed : moves_from (Some Down) ≡ Some Installed ∷ []
freed = refl
