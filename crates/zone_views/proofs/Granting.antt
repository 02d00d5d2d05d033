-- What a decision asks goes with what comes, and so what the pools say fits.
use Rattle.std.proofs.Common.{◌≡◌, ◌∷◌, ◌≤◌, [], List, true, refl}
use Rattle.std.proofs.lemmas.Bool.{false≢true}
use Rattle.zn_base.specs.Names.{Name}
use Rattle.zone_pools.specs.declared.grant.Grant.TheVariants.{Nothing}
use Rattle.zone_pools.proofs.Pools_laws.{item-fits, path-fits, pid-fits, serial-fits, source-fits, zid-fits, zone-fits}
use Rattle.zone_machine.proofs.Asking.{asks_rightly}
use Rattle.zoneadmd_steps.proofs.Of_turns.{is_asked_for}
use Rattle.zoneadmd_steps.specs.Arrivals.{A_claim, A_process, A_record, An_id, Comes, No_thing}
use Rattle.zone_pools.specs.Asked.{A_path, A_pid, A_serial, A_source, A_zid, A_zone, An_item, Asked}
use Rattle.zone_pools.specs.Decisions.{Ask, Decision, Just, asked_of}
use Rattle.zone_pools.specs.Pools.{Pools, fits_asked, said_by_all}

pub said-fits : (P : Pools) (z : Name) (c : Comes) (asked : List Asked) → is_asked_for c asked ≡ true → 1 ≤ P.last_pid → fits_asked P z asked (said_by_all P z asked Nothing) ≡ true
said-fits P z (A_process p) (A_pid ∷ []) h last = pid-fits P z last
said-fits P z (An_id i) (A_zid ∷ []) h last = zid-fits P z
said-fits P z (A_record row) (A_serial size ∷ []) h last = serial-fits P z size
said-fits P z (A_record row) (A_zone ∷ A_path path ∷ A_serial size ∷ []) h last = zone-fits P z path size
said-fits P z (A_record row) (A_path path ∷ A_serial size ∷ []) h last = path-fits P z path size
said-fits P z (A_claim c) (An_item pool item ∷ []) h last = item-fits P z pool item
said-fits P z No_thing (A_source source ∷ []) h last = source-fits P z source
said-fits P z c asked h last = absurd (false≢true h)

pub decision-fits : {E : Type 0} (P : Pools) (z : Name) (d : Decision Comes E) → asks_rightly d ≡ true → 1 ≤ P.last_pid → fits_asked P z (asked_of d) (said_by_all P z (asked_of d) Nothing) ≡ true
decision-fits P z (Just e) h last = refl
decision-fits P z (Ask c asked denied given) h last = said-fits P z c asked h last
