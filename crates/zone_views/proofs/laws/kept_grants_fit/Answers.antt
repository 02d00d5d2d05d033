use Rattle.std.proofs.Common.{arith, refl}
use Rattle.zone_machine.specs.Machine.{opening}
use Rattle.zone_views.proofs.Kept_grants.{kept-fits}
use Rattle.zone_views.proofs.Purge.{opening-agree}
use Rattle.zone_views.proofs.laws.kept_grants_fit.Goals as goal

pub returns-clause-fit : goal.returns-clause-fit
returns-clause-fit c = λ z brands commits h is few.
    kept-fits z (opening brands commits) (opening brands commits) h (record { agree = opening-agree z brands commits commits refl; zones = few; records = omega arith; bytes = omega arith }) is

pub returns-clause-elsewhere : goal.returns-clause-elsewhere
returns-clause-elsewhere c = λ z brands commits others h is same few records bytes.
    kept-fits z (opening brands commits) (opening brands others) h (record { agree = opening-agree z brands commits others same; zones = few; records = records; bytes = bytes }) is
