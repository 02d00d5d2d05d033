use Rattle.zonecfg_lex.proofs.Stages.{fitting_value, misfit_stops, stops_misfit, value_fitting}
use Rattle.zonecfg_lex.proofs.laws.values_fit.Goals as goal

pub returns-clause-fit : goal.returns-clause-fit
returns-clause-fit c = λ end ts. (fitting_value end ts, value_fitting end ts)

pub returns-clause-misfit : goal.returns-clause-misfit
returns-clause-misfit c = λ end ts place. (misfit_stops end ts place, stops_misfit end ts place)
