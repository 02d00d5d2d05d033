-- An outcome, as the output that it stands for.
use Rattle.std.specs.Prelude.{Option, Some, None}
use Rattle.zonecfg_scopes.specs.Open.{Open}
use Rattle.zones_run.specs.declared.bulk.Report.{Report}
use Rattle.zones_run.specs.declared.outcome.Complaint.{Complaint}
use Rattle.zones_run.specs.declared.outcome.Outcome.{Outcome}
use Rattle.zones_run.specs.declared.outcome.Outcome.TheVariants.{Text, Complains}
use Rattle.zones_run.specs.Complaints.{IsOfInput, complaint_output}
use Rattle.zones_run.specs.Exporting.{ended}
use Rattle.zones_run.specs.Output.{Output, written}

-- the lines were all obeyed, or ended by a complaint
abbrev pub ended_by : Option Complaint → Open → Output
ended_by None o = ended o
ended_by (Some complaint) o = complaint_output complaint

abbrev pub outcome_of : Outcome → Output
outcome_of (Text text) = written text.items
outcome_of (Complains complaint) = complaint_output complaint

abbrev pub report_output : Report → Output
report_output report = record { status = report.status; out = report.out.items; err = report.err.items }

-- an outcome is a text, or complains of the input
abbrev pub IsOfInputAlone : Outcome → Type 0
IsOfInputAlone (Text text) = Unit {0}
IsOfInputAlone (Complains complaint) = IsOfInput complaint
