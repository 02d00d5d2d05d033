-- What is written of a record of live sessions, and which of its entries is refused first.
use Rattle.std.specs.Prelude.{ℕ, ◌+◌, List, [], ◌∷◌, Option, Some, None, if◌then◌else◌}
use Rattle.std.specs.List.{flat_map}
use Rattle.trace_text.specs.Live.{entry_text}
use Rattle.zone_cases.specs.declared.events.Entry.{Entry}
use Rattle.zones_run.specs.Complaints.{complaint_output}
use Rattle.zones_run.specs.Output.{Output, written}
use Rattle.zones_run.specs.Tracing.{is_refusal}
use Rattle.zones_run.specs.declared.outcome.Complaint.TheVariants.{FirstRefusedEntry}

abbrev pub record_text : List Entry → List ℕ
record_text h = flat_map entry_text h

-- the number of the first entry that is refused, where they are numbered from n on
abbrev pub first_refused : ℕ → List Entry → Option ℕ
first_refused n [] = None
first_refused n (e ∷ h) = if is_refusal e.reply.head then Some n else first_refused (n + 1) h

-- the number of the first refused one, where an entry of this number comes behind others
abbrev pub refused_at : Option ℕ → ℕ → Entry → Option ℕ
refused_at None n e = if is_refusal e.reply.head then Some n else None
refused_at (Some k) n e = Some k

-- and where these do, from this number on
abbrev pub refused_from : Option ℕ → ℕ → List Entry → Option ℕ
refused_from None n h = first_refused n h
refused_from (Some k) n h = Some k

abbrev pub told_refused : List ℕ → Option ℕ → Output
told_refused text None = written text
told_refused text (Some number) = record (complaint_output (FirstRefusedEntry number)) { out = text }

-- the output of a run that left a whole record
abbrev pub told_record : List Entry → Output
told_record h = told_refused (record_text h) (first_refused 1 h)
