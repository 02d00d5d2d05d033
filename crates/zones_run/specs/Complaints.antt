-- The lines of standard error that end a run, each with its status.
use Rattle.std.specs.Prelude.{ℕ, List, [], ◌∷◌, ◌++◌, codes}
use Rattle.std.specs.Fmt.{decimal}
use Rattle.trace_text.specs.Faults.{fault_text}
use Rattle.commit_journal.specs.declared.fault.StoreFault.{StoreFault}
use Rattle.commit_journal.specs.declared.fault.StoreFault.TheVariants.{BadRecord, BankFull, DiskFault, Memory, NotAStore as No_store, RecordForm}
use Rattle.zones_run.specs.declared.outcome.Complaint.{Complaint}
use Rattle.zones_run.specs.declared.outcome.Complaint.TheVariants.{Line, End, Grammar, BadGrant, FirstRefused, FirstRefusedEntry, Limit, NotAStore}
use Rattle.zones_run.specs.Statuses.{status_grammar, status_limit, status_not_a_store, status_refused}
use Rattle.zones_run.specs.Output.{Output}
use Rattle.zones_run.specs.Refusals.{refusal_text}

-- the code and the name of a fault of a store, and its place or number
abbrev pub store_fault_text : StoreFault → List ℕ
store_fault_text Memory = codes "no memory"
store_fault_text (No_store place) = codes "61 NotAStore " ++ decimal place
store_fault_text (BadRecord place) = codes "62 BadRecord " ++ decimal place
store_fault_text DiskFault = codes "63 DiskFault"
store_fault_text BankFull = codes "64 BankFull"
store_fault_text (RecordForm serial) = codes "65 RecordForm " ++ decimal serial

abbrev pub complaint_text : Complaint → List ℕ
complaint_text (Line number refusal) = codes "line " ++ decimal number ++ codes ": " ++ refusal_text refusal ++ 10 ∷ []
complaint_text (End refusal) = codes "end: " ++ refusal_text refusal ++ 10 ∷ []
complaint_text (Grammar number fault) = codes "line " ++ decimal number ++ codes ": " ++ fault_text fault ++ 10 ∷ []
complaint_text (BadGrant number) = codes "line " ++ decimal number ++ codes ": 105 BadGrant" ++ 10 ∷ []
complaint_text (FirstRefused number) = codes "first refused line: " ++ decimal number ++ 10 ∷ []
complaint_text (FirstRefusedEntry number) = codes "first refused entry: " ++ decimal number ++ 10 ∷ []
complaint_text (Limit number) = codes "limit at line " ++ decimal number ++ 10 ∷ []
complaint_text (NotAStore fault) = codes "not a store: " ++ store_fault_text fault ++ 10 ∷ []

abbrev pub complaint_status : Complaint → ℕ
complaint_status (Line number refusal) = status_refused
complaint_status (End refusal) = status_refused
complaint_status (Grammar number fault) = status_grammar
complaint_status (BadGrant number) = status_grammar
complaint_status (FirstRefused number) = status_refused
complaint_status (FirstRefusedEntry number) = status_refused
complaint_status (Limit number) = status_limit
complaint_status (NotAStore fault) = status_not_a_store

-- a complaint of the lines or the end of an input, and not of a store
abbrev pub IsOfInput : Complaint → Type 0
IsOfInput (NotAStore fault) = ⊥
IsOfInput complaint = Unit {0}

-- the output that is a complaint alone
abbrev pub complaint_output : Complaint → Output
complaint_output complaint = record { status = complaint_status complaint; out = []; err = complaint_text complaint }

-- a line past a limit
abbrev pub limit_at : ℕ → Output
limit_at number = complaint_output (Limit number)
