-- What a run leaves on its two sinks, by its status.
use Rattle.std.specs.Prelude.{◌≡◌, ◌≤◌, ◌⊎◌, ◌++◌, ◌∷◌, [], ℕ, List, length, take, Option, codes}
use Rattle.zn_io.specs.Streams.{Rose, TakesFront, after_known}
use Rattle.zones_run.specs.Statuses.{status_disk_fault, status_done, status_grammar, status_limit, status_no_memory, status_not_a_store, status_read_fault, status_refused, status_usage, status_write_fault}
use Rattle.zones_run.specs.declared.fault.RunFault.{RunFault}
use Rattle.zones_run.specs.declared.fault.RunFault.TheVariants.{Disk, Memory, Read, Write}
use Rattle.input_lines.specs.declared.lines.ReadFault.{ReadFault}
use Rattle.input_lines.specs.declared.lines.ReadFault.TheVariants.{Failed, Memory as No_memory}
use Rattle.zones_run.specs.Output.{Output}

-- the statuses that the words, what is on the disk and the whole input decide
abbrev pub IsDecided : ℕ → Type 0
IsDecided status = (status ≡ status_done) ⊎ ((status ≡ status_refused) ⊎ ((status ≡ status_usage) ⊎ ((status ≡ status_grammar) ⊎ ((status ≡ status_limit) ⊎ (status ≡ status_not_a_store)))))

abbrev pub IsStatus : ℕ → Type 0
IsStatus status = IsDecided status ⊎ ((status ≡ status_read_fault) ⊎ ((status ≡ status_write_fault) ⊎ ((status ≡ status_disk_fault) ⊎ (status ≡ status_no_memory))))

-- a trace was run to its end, or to a line that ends it
abbrev pub IsWhole : ℕ → Type 0
IsWhole status = (status ≡ status_done) ⊎ ((status ≡ status_refused) ⊎ ((status ≡ status_grammar) ⊎ (status ≡ status_limit)))

-- the status and what standard output has taken are those of an output
pub record Agrees (output : Output) (status : ℕ) (held holds : Option (List ℕ)) : Type 0 where
  pub status_is : status ≡ output.status
  pub taken : holds ≡ after_known held output.out

-- no more than a front of a text was taken
pub record HasFront (held holds : Option (List ℕ)) (text : List ℕ) : Type 0 where
  pub count : ℕ
  pub taken : holds ≡ after_known held (take count text)

-- a front of a line that could not be written was taken, and then a front of a second line, all of it where no fault
-- was counted
pub record TakesFronts (held holds : Option (List ℕ)) (before now : ℕ) (first second : List ℕ) : Type 0 where
  pub begun : ℕ
  pub told : ℕ
  pub taken : holds ≡ after_known (after_known held (take begun first)) (take told second)
  pub whole : Rose before now ⊎ ((begun ≡ 0) × (length second ≤ told))

-- standard output and the status, by an output: where the status is decided they are the output's, and where a sink failed no
-- more than a front of the text was taken
pub record TellsText (o : Output) (status : ℕ) (held holds : Option (List ℕ)) : Type 0 where
  pub decided : IsDecided status → Agrees o status held holds
  pub front : status ≡ status_write_fault → HasFront held holds o.out

abbrev pub read_fault_line : List ℕ
read_fault_line = codes "read fault" ++ 10 ∷ []

abbrev pub write_fault_line : List ℕ
write_fault_line = codes "write fault" ++ 10 ∷ []

abbrev pub disk_fault_line : List ℕ
disk_fault_line = codes "disk fault" ++ 10 ∷ []

abbrev pub memory_line : List ℕ
memory_line = codes "no memory" ++ 10 ∷ []

-- standard error, by the line of an output: where the status is decided the line is tried once, and it is whole where the
-- status is 0 or 1; where a sink failed a front of it may have been taken before the line of that fault
pub record TellsLine (line : List ℕ) (status : ℕ) (held holds : Option (List ℕ)) (before now : ℕ) : Type 0 where
  pub tried : IsDecided status → TakesFront held holds before now line
  pub whole : status ≤ status_refused → holds ≡ after_known held line
  pub failed : status ≡ status_write_fault → TakesFronts held holds before now line write_fault_line

-- the exit status of what ends a run
abbrev pub fault_status : RunFault → ℕ
fault_status Memory = status_no_memory
fault_status Read = status_read_fault
fault_status Write = status_write_fault
fault_status Disk = status_disk_fault

-- what a fault of reading ends a run with
abbrev pub run_fault_of : ReadFault → RunFault
run_fault_of No_memory = Memory
run_fault_of Failed = Read
