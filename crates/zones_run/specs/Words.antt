-- The words of the command line.
use Rattle.std.specs.Prelude.{◌≡◌, ◌≤◌, ℕ, List, [], ◌∷◌, Option, Some, None, Result, Ok, Err, codes, if◌then◌else◌}
use Rattle.std.specs.Str.{bytes_eq}
use Rattle.zn_base.specs.Decimals.{decimal_of}
use Rattle.zn_base.specs.Names.{Name, name_of}
use Rattle.zn_base.specs.declared.name.NameFault.{NameFault}
use Rattle.zones_run.specs.declared.words.Command.{Command}
use Rattle.zones_run.specs.declared.words.Command.TheVariants.{Export, OnStore, Help, Version}
use Rattle.zones_run.specs.declared.words.Task.{Task}
use Rattle.zones_run.specs.declared.words.Task.TheVariants.{Bulk, Index, Run}
use Rattle.zones_run.specs.declared.words.Mode.TheVariants.{Purged, Replies, Stated, WithTurns}
use Rattle.zones_run.specs.declared.words.Telling.TheVariants as telling

-- the commands that open the store
abbrev pub trace_task : Task
trace_task = Run Replies

abbrev pub script_task : Task
script_task = Run (WithTurns telling.Replies)

abbrev pub given_task : Task
given_task = Run Stated

abbrev pub command_named : List ℕ → Option Command
command_named word =
    if bytes_eq word (codes "export") then Some Export
    else if bytes_eq word (codes "trace") then Some (OnStore trace_task)
    else if bytes_eq word (codes "script") then Some (OnStore script_task)
    else if bytes_eq word (codes "given") then Some (OnStore given_task)
    else if bytes_eq word (codes "index") then Some (OnStore Index)
    else if bytes_eq word (codes "--help") then Some Help
    else if bytes_eq word (codes "--version") then Some Version
    else None

-- all other zones are purged from a trace where the word is a zone's name
abbrev pub purge_for : Result Name NameFault → Option Command
purge_for (Ok zone) = Some (OnStore (Run (Purged zone)))
purge_for (Err fault) = None

-- a large system is made where the word is a number of zones
abbrev pub bulk_for : Option ℕ → Option Command
bulk_for (Some zones) = Some (OnStore (Bulk zones))
bulk_for None = None

-- of two words
abbrev pub command_for : List ℕ → List ℕ → Option Command
command_for word name =
    if bytes_eq word (codes "purge") then purge_for (name_of name)
    else if bytes_eq word (codes "bulk") then bulk_for (decimal_of 256 name)
    else None

-- 256 zones are made at most
abbrev pub HasFewZones : Task → Type 0
HasFewZones (Bulk zones) = zones ≤ 256
HasFewZones task = Unit {0}

abbrev pub AsksForFew : Option Command → Type 0
AsksForFew (Some (OnStore task)) = HasFewZones task
AsksForFew command = Unit {0}

-- what purges
abbrev pub Purges : Option Command → Type 0
Purges command = (zone : Name) × (command ≡ Some (OnStore (Run (Purged zone))))

-- each form is one word, but for `purge ZONE` and `bulk N`
abbrev pub command_of : List (List ℕ) → Option Command
command_of (word ∷ []) = command_named word
command_of (word ∷ name ∷ []) = command_for word name
command_of words = None
