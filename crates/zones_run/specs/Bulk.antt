-- What `bulk` runs for a number of zones, and what it tells of that run.
use Rattle.std.specs.Prelude.{◌≡◌, ◌≤◌, ℕ, zero, suc, List, [], ◌∷◌, ◌++◌, ◌%◌, ◌==◌, length, replicate, codes, Bool, true, false, Option, Some, None, if◌then◌else◌}
use Rattle.std.specs.Fmt.{decimal}
use Rattle.std.specs.List.{count_by}
use Rattle.brand_hooks.specs.Brands.{Tabled}
use Rattle.commit_journal.specs.declared.records.Commit.{Commit}
use Rattle.index_file.specs.declared.rows.IndexRow.{IndexRow}
use Rattle.zn_base.specs.declared.state.ZoneState.{ZoneState}
use Rattle.zn_base.specs.declared.state.ZoneState.TheVariants.{Installed, Running}
use Rattle.zone_cases.specs.State.{State, zone_state}
use Rattle.zone_cases.specs.declared.events.Entry.{Entry}
use Rattle.zone_machine.specs.Machine.{opening}
use Rattle.zone_machine.specs.Machine.Histories.{after}
use Rattle.zone_machine.specs.Machine.Indexed.{index_of}
use Rattle.zones_run.specs.Fixed.{text_of_lines}
use Rattle.zn_io.specs.Disk.{View}
use Rattle.zones_run.specs.Output.{Output}
use Rattle.zones_run.specs.Recording.{Ran}
use Rattle.zones_run.specs.Scripts.{At_end, has_restart}
use Rattle.zones_run.specs.Tracing.{Run, is_refusal, run_of, told_refusal}
use Rattle.zones_run.specs.declared.words.Mode.{Mode}
use Rattle.zones_run.specs.declared.words.Mode.TheVariants.{WithTurns}
use Rattle.zones_run.specs.declared.words.Telling.TheVariants.{Marks}

-- a text with a number in it
abbrev pub numbered : List ℕ → ℕ → List ℕ → List ℕ
numbered before n after = before ++ (decimal n ++ after)

-- a call in the zone of a number, and the halt of one of an even number
abbrev pub call_line : ℕ → List ℕ
call_line n = numbered (codes "S 1 zlogin b") n (codes " true")

abbrev pub halt_lines : ℕ → List (List ℕ)
halt_lines n = if n % 2 == 0 then numbered (codes "S 1 zoneadm -z b") n (codes " halt") ∷ [] else []

-- the lines for the zone of a number: it is made, installed and booted, and calls are made in it; one of an even number is halted
unfoldable pub lines_for : ℕ → List (List ℕ)
lines_for n =
    numbered (codes "S 1 zonecfg -z b") n (numbered (codes " create -b; set zonepath=/zones/b") n (codes "; set brand=ipkg")) ∷
    numbered (codes "S 1 zoneadm -z b") n (codes " install") ∷
    numbered (codes "S 1 zoneadm -z b") n (codes " boot") ∷
    numbered (codes "S 1 zlogin b") n (codes " ps") ∷
    (replicate 50 (call_line n) ++ halt_lines n)

-- the lines for so many zones, whose numbers are counted from 1
unfoldable pub bulk_lines : ℕ → List (List ℕ)
bulk_lines zero = []
bulk_lines (suc n) = bulk_lines n ++ lines_for (suc n)

-- the script that they are
abbrev pub bulk_text : ℕ → List ℕ
bulk_text n = text_of_lines (bulk_lines n)

-- it is run as `script` runs its input
abbrev pub bulk_mode : Mode
bulk_mode = WithTurns Marks

abbrev pub bulk_run : ℕ → List Tabled → List Commit → Run
bulk_run n brands R = run_of bulk_mode brands R (bulk_text n)

-- how many entries are refusals
abbrev pub refusals : List Entry → ℕ
refusals entries = count_by (λ e. is_refusal e.reply.head) entries

abbrev pub is_running : Option ZoneState → Bool
is_running (Some Running) = true
is_running state = false

abbrev pub is_installed : Option ZoneState → Bool
is_installed (Some Installed) = true
is_installed state = false

-- how many of some zones are in a state that passes a test, and how many of all that are stored
abbrev pub rows_that : (Option ZoneState → Bool) → State → List IndexRow → ℕ
rows_that passes S rows = count_by (λ row. passes (zone_state row.name S)) rows

abbrev pub zones_that : (Option ZoneState → Bool) → State → ℕ
zones_that passes S = rows_that passes S (index_of S.commits)

-- the number of zones that were asked for, how many events were answered and how many of them refused, and how many zones run or
-- are installed then
abbrev pub summary_text : ℕ → List Entry → State → List ℕ
summary_text n entries S = text_of_lines (
    (codes "zones " ++ decimal n) ∷
    (codes "events " ++ decimal (length entries)) ∷
    (codes "refused " ++ decimal (refusals entries)) ∷
    (codes "running " ++ decimal (zones_that is_running S)) ∷
    (codes "installed " ++ decimal (zones_that is_installed S)) ∷ [])

-- what `bulk` comes to over the store of some commits
abbrev pub bulked : ℕ → List Tabled → List Commit → Output
bulked n brands R =
    let run = bulk_run n brands R in told_refusal (summary_text n run.entries (after (opening brands R) run.entries)) run.refused

-- what it has recorded is what the script does, of which nothing is told
abbrev pub RanBulk : ℕ → List Tabled → List Commit → (whole torn : Type 0) → (old new : View) → Type 0
RanBulk n brands R whole torn old new = Ran bulk_mode brands R whole torn ⊥ ⊥ (Some (bulk_text n)) None None old new

-- a law: the script for 256 zones at most comes to its end, so no line is outside the grammar or past a limit, and none restarts the
-- system
abbrev pub BulkComesToItsEnd : Type 0
BulkComesToItsEnd = (n : ℕ) (brands : List Tabled) (R : List Commit) → n ≤ 256 → ((bulk_run n brands R).ending ≡ At_end) × (has_restart bulk_mode (bulk_text n) ≡ false)
