-- That what `purge` keeps of a trace, run by `given`, tells what the zone was told among all its neighbours.
use Rattle.std.specs.Prelude.{◌≡◌, ◌≤◌, ℕ, List, length, All}
use Rattle.std.specs.List.{flat_map}
use Rattle.brand_hooks.specs.Brands.{Tabled}
use Rattle.commit_journal.specs.declared.records.Commit.{Commit}
use Rattle.trace_text.specs.Replies.{reply_text}
use Rattle.zn_base.specs.Lines.{lines_of}
use Rattle.zn_base.specs.Names.{Name}
use Rattle.zone_cases.specs.State.{bytes_used, stored}
use Rattle.zone_cases.specs.declared.events.Entry.{Entry}
use Rattle.zone_machine.specs.Machine.Histories.{only}
use Rattle.zone_views.specs.Storable.{zones_besides}
use Rattle.zones_run.specs.Scripts.{At_end}
use Rattle.zones_run.specs.Statuses.{status_refused}
use Rattle.zones_run.specs.Tracing.{Run, run_of, traced}
use Rattle.zones_run.specs.declared.words.Mode.TheVariants.{Purged, Replies, Stated}

-- the reply lines of a zone and of the whole system
abbrev pub reply_lines : Name → List Entry → List ℕ
reply_lines zone entries = flat_map (λ e. reply_text e.subject e.reply) (only zone entries)

-- no line of a text is past the limit of an input's lines
abbrev pub HasShortLines : List ℕ → Type 0
HasShortLines text = All (λ line. length line ≤ 4096) (lines_of text)

-- the store of some commits has the same record of a zone as that of others, or none as it does, beside 255 other zones at most, and is
-- no fuller
pub record StandsIn (zone : Name) (others R : List Commit) : Type 0 where
  pub same : stored zone R ≡ stored zone others
  pub few : zones_besides zone others ≤ 255
  pub shorter : length others ≤ length R
  pub smaller : bytes_used others ≤ bytes_used R

-- `given` comes to the end of the lines, having answered just the entries that were kept, and writes just their replies
pub record RunsAsKept (zone : Name) (brands : List Tabled) (others : List Commit) (text : List ℕ) (run : Run) : Type 0 where
  pub ending : (run_of Stated brands others text).ending ≡ At_end
  pub entries : (run_of Stated brands others text).entries ≡ only zone run.entries
  pub replies : (traced Stated brands others text).out ≡ reply_lines zone run.entries
  pub status : (traced Stated brands others text).status ≤ status_refused

-- a law: where a trace ends with status 0 or 1, so does `given` over what `purge` writes of it, over any store with the same record of
-- the zone, and writes just the lines that the trace told the zone and the whole system
abbrev pub PurgedRunsAsGiven : Type 0
PurgedRunsAsGiven = (brands : List Tabled) (R others : List Commit) (zone : Name) (bytes : List ℕ)
    → (traced (Purged zone) brands R bytes).status ≤ status_refused → HasShortLines (traced (Purged zone) brands R bytes).out → StandsIn zone others R
    → RunsAsKept zone brands others (traced (Purged zone) brands R bytes).out (run_of Replies brands R bytes)
