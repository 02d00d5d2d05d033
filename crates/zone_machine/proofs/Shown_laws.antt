-- The lines of the stored zones by what they show, and an event of the global zone by them.
use Rattle.std.proofs.Common.{◌≡◌, [], ◌∷◌, ◌++◌, ◌+◌, ◌∙◌, ℕ, zero, suc, Some, List, arith, append_assoc, ap, sym, filter, map, refl, take, true}
use Rattle.std.specs.Prelude.{slice_get}
use Rattle.commit_journal.specs.Zones.{rows_of}
use Rattle.commit_journal.specs.declared.records.Record.{Record}
use Rattle.zn_base.specs.Names.{Name}
use Rattle.zone_pools.specs.declared.grant.Grant.{Grant}
use Rattle.zone_pools.specs.declared.grant.Grant.TheVariants.{Nothing}
use Rattle.zone_pools.specs.declared.owned.Owned.{Owned}
use Rattle.zone_cases.specs.Session.Lines.{Command, List_zones, Line}
use Rattle.zone_cases.specs.Session.Listed.{Zone_row, global_rows, header, is_listed, list_zones, list_zones_reply, listing, row_text}
use Rattle.zone_cases.specs.Session.Typed.{global_line}
use Rattle.zone_cases.specs.State.{State}
use Rattle.zone_cases.specs.declared.events.Event.{Event}
use Rattle.zone_cases.specs.declared.events.Subject.TheVariants.{Global}
use Rattle.zone_cases.specs.declared.replies.Reply.{Reply}
use Rattle.zone_cases.specs.declared.session.listing.Options.{Options}
use Rattle.zone_machine.proofs.Listing_laws.{texts, told_first}
use Rattle.zone_machine.proofs.Stepping.{allowed-of}
use Rattle.zone_machine.specs.Code.Cells.{SharedOf}
use Rattle.zone_machine.specs.Code.Global_steps.{GlobalAnswers}
use Rattle.zone_machine.specs.Code.Shown_zones.{ShownOf, listed, row_shown, shown_entries, shown_entry, shown_in}
use Rattle.zone_machine.specs.Machine.{global_reply, one, one_of, subject}
use Rattle.zone_machine.specs.Machine.Common.{Common, common}
use Rattle.zone_machine.specs.Machine.Pools.{allowed}
use Rattle.zone_machine.specs.Shown.{shown}
use Rattle.zone_machine.specs.declared.machine.shared.Shared.{Shared}
use Rattle.zone_machine.specs.declared.machine.shown.ShownZones.{ShownZones}

module _ (o : Options) (t : ShownZones) where
  abbrev row_of : Name × Record → Zone_row
  row_of e = row_shown e.0 e.1 (shown_in t e.0)

  next_entry : (es : List (Name × Record)) (i : ℕ) → shown_entries o t (take (suc i) es) ≡ shown_entries o t (take i es) ++ shown_entry o t (slice_get es i)
  next_entry [] zero = refl
  next_entry [] (suc i) = refl
  next_entry (x ∷ es) zero = refl
  next_entry (x ∷ es) (suc i) =
      told_first o (row_of x) (map row_of (take (suc i) es))
      ∙ (ap (λ l. shown_entry o t (Some x) ++ l) (next_entry es i)
      ∙ (sym (append_assoc (shown_entry o t (Some x)) (shown_entries o t (take i es)) (shown_entry o t (slice_get es i)))
      ∙ ap (λ l. l ++ shown_entry o t (slice_get es i)) (sym (told_first o (row_of x) (map row_of (take i es))))))

  pub shown_next : (es : List (Name × Record)) (i : ℕ) → shown_entries o t (take (i + 1) es) ≡ shown_entries o t (take i es) ++ shown_entry o t (slice_get es i)
  shown_next es i = let next : i + 1 ≡ suc i = omega arith in rw next (next_entry es i)

  rows_of_entries : (es : List (Name × Record)) → map (λ (r : Owned Record). row_shown r.zone r.it (shown_in t r.zone)) (rows_of es) ≡ map row_of es
  rows_of_entries [] = refl
  rows_of_entries (x ∷ es) = ap (λ l. row_of x ∷ l) (rows_of_entries es)

  rows-shown : (S : State) (s : Shared) → SharedOf s (common S) → ShownOf t S → list_zones o S ≡ global_rows o.no_global ++ filter (λ r. is_listed o r.state) (map row_of s.rows.entries)
  rows-shown S s h k =
      (λ i. global_rows o.no_global ++ filter (λ r. is_listed o r.state) (map (λ (r : Owned Record). row_shown r.zone r.it (k r.zone i)) (h i).rows))
      ∙ ap (λ rows. global_rows o.no_global ++ filter (λ r. is_listed o r.state) rows) (rows_of_entries s.rows.entries)

  -- the lines before them, and then theirs
  pub lists-shown : (S : State) (s : Shared) → SharedOf s (common S) → ShownOf t S → listing o.form (global_rows o.no_global) ++ shown_entries o t s.rows.entries ≡ listing o.form (list_zones o S)
  lists-shown S s h k =
      let more : List Zone_row = filter (λ r. is_listed o r.state) (map row_of s.rows.entries) in
      append_assoc (header o.form) (map (row_text o.form) (global_rows o.no_global)) (map (row_text o.form) more)
      ∙ ap (λ l. header o.form ++ l) (sym (texts o (global_rows o.no_global) more) ∙ ap (map (row_text o.form)) (sym (rows-shown S s h k)))

-- a line that lists all zones is answered so
pub global-lists : (S : State) (line : Line) (o : Options) → listed line.command ≡ Some o → global_line S line ≡ list_zones_reply o S
global-lists S line o is = at_command line.command is
  where
    at_command : (c : Command) → listed c ≡ Some o → global_line S (record line { command = c }) ≡ list_zones_reply o S
    at_command (List_zones p) is = let same : p ≡ o = cc in ap (λ q. list_zones_reply q S) same
    at_command _ is = absurd (cc)

-- an event of the global zone
module _ (S : State) (e : Event) (of : subject S e ≡ Global) where
  one-global : (g : Grant) → one S e g ≡ one_of Global S e g
  unfolding one
  one-global g = ap (λ s. one_of s S e g) of

  pub global-answers : (s : Shared) (t : ShownZones) (reply : Reply) → SharedOf s (common S) → ShownOf t S → reply ≡ global_reply S e
      → GlobalAnswers S t e (record { event = e; subject = Global; grant = Nothing; reply = reply }) (record s { started = true })
  global-answers s t reply shared shows said = record {
    told = λ i. record { event = e; subject = sym of i; grant = sym (allowed-of S e Global of) i; reply = (said ∙ ap (λ r. r.reply) (sym (one-global (allowed S e)))) i };
    shared = ap (λ r. common r.state) (one-global Nothing) ∙ ap (λ (k : Common). record k { started = true }) shared;
    shown = λ z. ap (λ r. shown r.state z) (one-global Nothing) ∙ shows z;
  }
