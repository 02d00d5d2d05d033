use Rattle.std.proofs.Common.{◌≡◌, ◌+◌, ◌-◌, ◌≤◌, ℕ, List, Option}
use Rattle.zn_io.specs.Streams.{after_known}
use Rattle.brand_hooks.specs.Brands.{Tabled}
use Rattle.commit_journal.specs.declared.records.Commit.{Commit}
use Rattle.zone_machine.specs.Code.Decided.{AsksBrands, MayGoOn}
use Rattle.zone_machine.specs.Code.Openings.{StandsFor}
use Rattle.zone_machine.specs.Code.Records.{Passes}
use Rattle.zone_cases.specs.declared.events.Event.TheVariants.{Turn}
use Rattle.zones_run.specs.Midway.{Follows, Left, puts_until}
use Rattle.zones_run.specs.Scripts.{unstated}
use Rattle.zones_run.specs.Tracing.{HasWritten}
use Rattle.zones_run.specs.declared.words.Mode.TheVariants.{WithTurns}
use Rattle.zones_run.proofs.turns.until_answered.Given as goal

-- as many turns fewer are still put in as were given
abbrev pub invariant-loop-given : goal.invariant-loop-given
invariant-loop-given g l =
    let holds = g.K.Sink.holds in
    let view = g.D.Disk.view in
    record {
      run : (brands : List Tabled) (R : List Commit) (first : g.row.D.Denot) (held bytes input : Option (List ℕ))
          → Follows (WithTurns l.fn.telling) (puts_until 10000000 l.fn.opened l.fn.number) brands R (λ S. StandsFor S l.fn.machine) (Left brands R (view first) (view l.fn.machine.bank.disk)) l.fn.refused (l.fn.number + 1) held (after_known (holds l.fn.out) l.fn.waiting.items) bytes input
          → Follows (WithTurns l.fn.telling) (puts_until (10000000 - l.given) l.fn.opened l.fn.number) brands R (λ S. StandsFor S l.machine) (Left brands R (view first) (view l.machine.bank.disk)) l.refused (l.fn.number + 1) held (after_known (holds l.out) l.waiting.items) bytes input;
      due : l.due ≡ unstated (Turn l.fn.opened.zone);
      asks : AsksBrands g.F.Fn l.machine;
      ready : MayGoOn view l.machine;
      written : HasWritten (holds l.fn.out) (holds l.out);
      write : g.K.Sink.faults l.fn.out ≤ g.K.Sink.faults l.out;
      passes : Passes (view l.fn.machine.bank.disk) (view l.machine.bank.disk);
    }
