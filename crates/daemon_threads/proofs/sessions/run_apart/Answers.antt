use Rattle.std.proofs.Common.{◌≡◌, ap, arith, length, map, refl, subst, suc, sym, true, ◌∙◌}
use Rattle.brand_hooks.specs.Brands.{tables_of}
use Rattle.brand_hooks.specs.Hooks.{AllFollow}
use Rattle.zn_base.specs.Names.{Name}
use Rattle.zone_cases.specs.State.{State}
use Rattle.zone_cases.specs.declared.cell.Cell.{Cell}
use Rattle.zone_machine.specs.Code.Openings.{StandsFor}
use Rattle.zone_machine.specs.Code.Partings.{StandApart}
use Rattle.zone_machine.specs.Machine.Histories.{after}
use Rattle.daemon_threads.proofs.Beginning.{are-short, begun-from, dealt-places, disk-begun, lives-unbegun, map-length, memory-other, no-lines, none-failed, none-other, only-memory, past-is, past-of, stands-none}
use Rattle.daemon_threads.proofs.Dealt_cells.{differ-all, if-differ}
use Rattle.daemon_threads.proofs.Disks.{ready-holds}
use Rattle.daemon_threads.proofs.Leaving.{passes-same}
use Rattle.daemon_threads.specs.Begun.{script_lines}
use Rattle.daemon_threads.specs.Dealing.{all_differ, if_all_differ, names_of, place_cell}
use Rattle.daemon_threads.specs.Sessions.{Lives}
use Rattle.daemon_threads.proofs.sessions.run_apart.Goals as goal

pub returns-then-len-ge-ZONES_MAX-clause-lives : goal.returns-then-len-ge-ZONES_MAX-clause-lives
returns-then-len-ge-ZONES_MAX-clause-lives g c = λ S reached stands.
    let p = c.args.parted in
    let u = c.unbegun in
    lives-unbegun g.D.Disk.view S (script_lines c.args.scripts.now) u.result.ended u.result.entries p.bank.disk u.result.machine.bank.disk u.ensures.ended u.ensures.entries
    (ap (λ m. m.bank.disk) u.ensures.machine ∙ ap (λ b. b.disk) c.whole.ensures.bank) c.disk_is_sound.ensures (λ keeps. ready-holds S p.bank p.shared (g.D.Disk.view p.bank.disk) stands.bodies stands.shared c.requires.ready keeps)

pub returns-then-len-ge-ZONES_MAX-clause-stands : goal.returns-then-len-ge-ZONES_MAX-clause-stands
returns-then-len-ge-ZONES_MAX-clause-stands g c = λ S reached stands sound.
    let u = c.unbegun in
    let apart = stands in
    stands-none S c.whole.result u.result.machine u.result.entries u.ensures.entries u.ensures.machine ((c.whole.ensures.stands S).0 apart)

pub returns-then-len-ge-ZONES_MAX-clause-sound : goal.returns-then-len-ge-ZONES_MAX-clause-sound
returns-then-len-ge-ZONES_MAX-clause-sound g c =
    let u = c.unbegun in
    none-failed u.result.machine.bank.sound u.result.ended u.ensures.ended (ap (λ m. m.bank.sound) u.ensures.machine ∙ (ap (λ b. b.sound) c.whole.ensures.bank ∙ c.requires.ready.sound))

pub returns-then-len-ge-ZONES_MAX-clause-brands : goal.returns-then-len-ge-ZONES_MAX-clause-brands
returns-then-len-ge-ZONES_MAX-clause-brands g c = ap (λ m. m.brands) c.unbegun.ensures.machine ∙ c.whole.ensures.brands

pub returns-then-len-ge-ZONES_MAX-clause-only : goal.returns-then-len-ge-ZONES_MAX-clause-only
returns-then-len-ge-ZONES_MAX-clause-only g c = only-memory c.unbegun.result.ended c.unbegun.ensures.ended

pub returns-then-len-ge-ZONES_MAX-clause-disk : goal.returns-then-len-ge-ZONES_MAX-clause-disk
returns-then-len-ge-ZONES_MAX-clause-disk g c = λ is. absurd (memory-other (sym c.unbegun.ensures.ended ∙ is))

pub returns-then-len-ge-ZONES_MAX-clause-passes : goal.returns-then-len-ge-ZONES_MAX-clause-passes
returns-then-len-ge-ZONES_MAX-clause-passes g c = passes-same g.D.Disk.view c.args.parted.bank.disk c.unbegun.result.machine.bank.disk (ap (λ m. m.bank.disk) c.unbegun.ensures.machine ∙ ap (λ b. b.disk) c.whole.ensures.bank)

pub run_picked-requires-clause-set : goal.run_picked-requires-clause-set
run_picked-requires-clause-set g c κs within =
    let es = c.args.parted.cells.entries in
    let zones = c.in-Ok.dealt.zones.items in
    let differ : all_differ zones ≡ true = ap all_differ c.in-Ok.ensures.dealt.zones ∙ differ-all (names_of es) c.deal.ensures.unique in
    let named : length zones ≡ length (names_of es) = ap length c.in-Ok.ensures.dealt.zones in
    let names = map-length (λ (e : Name × Cell). e.0) es in
    record { zones_are = sym (if-differ zones differ); brands_are = refl; follow = c.requires.asks.0; few = omega (arith, named, names) }

pub run_picked-requires-clause-disk : goal.run_picked-requires-clause-disk
run_picked-requires-clause-disk g c κs within = λ s from.
    let p = c.args.parted in
    disk-begun g.D.Disk.view (if_all_differ c.in-Ok.dealt.zones.items) (tables_of p.brands.now) c.in-Ok.dealt p.shared p.bank s from c.disk_is_sound.ensures c.requires.ready

pub run_picked-requires-clause-places : goal.run_picked-requires-clause-places
run_picked-requires-clause-places g c κs within =
    let es = c.args.parted.cells.entries in
    dealt-places es c.in-Ok.dealt c.in-Ok.ensures.dealt (ap all_differ c.in-Ok.ensures.dealt.zones ∙ differ-all (names_of es) c.deal.ensures.unique)

pub run_picked-requires-clause-few : goal.run_picked-requires-clause-few
run_picked-requires-clause-few g c κs within =
    let es = c.args.parted.cells.entries in
    let count : length c.in-Ok.dealt.cells.items ≡ suc (length (map place_cell es)) = ap length c.in-Ok.ensures.dealt.cells in
    let each = map-length place_cell es in
    omega (arith, count, each)

pub run_picked-requires-clause-others : goal.run_picked-requires-clause-others
run_picked-requires-clause-others g c κs within = none-other c.args.scripts.now

pub run_picked-requires-clause-short : goal.run_picked-requires-clause-short
run_picked-requires-clause-short g c κs within = are-short c.args.scripts.now

pub run_picked-requires-clause-none : goal.run_picked-requires-clause-none
run_picked-requires-clause-none g c κs within = no-lines c.args.scripts.now c.requires.scripts

pub returns-in-Ok-clause-lives : goal.returns-in-Ok-clause-lives
returns-in-Ok-clause-lives g c = λ S reached stands.
    let p = c.args.parted in
    let brands = tables_of p.brands.now in
    let live = c.run_picked.result in
    let same : S.brands ≡ brands = ap (λ k. k.brands) stands.shared ∙ c.requires.asks.1 in
    let differ : all_differ (names_of p.cells.entries) ≡ true = differ-all (names_of p.cells.entries) c.deal.ensures.unique in
    subst (λ (T : State). Lives live.ended T (script_lines c.args.scripts.now) live.entries (g.D.Disk.view p.bank.disk) (g.D.Disk.view live.machine.bank.disk)) (past-is S reached brands same)
    (c.run_picked.ensures.lives (past-of S reached) (begun-from S p c.in-Ok.dealt brands reached c.in-Ok.ensures.dealt differ stands same))

pub returns-in-Ok-clause-stands : goal.returns-in-Ok-clause-stands
returns-in-Ok-clause-stands g c = λ S reached stands sound.
    let p = c.args.parted in
    let brands = tables_of p.brands.now in
    let live = c.run_picked.result in
    let same : S.brands ≡ brands = ap (λ k. k.brands) stands.shared ∙ c.requires.asks.1 in
    let differ : all_differ (names_of p.cells.entries) ≡ true = differ-all (names_of p.cells.entries) c.deal.ensures.unique in
    subst (λ (T : State). StandsFor (after T live.entries) live.machine) (past-is S reached brands same)
    (c.run_picked.ensures.stands (past-of S reached) (begun-from S p c.in-Ok.dealt brands reached c.in-Ok.ensures.dealt differ stands same) sound)

pub returns-in-Err-clause-lives : goal.returns-in-Err-clause-lives
returns-in-Err-clause-lives g c = λ S reached stands.
    let p = c.args.parted in
    let u = c.unbegun-in-Err in
    lives-unbegun g.D.Disk.view S (script_lines c.args.scripts.now) u.result.ended u.result.entries p.bank.disk u.result.machine.bank.disk u.ensures.ended u.ensures.entries
    (ap (λ m. m.bank.disk) u.ensures.machine ∙ ap (λ b. b.disk) c.whole-in-Err.ensures.bank) c.disk_is_sound.ensures (λ keeps. ready-holds S p.bank p.shared (g.D.Disk.view p.bank.disk) stands.bodies stands.shared c.requires.ready keeps)

pub returns-in-Err-clause-stands : goal.returns-in-Err-clause-stands
returns-in-Err-clause-stands g c = λ S reached stands sound.
    let u = c.unbegun-in-Err in
    let p = c.args.parted in
    let apart = subst (λ k. StandApart S (record { cells = k; shared = p.shared; bank = p.bank; brands = p.brands })) (sym c.in-Err.ensures.err) stands in
    stands-none S c.whole-in-Err.result u.result.machine u.result.entries u.ensures.entries u.ensures.machine ((c.whole-in-Err.ensures.stands S).0 apart)

pub returns-in-Err-clause-passes : goal.returns-in-Err-clause-passes
returns-in-Err-clause-passes g c = passes-same g.D.Disk.view c.args.parted.bank.disk c.unbegun-in-Err.result.machine.bank.disk (ap (λ m. m.bank.disk) c.unbegun-in-Err.ensures.machine ∙ ap (λ b. b.disk) c.whole-in-Err.ensures.bank)

pub returns-then-len-ge-ZONES_MAX-clause-asks : goal.returns-then-len-ge-ZONES_MAX-clause-asks
returns-then-len-ge-ZONES_MAX-clause-asks g c =
    let brands = ap (λ m. m.brands) c.unbegun.ensures.machine ∙ c.whole.ensures.brands in (
      subst (λ b. AllFollow g.F.Fn b.now) (sym brands) c.requires.asks.0,
      ap (λ m. m.parts.shared.brands) c.unbegun.ensures.machine ∙ (ap (λ s. s.brands) c.whole.ensures.shared ∙ (c.requires.asks.1 ∙ ap (λ b. tables_of b.now) (sym brands))),
    )

pub returns-in-Err-clause-asks : goal.returns-in-Err-clause-asks
returns-in-Err-clause-asks g c =
    let brands = ap (λ m. m.brands) c.unbegun-in-Err.ensures.machine ∙ c.whole-in-Err.ensures.brands in (
      subst (λ b. AllFollow g.F.Fn b.now) (sym brands) c.requires.asks.0,
      ap (λ m. m.parts.shared.brands) c.unbegun-in-Err.ensures.machine ∙ (ap (λ s. s.brands) c.whole-in-Err.ensures.shared ∙ (c.requires.asks.1 ∙ ap (λ b. tables_of b.now) (sym brands))),
    )
