use Rattle.std.proofs.Common.{◌≡◌, ap, rules, subst, sym, ◌∙◌}
use Rattle.brand_hooks.specs.Brands.{tables_of}
use Rattle.brand_hooks.specs.Hooks.{AllFollow}
use Rattle.session_runs.specs.Far.{scripts_of}
use Rattle.zn_io.specs.Disk.{IsSound}
use Rattle.daemon_threads.proofs.Beginning.{are-moved, lives-moved, lives-unbegun, memory-other, none-failed, only-memory, stands-none}
use Rattle.daemon_threads.proofs.Disks.{ready-holds}
use Rattle.daemon_threads.proofs.Leaving.{passes-same}
use Rattle.daemon_threads.proofs.sessions.run_sessions.Goals as goal

pub returns-then-is_err-clause-lives : goal.returns-then-is_err-clause-lives
returns-then-is_err-clause-lives g c = λ S reached stands.
    let m = c.args.machine in
    let u = c.unbegun in
    let same = c.name_all.ensures.same in
    lives-unbegun g.D.Disk.view S (scripts_of c.args.scripts.items) u.result.ended u.result.entries m.bank.disk u.result.machine.bank.disk u.ensures.ended u.ensures.entries
    (ap (λ n. n.bank.disk) u.ensures.machine ∙ ap (λ b. b.disk) same.bank) (subst (λ b. IsSound (g.D.Disk.view b.disk)) same.bank u.ensures.sound)
    (λ keeps. ready-holds S m.bank m.parts.shared (g.D.Disk.view m.bank.disk) stands.bodies stands.parts.shared c.requires.ready keeps)

pub returns-then-is_err-clause-stands : goal.returns-then-is_err-clause-stands
returns-then-is_err-clause-stands g c = λ S reached stands sound.
    let u = c.unbegun in
    let same = c.name_all.ensures.same in
    stands-none S c.name_all.new.machine u.result.machine u.result.entries u.ensures.entries u.ensures.machine (record { parts = (same.parts S).0 stands.parts; bodies = stands.bodies ∙ ap (λ b. b.records) (sym same.bank) })

pub returns-then-is_err-clause-sound : goal.returns-then-is_err-clause-sound
returns-then-is_err-clause-sound g c =
    let u = c.unbegun in
    none-failed u.result.machine.bank.sound u.result.ended u.ensures.ended (ap (λ n. n.bank.sound) u.ensures.machine ∙ (ap (λ b. b.sound) c.name_all.ensures.same.bank ∙ c.requires.ready.sound))

pub returns-then-is_err-clause-brands : goal.returns-then-is_err-clause-brands
returns-then-is_err-clause-brands g c = ap (λ n. n.brands) c.unbegun.ensures.machine ∙ c.name_all.ensures.same.brands

pub returns-then-is_err-clause-only : goal.returns-then-is_err-clause-only
returns-then-is_err-clause-only g c = only-memory c.unbegun.result.ended c.unbegun.ensures.ended

pub returns-then-is_err-clause-disk : goal.returns-then-is_err-clause-disk
returns-then-is_err-clause-disk g c = λ is. absurd (memory-other (sym c.unbegun.ensures.ended ∙ is))

pub returns-then-is_err-clause-passes : goal.returns-then-is_err-clause-passes
returns-then-is_err-clause-passes g c = passes-same g.D.Disk.view c.args.machine.bank.disk c.unbegun.result.machine.bank.disk (ap (λ n. n.bank.disk) c.unbegun.ensures.machine ∙ ap (λ b. b.disk) c.name_all.ensures.same.bank)

pub returns-in_default-clause-lives : goal.returns-in_default-clause-lives
returns-in_default-clause-lives g c = λ S reached stands.
    let m = c.args.machine in
    let u = c.unbegun-in_default in
    let same = c.name_all.ensures.same in
    lives-unbegun g.D.Disk.view S (scripts_of c.args.scripts.items) u.result.ended u.result.entries m.bank.disk u.result.machine.bank.disk u.ensures.ended u.ensures.entries
    (ap (λ n. n.bank.disk) u.ensures.machine ∙ ap (λ b. b.disk) same.bank) (subst (λ b. IsSound (g.D.Disk.view b.disk)) same.bank u.ensures.sound)
    (λ keeps. ready-holds S m.bank m.parts.shared (g.D.Disk.view m.bank.disk) stands.bodies stands.parts.shared c.requires.ready keeps)

pub returns-in_default-clause-stands : goal.returns-in_default-clause-stands
returns-in_default-clause-stands g c = λ S reached stands sound.
    let u = c.unbegun-in_default in
    let same = c.name_all.ensures.same in
    stands-none S c.name_all.new.machine u.result.machine u.result.entries u.ensures.entries u.ensures.machine (record { parts = (same.parts S).0 stands.parts; bodies = stands.bodies ∙ ap (λ b. b.records) (sym same.bank) })

pub returns-in_default-clause-sound : goal.returns-in_default-clause-sound
returns-in_default-clause-sound g c =
    let u = c.unbegun-in_default in
    none-failed u.result.machine.bank.sound u.result.ended u.ensures.ended (ap (λ n. n.bank.sound) u.ensures.machine ∙ (ap (λ b. b.sound) c.name_all.ensures.same.bank ∙ c.requires.ready.sound))

pub returns-in_default-clause-brands : goal.returns-in_default-clause-brands
returns-in_default-clause-brands g c = ap (λ n. n.brands) c.unbegun-in_default.ensures.machine ∙ c.name_all.ensures.same.brands

pub returns-in_default-clause-only : goal.returns-in_default-clause-only
returns-in_default-clause-only g c = only-memory c.unbegun-in_default.result.ended c.unbegun-in_default.ensures.ended

pub returns-in_default-clause-disk : goal.returns-in_default-clause-disk
returns-in_default-clause-disk g c = λ is. absurd (memory-other (sym c.unbegun-in_default.ensures.ended ∙ is))

pub returns-in_default-clause-passes : goal.returns-in_default-clause-passes
returns-in_default-clause-passes g c = passes-same g.D.Disk.view c.args.machine.bank.disk c.unbegun-in_default.result.machine.bank.disk (ap (λ n. n.bank.disk) c.unbegun-in_default.ensures.machine ∙ ap (λ b. b.disk) c.name_all.ensures.same.bank)

pub run_apart-requires-clause-asks : goal.run_apart-requires-clause-asks
run_apart-requires-clause-asks g c κs within =
    let same = c.name_all.ensures.same in
    let brands : c.part.result.brands ≡ c.args.machine.brands = c.part.ensures.brands ∙ same.brands in (
      subst (λ b. AllFollow g.F.Fn b.now) (sym brands) c.requires.asks.0,
      ap (λ s. s.brands) (c.part.ensures.shared ∙ same.shared) ∙ (c.requires.asks.1 ∙ ap (λ b. tables_of b.now) (sym brands)),
    )

pub run_apart-requires-clause-scripts : goal.run_apart-requires-clause-scripts
run_apart-requires-clause-scripts g c κs within = are-moved c.args.scripts.items _ c.requires.differ c.requires.sessions (search rules)

pub returns-clause-lives : goal.returns-clause-lives
returns-clause-lives g c = λ S reached stands.
    let same = c.name_all.ensures.same in
    let apart = (c.part.ensures.stands S).0 (record { parts = (same.parts S).0 stands.parts; bodies = stands.bodies ∙ ap (λ b. b.records) (sym same.bank) }) in
    lives-moved g.D.Disk.view S c.args.scripts.items _ c.run_apart.result.ended c.run_apart.result.entries c.args.machine.bank.disk c.part.result.bank.disk c.run_apart.result.machine.bank.disk (search rules) (ap (λ b. b.disk) (c.part.ensures.bank ∙ same.bank))
    (c.run_apart.ensures.lives S reached apart)

pub returns-clause-stands : goal.returns-clause-stands
returns-clause-stands g c = λ S reached stands sound.
    let same = c.name_all.ensures.same in
    let apart = (c.part.ensures.stands S).0 (record { parts = (same.parts S).0 stands.parts; bodies = stands.bodies ∙ ap (λ b. b.records) (sym same.bank) }) in
    c.run_apart.ensures.stands S reached apart sound

pub returns-clause-brands : goal.returns-clause-brands
returns-clause-brands g c = c.run_apart.ensures.brands ∙ (c.part.ensures.brands ∙ c.name_all.ensures.same.brands)

pub returns-then-is_err-clause-asks : goal.returns-then-is_err-clause-asks
returns-then-is_err-clause-asks g c =
    let brands = ap (λ m. m.brands) c.unbegun.ensures.machine ∙ c.name_all.ensures.same.brands in (
      subst (λ b. AllFollow g.F.Fn b.now) (sym brands) c.requires.asks.0,
      ap (λ m. m.parts.shared.brands) c.unbegun.ensures.machine ∙ (ap (λ s. s.brands) c.name_all.ensures.same.shared ∙ (c.requires.asks.1 ∙ ap (λ b. tables_of b.now) (sym brands))),
    )

pub returns-in_default-clause-asks : goal.returns-in_default-clause-asks
returns-in_default-clause-asks g c =
    let brands = ap (λ m. m.brands) c.unbegun-in_default.ensures.machine ∙ c.name_all.ensures.same.brands in (
      subst (λ b. AllFollow g.F.Fn b.now) (sym brands) c.requires.asks.0,
      ap (λ m. m.parts.shared.brands) c.unbegun-in_default.ensures.machine ∙ (ap (λ s. s.brands) c.name_all.ensures.same.shared ∙ (c.requires.asks.1 ∙ ap (λ b. tables_of b.now) (sym brands))),
    )
