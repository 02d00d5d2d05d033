use Rattle.std.proofs.Common.{◌≡◌, ◌+◌, ap, length, subst, sym, ◌∙◌}
use Rattle.std.specs.Prelude.{is_some, true}
use Rattle.brand_hooks.specs.Brands.{tables_of}
use Rattle.brand_hooks.specs.Hooks.{AllFollow}
use Rattle.zone_machine.specs.Code.Openings.{StandsFor}
use Rattle.zone_machine.specs.Code.Records.{Passes}
use Rattle.zone_machine.specs.Machine.Histories.{after}
use Rattle.zn_io.specs.Streams.{Rose}
use Rattle.zone_threads.specs.Ends.{AreAll}
use Rattle.daemon_threads.proofs.Beginning.{after-entries, before-entries, disk-unsound, ended-if, fails-by, lives-as, lives-listed, lives-none, memory-other, none-failed, stands-begun, stands-none}
use Rattle.daemon_threads.specs.Begun.{ended_by}
use Rattle.daemon_threads.specs.Definitions.{state_of}
use Rattle.daemon_threads.specs.Gathering.{StandTogether, put_all}
use Rattle.daemon_threads.specs.Parts.{Stands, commons}
use Rattle.daemon_threads.proofs.sessions.run_picked.Goals as goal

pub run_scripts-requires-clause-shared : goal.run_scripts-requires-clause-shared
run_scripts-requires-clause-shared g c κs within = λ s from.
    subst (λ m. Stands g.D.Disk.view g.N.Names.view s.stored m (commons (state_of g.N.Names.brands s))) (sym c.new-part.ensures)
    (stands-begun g.D.Disk.view g.N.Names.view g.N.Names.zones g.N.Names.brands c.args.dealt c.args.shared c.args.bank s (c.requires.begun s from) c.requires.sound (c.requires.disk s from))

pub returns-in-Ok-clause-lives : goal.returns-in-Ok-clause-lives
returns-in-Ok-clause-lives g c = λ s from.
    let lived = c.in-Ok.lived in
    let live = c.listed.result in
    lives-as g.D.Disk.view (state_of g.N.Names.brands s) g.N.Names.lines g.N.Names.view live.ended (ended_by lived.shared.bank.sound (is_some lived.ended)) live.entries lived.entries live.machine.bank.disk lived.shared.bank.disk
    c.listed.ensures.ended c.listed.ensures.entries (ap (λ b. b.disk) c.listed.ensures.bank)
    (lives-listed g.D.Disk.view g.N.Names.view g.N.Names.zones g.N.Names.brands g.N.Names.lines c.requires.none.0 c.requires.none.1 s (c.requires.begun s from).stored lived.entries lived.shared lived.ended
    (c.in-Ok.ensures.partial s from) (c.in-Ok.ensures.record s from) (c.in-Ok.ensures.shared s from))

pub returns-in-Ok-clause-stands : goal.returns-in-Ok-clause-stands
returns-in-Ok-clause-stands g c = λ s from sound.
    let lived = c.in-Ok.lived in
    let live = c.listed.result in
    let S = state_of g.N.Names.brands s in
    let all : AreAll (length g.N.Names.zones + 1) lived.cells.items = subst (λ n. AreAll n lived.cells.items) c.requires.places c.in-Ok.ensures.there in
    let usable : lived.shared.bank.sound ≡ true = ap (λ b. b.sound) (sym c.listed.ensures.bank) ∙ sound in
    subst (λ h. StandsFor (after S h) live.machine) (sym c.listed.ensures.entries)
    (c.listed.ensures.stands (after S lived.entries)
    (after-entries g.D.Disk.view g.N.Names.view g.N.Names.zones g.N.Names.brands c.args.dealt c.args.shared c.args.bank s (c.requires.begun s from) lived.entries lived.shared lived.cells.items all (c.in-Ok.ensures.sound usable) usable
    (c.in-Ok.ensures.partial s from).legal (c.in-Ok.ensures.cells s from) (c.in-Ok.ensures.shared s from)))

pub returns-in-Ok-clause-sound : goal.returns-in-Ok-clause-sound
returns-in-Ok-clause-sound g c = fails-by c.listed.result.machine.bank.sound c.in-Ok.lived.shared.bank.sound (is_some c.in-Ok.lived.ended) c.listed.result.ended c.listed.ensures.ended (ap (λ b. b.sound) c.listed.ensures.bank)

pub returns-in-Ok-clause-only : goal.returns-in-Ok-clause-only
returns-in-Ok-clause-only g c = ended-if c.in-Ok.lived.shared.bank.sound (is_some c.in-Ok.lived.ended) c.listed.result.ended c.listed.ensures.ended

pub returns-in-Ok-clause-disk : goal.returns-in-Ok-clause-disk
returns-in-Ok-clause-disk g c = λ is.
    subst (λ b. Rose g.N.Names.view.faults (g.D.Disk.view b.disk).faults) (sym c.listed.ensures.bank)
    (c.listed.ensures.rose (disk-unsound c.in-Ok.lived.shared.bank.sound (is_some c.in-Ok.lived.ended) (sym c.listed.ensures.ended ∙ is)))

pub returns-in-Ok-clause-passes : goal.returns-in-Ok-clause-passes
returns-in-Ok-clause-passes g c = subst (λ b. Passes g.N.Names.view (g.D.Disk.view b.disk)) (sym c.listed.ensures.bank) c.listed.ensures.passes

pub returns-clause-lives : goal.returns-clause-lives
returns-clause-lives g c = λ s from.
    let u = c.unlisted in
    let same : u.result.machine.bank ≡ c.args.bank = u.ensures.bank ∙ ap (λ m. m.bank) (c.in-Err.ensures.memory.0 ∙ c.new-part.ensures) in
    lives-none g.D.Disk.view (state_of g.N.Names.brands s) g.N.Names.lines g.N.Names.view s.stored u.result.ended u.result.entries c.args.bank.disk u.result.machine.bank.disk u.ensures.ended u.ensures.entries (ap (λ b. b.disk) same)
    (c.requires.begun s from).stored (c.requires.disk s from)

pub returns-clause-stands : goal.returns-clause-stands
returns-clause-stands g c = λ s from sound.
    let u = c.unlisted in
    let S = state_of g.N.Names.brands s in
    let kept = c.in-Err.kept in
    let part : kept.0 ≡ record { shared = c.args.shared; shown = c.args.dealt.shown; bank = c.args.bank } = c.in-Err.ensures.memory.0 ∙ c.new-part.ensures in
    let before = before-entries g.D.Disk.view g.N.Names.view g.N.Names.zones g.N.Names.brands c.args.dealt c.args.shared c.args.bank s (c.requires.begun s from) c.requires.places in
    let together : StandTogether S (put_all kept.1.items) kept.0.shared kept.0.bank.records = subst (λ (T : Type 0). T) (λ i. StandTogether S (put_all (sym c.in-Err.ensures.memory.1 i)) (sym part i).shared (sym part i).bank.records) before in
    stands-none S u.result.machine u.result.machine u.result.entries u.ensures.entries (λ i. u.result.machine) (u.ensures.stands S together)

pub returns-clause-sound : goal.returns-clause-sound
returns-clause-sound g c =
    let u = c.unlisted in
    let same : u.result.machine.bank ≡ c.args.bank = u.ensures.bank ∙ ap (λ m. m.bank) (c.in-Err.ensures.memory.0 ∙ c.new-part.ensures) in
    none-failed u.result.machine.bank.sound u.result.ended u.ensures.ended (ap (λ b. b.sound) same ∙ c.requires.sound)

pub returns-clause-disk : goal.returns-clause-disk
returns-clause-disk g c = λ is. absurd (memory-other (sym c.unlisted.ensures.ended ∙ is))

pub returns-clause-passes : goal.returns-clause-passes
returns-clause-passes g c = subst (λ b. Passes g.N.Names.view (g.D.Disk.view b.disk)) (sym c.unlisted.ensures.bank) c.unlisted.ensures.passes

pub returns-in-Ok-clause-asks : goal.returns-in-Ok-clause-asks
returns-in-Ok-clause-asks g c = (subst (λ b. AllFollow g.F.Fn b.now) (sym c.listed.ensures.brands) c.requires.set.follow, c.listed.ensures.usable.brands_are ∙ sym c.requires.set.brands_are ∙ ap (λ b. tables_of b.now) (sym c.listed.ensures.brands))

pub returns-clause-asks : goal.returns-clause-asks
returns-clause-asks g c = (subst (λ b. AllFollow g.F.Fn b.now) (sym c.unlisted.ensures.brands) c.requires.set.follow, c.unlisted.ensures.usable.brands_are ∙ sym c.requires.set.brands_are ∙ ap (λ b. tables_of b.now) (sym c.unlisted.ensures.brands))
