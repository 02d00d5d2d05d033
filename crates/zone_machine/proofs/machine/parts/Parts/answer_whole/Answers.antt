use Rattle.zone_machine.proofs.Stepping.{never_other}
use Rattle.zone_machine.proofs.machine.parts.Parts.answer_whole.Goals as goal

pub unreachable-requires : goal.unreachable-requires
unreachable-requires c = never_other c.args.self.now.shared c.args.event.now c.requires.of c.requires.stays c.in_default.not-System
