use Rattle.std.proofs.Common.{◌∙◌, ap}
use Rattle.config_terms.specs.Fields.{path_text}
use Rattle.zone_config.specs.declared.terms.Contents.{Contents}
use Rattle.zone_machine.proofs.Sizes.{record-moved}
use Rattle.zone_machine.proofs.machine.needs.moved_need.Goals as goal

pub returns : goal.returns
returns c = record-moved c.record_length.result c.record-stored.result.now c.args.row.now c.record-stored.ensures.same c.record_length.ensures.same c.shown.result.now (c.shown.ensures.text ∙ ap (λ (k : Contents). path_text k.zonepath) (c.deref-2.ensures ∙ c.deref.ensures))
