use Rattle.std.proofs.Common.{◌∙◌, ap}
use Rattle.config_terms.specs.Fields.{path_text}
use Rattle.zone_config.specs.declared.terms.Contents.{Contents}
use Rattle.zone_machine.proofs.Sizes.{record-made, record-moved, record-numbered}
use Rattle.zone_machine.proofs.machine.needs.commit_need.Goals as goal

pub returns-in-Zone : goal.returns-in-Zone
returns-in-Zone c =
    rw c.in-Zone.is
    (record-made c.record_length-size.result c.record-stored.result.now c.args.committed.now.row.value (c.record-stored.ensures.same ∙ c.deref.ensures) c.record_length-size.ensures.same
    c.shown-path.result.now (c.shown-path.ensures.text ∙ ap (λ (k : Contents). path_text k.zonepath) (c.deref-3.ensures ∙ c.deref-2.ensures)) c.args.committed.now.owner)

pub returns-in-Path : goal.returns-in-Path
returns-in-Path c =
    rw c.in-Path.is
    (record-moved c.record_length-size.result c.record-stored.result.now c.args.committed.now.row.value (c.record-stored.ensures.same ∙ c.deref.ensures) c.record_length-size.ensures.same
    c.shown-path.result.now (c.shown-path.ensures.text ∙ ap (λ (k : Contents). path_text k.zonepath) (c.deref-3.ensures ∙ c.deref-2.ensures)))

pub returns-in-Nothing : goal.returns-in-Nothing
returns-in-Nothing c =
    rw c.in-Nothing.is
    (record-numbered c.record_length-size.result c.record-stored.result.now c.args.committed.now.row.value (c.record-stored.ensures.same ∙ c.deref.ensures) c.record_length-size.ensures.same)
