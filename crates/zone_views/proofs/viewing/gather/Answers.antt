use Rattle.std.proofs.Common.{◌∙◌, ◌++◌, ap, map}
use Rattle.zone_cases.specs.State.Worlds.{World, world}
use Rattle.zone_machine.specs.Machine.Told as told
use Rattle.zone_views.proofs.Views.{six_parts}
use Rattle.zone_views.specs.Naming.{Device, object}
use Rattle.zone_views.specs.Viewing.{console_told, id_told, mounts_told, processes_told}
use Rattle.zone_views.proofs.viewing.gather.Goals as goal

pub returns-clause-ok : goal.returns-clause-ok
returns-clause-ok g c = λ S h.
    let z = c.args.zone.now in
    let w : World = world z S in
    let first = c.in_ok-push_processes.ensures ∙ (ap (λ l. l ++ processes_told z c.deref.result.now) c.new-objects.ensures.items ∙ ap (processes_told z) (c.deref.ensures.value ∙ c.in_ok-rows.ensures.ok S h)) in
    six_parts (processes_told z (told.processes w)) (mounts_told z (told.mounts w)) _ (map (object z Device) (told.devices w)) (id_told z (told.zid_of w)) (console_told z (told.console_in_use w))
    (c.in_ok-push_mounts.ensures ∙ (ap (λ l. l ++ mounts_told z c.deref-2.result.now) first
    ∙ ap (λ l. processes_told z (told.processes w) ++ mounts_told z l) (c.deref-2.ensures.value ∙ c.in_ok-mounts.ensures.ok S h)))
    (c.in_ok-push_claims.ensures.ok S h)
    (c.in_ok-push_devices.ensures ∙ ap (λ l. c.push_claims.new.objects.items ++ map (object z Device) l) (c.deref-3.ensures.value ∙ c.in_ok-devices.ensures.ok S h))
    (c.in_ok-push_id.ensures ∙ ap (λ o. c.push_devices.new.objects.items ++ id_told z o) (c.zid_of.ensures S h))
    (c.in_ok-push_console.ensures ∙ ap (λ b. c.push_id.new.objects.items ++ console_told z b) (c.console_in_use.ensures S h))
