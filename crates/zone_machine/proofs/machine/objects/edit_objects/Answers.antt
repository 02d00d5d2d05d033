use Rattle.zone_machine.proofs.machine.objects.edit_objects.Goals as goal

pub returns-in-EndProcesses-clause-does : goal.returns-in-EndProcesses-clause-does
returns-in-EndProcesses-clause-does c = λ z n. rw c.in-EndProcesses.is (c.end_processes.ensures.does z n)

pub returns-in-EndIds-clause-does : goal.returns-in-EndIds-clause-does
returns-in-EndIds-clause-does c = λ z n. rw c.in-EndIds.is (c.end_ids.ensures.does z n)

pub returns-in-EndClaim-clause-does : goal.returns-in-EndClaim-clause-does
returns-in-EndClaim-clause-does c = λ z n. rw c.in-EndClaim.is (c.end_claim.ensures.does z n)

pub returns-in-EndProcess-clause-does : goal.returns-in-EndProcess-clause-does
returns-in-EndProcess-clause-does c = λ z n. rw c.in-EndProcess.is (c.end_process.ensures.does z n)

pub returns-in-Rename-clause-does : goal.returns-in-Rename-clause-does
returns-in-Rename-clause-does c = λ z n. rw c.in-Rename.is (c.rename.ensures.does z n c.args.shared.now)

pub returns-in-GiveUp-clause-does : goal.returns-in-GiveUp-clause-does
returns-in-GiveUp-clause-does c = λ z n. rw c.in-GiveUp.is (c.give_up.ensures.does z n c.args.shared.now)

pub returns-in-Mount-clause-does : goal.returns-in-Mount-clause-does
returns-in-Mount-clause-does c = λ z n. rw c.in-Mount.is (c.mount_at.ensures.does z n c.args.shared.now)

pub returns-in-Unmount-clause-does : goal.returns-in-Unmount-clause-does
returns-in-Unmount-clause-does c = λ z n. rw c.in-Unmount.is (c.unmount.ensures.does z n c.args.shared.now)

pub returns-in-Hold-clause-does : goal.returns-in-Hold-clause-does
returns-in-Hold-clause-does c = λ z n. rw c.in-Hold.is (c.hold.ensures.does z n c.args.shared.now)

pub returns-in-Release-clause-does : goal.returns-in-Release-clause-does
returns-in-Release-clause-does c = λ z n. rw c.in-Release.is (c.release.ensures.does z n c.args.shared.now)

pub returns-in-SetDevices-clause-does : goal.returns-in-SetDevices-clause-does
returns-in-SetDevices-clause-does c = λ z n. rw c.in-SetDevices.is (c.set_devices.ensures.does z n c.args.shared.now)

pub returns-in-DropDevices-clause-does : goal.returns-in-DropDevices-clause-does
returns-in-DropDevices-clause-does c = λ z n. rw c.in-DropDevices.is (c.drop_devices.ensures.does z n c.args.shared.now)

pub returns-in-SetLimits-clause-does : goal.returns-in-SetLimits-clause-does
returns-in-SetLimits-clause-does c = λ z n. rw c.in-SetLimits.is (c.set_limits.ensures.does z n c.args.shared.now)

pub returns-in-SetBootargs-clause-does : goal.returns-in-SetBootargs-clause-does
returns-in-SetBootargs-clause-does c = λ z n. rw c.in-SetBootargs.is (c.set_bootargs.ensures.does z n c.args.shared.now)

pub returns-in-ClearLimits-clause-does : goal.returns-in-ClearLimits-clause-does
returns-in-ClearLimits-clause-does c = λ z n. rw c.in-ClearLimits.is (c.clear_limits.ensures.does z n c.args.shared.now)

pub returns-in-Clear-clause-does : goal.returns-in-Clear-clause-does
returns-in-Clear-clause-does c = λ z n. rw c.in-Clear.is (c.clear.ensures.does z n c.args.shared.now)
