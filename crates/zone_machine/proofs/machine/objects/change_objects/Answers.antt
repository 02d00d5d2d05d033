use Rattle.zone_machine.proofs.machine.objects.change_objects.Goals as goal

pub returns-in-UnmountLast-clause-does : goal.returns-in-UnmountLast-clause-does
returns-in-UnmountLast-clause-does c = λ z n. rw c.in-UnmountLast.is (c.unmount_last.ensures.does z n c.args.shared.now)

pub returns-in-ReleaseLast-clause-does : goal.returns-in-ReleaseLast-clause-does
returns-in-ReleaseLast-clause-does c = λ z n. rw c.in-ReleaseLast.is (c.release_last.ensures.does z n)
