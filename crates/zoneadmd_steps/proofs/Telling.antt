-- What a turn tells where nothing goes as the last.
use Rattle.std.proofs.Common.{◌≡◌, false, refl}
use Rattle.std.proofs.lemmas.Bool.{true≢false}
use Rattle.zoneadmd_steps.specs.Code.Cases.{is_last}
use Rattle.zoneadmd_steps.specs.Code.Works.{gone_by, with_gone}
use Rattle.zoneadmd_steps.specs.declared.objects.changes.ObjectEdit.{ObjectEdit}
use Rattle.zoneadmd_steps.specs.declared.objects.changes.ObjectEdit.TheVariants.{ReleaseLast, UnmountLast}
use Rattle.zoneadmd_steps.specs.declared.requests.TurnReply.{TurnReply}

pub told_as_is : (e : ObjectEdit) (r : TurnReply) → is_last e ≡ false → with_gone (gone_by e) r ≡ r
told_as_is (UnmountLast dir) r h = absurd (true≢false h)
told_as_is (ReleaseLast claim) r h = absurd (true≢false h)
told_as_is _ r h = refl
