-- A session that is nobody's or the zone's.
use Rattle.std.proofs.Common.{ℕ, Option, Some, None, IfSome}
use Rattle.zn_base.specs.Names.{Name}
use Rattle.zone_machine.specs.Code.Rooms.{IsOpenTo}

-- it stays so, whichever the event's session is
pub opens_if : (z : Name) (n : Option ℕ) (old new : ℕ → Option Name) → ((k : ℕ) → IsOpenTo z (old k) → IsOpenTo z (new k)) → IfSome n (λ k. IsOpenTo z (old k)) → IfSome n (λ k. IsOpenTo z (new k))
opens_if z None old new stays h = tt
opens_if z (Some k) old new stays h = stays k h
