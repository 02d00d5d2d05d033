use Rattle.std.proofs.Common.{◌≡◌, None, Some, false, sym}
use Rattle.config_terms.specs.declared.terms.Resource.TheVariants as resource
use Rattle.config_terms.specs.Numbers.{number_of}
use Rattle.zone_config.specs.Edits.{alias_rctl, alias_set, is_held, place_of}
use Rattle.zone_config.specs.Resources.{with_resource}
use Rattle.zone_config.proofs.Aliases.{free_but, rctl_fits, set_anew}
use Rattle.zone_config.proofs.config.ZoneConfig.set_alias.Goals as goal

pub put_in_place-requires-clause-allowed : goal.put_in_place-requires-clause-allowed
put_in_place-requires-clause-allowed c = rw c.in_ok-rctl.ensures (rctl_fits c.args.alias _ _ (sym c.in-Some.ensures))

pub put_in_place-requires-clause-free : goal.put_in_place-requires-clause-free
put_in_place-requires-clause-free c =
    let place : place_of c.args.alias c.self.inside.contents.rctl ≡ Some c.in-Some-place.place = rw (← c.as_slice-2.ensures.items) (sym c.in-Some-place.ensures) in
    rw (c.in_ok-rctl.ensures, ← c.self.view_is) (free_but c.args.alias c.in-Some.limit _ _ _ c.self.invariant place)

pub returns-in-None : goal.returns-in-None
returns-in-None c =
    let old = c.self.inside.contents in
    let number : number_of c.args.value.now ≡ Some c.in-Some.limit = rw (← c.bytes.ensures.bytes) (sym c.in-Some.ensures) in
    let held : is_held c.args.alias old.rctl ≡ false = rw (← c.as_slice.ensures.items, ← c.is_held.ensures) c.if-is_held.false in
    let place : place_of c.args.alias old.rctl ≡ None = rw (← c.as_slice-2.ensures.items) (sym c.in-None.ensures) in
    let same : alias_set c.args.alias c.args.value.now c.args.self.now ≡ with_resource (resource.Rctl (alias_rctl c.args.alias c.in-Some.limit)) c.args.self.now =
    rw (← c.self.view_is) (set_anew c.args.alias c.args.value.now c.in-Some.limit old number held place)
    in
    rw (same, ← c.in_ok-rctl.ensures) c.add_resource.ensures
