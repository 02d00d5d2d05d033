-- The end of the input, by what `verify` would be answered there.
use Rattle.std.proofs.Common.{◌≡◌, Some, None, Result, Ok, Err, ap, ◌∙◌}
use Rattle.zone_config.specs.declared.terms.Contents.{Contents}
use Rattle.zone_config.specs.Export.{export_text}
use Rattle.config_verify.specs.declared.flaw.Flaw.{Flaw}
use Rattle.config_verify.specs.Flaws.{first, flaws}
use Rattle.zonecfg_scopes.specs.declared.command.Command.TheVariants.{Verify}
use Rattle.zonecfg_scopes.specs.Open.{Open, Nothing, Whole, Inside}
use Rattle.zonecfg_scopes.specs.OpenOf.{config_of}
use Rattle.zonecfg_scopes.specs.Scopes.{made}
use Rattle.zones_run.specs.declared.refusal.Refusal.{Refusal}
use Rattle.zones_run.specs.Exporting.{ended, refused_end, written_unless_flawed}
use Rattle.zones_run.specs.Output.{written}
use Rattle.zones_run.specs.Refusals.{flawed}
use Rattle.zones_run.specs.Subcommands.{known_brands, obeyed, unless_flawed}

flaw_refused : (c : Contents) (found : Result (Unit {0}) Flaw) (refusal : Refusal) → unless_flawed found (Whole c) ≡ Err refusal → written_unless_flawed found c ≡ refused_end refusal
flaw_refused c (Ok x) refusal e = absurd (cc)
flaw_refused c (Err flaw) refusal e = let same : flawed flaw ≡ refusal = cc in ap refused_end same

-- where `verify` would be refused, so is the end
pub end_refused : (o : Open) (refusal : Refusal) → obeyed Verify o ≡ Err refusal → ended o ≡ refused_end refusal
unfolding obeyed made
end_refused Nothing refusal e = let same : Err _ ≡ Err refusal = e in cc
end_refused (Whole c) refusal e = flaw_refused c (first (flaws known_brands c)) refusal e
end_refused (Inside c r at) refusal e = let same : Err _ ≡ Err refusal = e in cc

flaw_passed : (c d : Contents) (new : Open) (found : Result (Unit {0}) Flaw) → unless_flawed found (Whole c) ≡ Ok new → config_of new ≡ Some d → written_unless_flawed found c ≡ written (export_text d)
flaw_passed c d new (Ok x) e is =
    let same : Whole c ≡ new = cc in
    let some : Some c ≡ Some d = ap config_of same ∙ is in
    let config : c ≡ d = cc in
    ap (λ x. written (export_text x)) config
flaw_passed c d new (Err flaw) e is = absurd (cc)

-- else what is open is written
pub end_written : (o new : Open) (d : Contents) → obeyed Verify o ≡ Ok new → config_of new ≡ Some d → ended o ≡ written (export_text d)
unfolding obeyed made
end_written Nothing new d e is = absurd (cc)
end_written (Whole c) new d e is = flaw_passed c d new (first (flaws known_brands c)) e is
end_written (Inside c r at) new d e is = absurd (cc)

flaw_open : (c : Contents) (new : Open) (found : Result (Unit {0}) Flaw) → unless_flawed found (Whole c) ≡ Ok new → config_of new ≡ None → ⊥
flaw_open c new (Ok x) e is =
    let same : Whole c ≡ new = cc in
    let some : Some c ≡ None = ap config_of same ∙ is in
    absurd (cc)
flaw_open c new (Err flaw) e is = absurd (cc)

-- and a configuration is open
pub end_open : (o new : Open) → obeyed Verify o ≡ Ok new → config_of new ≡ None → ⊥
unfolding obeyed made
end_open Nothing new e is = absurd (cc)
end_open (Whole c) new e is = flaw_open c new (first (flaws known_brands c)) e is
end_open (Inside c r at) new e is = absurd (cc)
