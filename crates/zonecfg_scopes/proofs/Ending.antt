-- The end of a scope, by how long the export text is then.
use Rattle.std.proofs.Common.{◌≡◌, Result, Ok, Err, refl}
use Rattle.config_terms.specs.declared.fault.ConfigFault.{ConfigFault}
use Rattle.zone_config.specs.declared.terms.Contents.{Contents}
use Rattle.zone_config.specs.Resources.{length_of}
use Rattle.zonecfg_scopes.specs.declared.command.Command.TheVariants.{End}
use Rattle.zonecfg_scopes.specs.declared.fault.EditFault.{EditFault}
use Rattle.zonecfg_scopes.specs.declared.fault.EditFault.TheVariants.{Memory, NothingOpen, WrongScope}
use Rattle.zonecfg_scopes.specs.declared.fault.Scope.TheVariants.{Global}
use Rattle.zonecfg_scopes.specs.Denotes.{Follows}
use Rattle.zonecfg_scopes.specs.Faults.{passed_on}
use Rattle.zonecfg_scopes.specs.Open.{Open, Nothing, Whole, Inside}
use Rattle.zonecfg_scopes.specs.Scopes.{ended_length, leaves, lifted, made, put_back}

-- what is given was not refused
pub lifted_ok : {A : Type 0} (answer : Result A ConfigFault) (x : A) → lifted answer ≡ Ok x → answer ≡ Ok x
lifted_ok (Ok y) x h = cc
lifted_ok (Err fault) x h = absurd (cc)

refused_back : (answer : Result Contents ConfigFault) (fault : EditFault) → lifted (length_of answer) ≡ Err fault → leaves Whole answer ≡ Err fault
refused_back (Ok c) fault h = absurd (cc)
refused_back (Err e) fault h = let same : passed_on e ≡ fault = cc in cc

unended : (o : Open) (fault : EditFault) → ended_length o ≡ Err fault → made End o ≡ Err fault
unfolding made
unended Nothing fault h = let same : NothingOpen ≡ fault = cc in cc
unended (Whole c) fault h = let same : WrongScope Global ≡ fault = cc in cc
unended (Inside c r at) fault h = refused_back (put_back at r c) fault h

-- a scope that may not end stays open
pub stays : (o : Open) (fault : EditFault) → ended_length o ≡ Err fault → Follows End o o (Err fault)
stays o Memory h = refl
stays o fault h = (unended o fault h, refl)
