-- The configuration of a request under way, wherever it is.
use Rattle.zone_config.specs.declared.terms.Contents.{Contents}
use Rattle.zoneadmd_steps.specs.declared.job_config.Kept.{Kept}
use Rattle.zoneadmd_steps.specs.declared.job_config.Kept.TheVariants.{Stored, Blank}

abbrev pub contents_of : Kept → Contents
contents_of (Stored c) = c
contents_of (Blank c) = c
