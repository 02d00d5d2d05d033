-- The parts in which a configuration is copied.
use Rattle.zone_config.specs.declared.terms.Contents.{Contents}

-- a configuration with a part of another one
abbrev pub with_boot : Contents → Contents → Contents
with_boot from c = record c { zonepath = from.zonepath; brand = from.brand; autoboot = from.autoboot; bootargs = from.bootargs; pool = from.pool }

abbrev pub with_rights : Contents → Contents → Contents
with_rights from c = record c { limitpriv = from.limitpriv; class = from.class; ip = from.ip; hostid = from.hostid; fs_allowed = from.fs_allowed }

abbrev pub with_devices : Contents → Contents → Contents
with_devices from c = record c { fs = from.fs; net = from.net; device = from.device }

abbrev pub with_controls : Contents → Contents → Contents
with_controls from c = record c { rctl = from.rctl; attr = from.attr; dataset = from.dataset }
