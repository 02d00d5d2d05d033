use Rattle.brand_hooks.specs.Brands.{tables_of}
use Rattle.daemon_threads.proofs.Dealt_cells.{apart-if}
use Rattle.daemon_threads.specs.Begun.{IsBegun, script_lines}
use Rattle.daemon_threads.specs.Dealing.{if_all_differ}
use Rattle.daemon_threads.proofs.sessions.run_apart.Given as goal

-- the zones of the places, and the states for which these parts stand
abbrev pub ghosts-run_picked : goal.ghosts-run_picked
ghosts-run_picked g a = record {
  zones = if_all_differ a.dealt.zones.items;
  brands = tables_of a.brands.now;
  view = g.D.Disk.view a.bank.disk;
  starts = IsBegun (if_all_differ a.dealt.zones.items) (tables_of a.brands.now) a.dealt a.shared a.bank;
  lines = script_lines a.scripts.now;
  apart = apart-if a.dealt.zones.items;
}
