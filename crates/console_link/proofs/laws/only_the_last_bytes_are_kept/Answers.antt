use Rattle.std.proofs.Common.{◌∙◌, arith}
use Rattle.console_link.proofs.Kept.{few_after, output_after}
use Rattle.console_link.proofs.Last_bytes.{all_kept}
use Rattle.console_link.specs.Consoles.{emptied, new_console}
use Rattle.console_link.specs.Histories.{bytes_written}
use Rattle.console_link.proofs.laws.only_the_last_bytes_are_kept.Goals as goal

pub returns-clause-exact : goal.returns-clause-exact
returns-clause-exact c = λ es d h. output_after es (emptied d) (omega arith) h

pub returns-clause-whole : goal.returns-clause-whole
returns-clause-whole c = λ es d h few. output_after es (emptied d) (omega arith) h ∙ all_kept 4096 (bytes_written es) few

pub returns-clause-bounded : goal.returns-clause-bounded
returns-clause-bounded c = λ es. few_after es new_console (omega arith)
