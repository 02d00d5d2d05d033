-- The rows of the table as the program keeps them.
use Rattle.priv_sets.specs.declared.table.Privilege.{Privilege}
use Rattle.priv_sets.specs.Table.{Row, row}

abbrev pub row_of : Privilege → Row
row_of p = row p.name.now p.class
