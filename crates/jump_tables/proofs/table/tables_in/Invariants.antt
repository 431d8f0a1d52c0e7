use Rattle.std.proofs.Common.{◌≡◌, take}
use Rattle.jump_tables.specs.Tables.{tables_in}
use Rattle.jump_tables.proofs.table.tables_in.Given as goal

abbrev pub invariant-loop-at : goal.invariant-loop-at
invariant-loop-at l = l.tables ≡ tables_in (take l.at l.groups)
