use Rattle.std.proofs.Common.{◌≡◌, drop}
use Rattle.ir_memories.specs.Numeric.{with_tables}
use Rattle.ir_memories.proofs.placing.add_tables.Given as goal

abbrev pub invariant-loop-table : goal.invariant-loop-table
invariant-loop-table l =
    with_tables l.functions l.at l.rows (drop l.table-index l.tables) ≡ with_tables l.functions l.at l.initial.rows l.tables
