use Rattle.std.proofs.Common.{◌≡◌, drop}
use Rattle.ir_memories.specs.Numeric.{with_variables}
use Rattle.ir_memories.proofs.placing.add_variables.Given as goal

abbrev pub invariant-loop-variable : goal.invariant-loop-variable
invariant-loop-variable l =
    with_variables l.at l.rows (drop l.variable-index l.variables) ≡ with_variables l.at l.initial.rows l.variables
