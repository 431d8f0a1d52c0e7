use Rattle.std.proofs.Common.{◌≡◌, ◌++◌, drop, map}
use Rattle.ir_memories.specs.Images.{cells_of}
use Rattle.ir_memories.specs.Numeric.{output_address}
use Rattle.ir_memories.proofs.placing.variable_cells.Given as goal

abbrev pub invariant-loop-variable : goal.invariant-loop-variable
invariant-loop-variable l =
    l.cells ++ map (λ v. cells_of (output_address l.rows) v.init) (drop l.variable-index l.variables)
    ≡ map (λ v. cells_of (output_address l.rows) v.init) l.variables
