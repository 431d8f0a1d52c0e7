use Rattle.std.proofs.Common.{◌≡◌, drop}
use Rattle.ir_memories.specs.Numeric.{with_functions}
use Rattle.ir_memories.proofs.placing.add_functions.Given as goal

abbrev pub invariant-loop-index : goal.invariant-loop-index
invariant-loop-index l =
    with_functions l.external l.at l.index l.rows (drop l.index l.functions)
    ≡ with_functions l.external l.at 0 l.initial.rows l.functions
