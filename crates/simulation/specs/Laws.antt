-- The theorem on runs.
use Rattle.ir_values.specs.declared.modules.Module.{Module}
use Rattle.ir_memories.specs.Placement.{IsPlaced}
use Rattle.ir_memories.specs.Stated.{placement_of, stated}
use Rattle.thin_files.specs.declared.thin.Thin.{Thin}
use Rattle.thin_files.specs.Thin.{IsAllowed, module_of}
use Rattle.thin_files.specs.Laws.{example}
use Rattle.test_lowering.specs.Rewriting.{rewritten}
use Rattle.simulation.specs.Runs.{IsAlwaysSimulated}

-- at every placement of the output, a thin file's output does what the file does
abbrev pub LoweringIsSimulated : Type 0
LoweringIsSimulated = (t : Thin) → IsAllowed t → IsAlwaysSimulated (module_of t)

-- The output of the example of a thin file has addresses: those from 4096 on.

abbrev pub example_output : Module
example_output = rewritten (module_of example)

abbrev pub AddressesArePossible : Type 0
AddressesArePossible = IsPlaced example_output (placement_of example_output (stated example_output 4096))
