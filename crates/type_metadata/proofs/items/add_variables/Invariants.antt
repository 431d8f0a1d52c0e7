use Rattle.std.proofs.Common.{◌≡◌, ◌++◌, drop}
use Rattle.type_metadata.specs.Items.{variables_from}
use Rattle.type_metadata.proofs.items.add_variables.Given as goal

abbrev pub invariant-loop-index : goal.invariant-loop-index
invariant-loop-index l =
    l.items ++ variables_from l.file l.index (drop l.index l.variables) ≡ l.initial.items ++ variables_from l.file 0 l.variables
