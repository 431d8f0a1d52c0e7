use Rattle.std.proofs.Common.{◌≡◌, ◌++◌, drop}
use Rattle.type_metadata.specs.Items.{functions_from}
use Rattle.type_metadata.proofs.items.add_functions.Given as goal

abbrev pub invariant-loop-index : goal.invariant-loop-index
invariant-loop-index l =
    l.items ++ functions_from l.file l.index (drop l.index l.functions) ≡ l.initial.items ++ functions_from l.file 0 l.functions
