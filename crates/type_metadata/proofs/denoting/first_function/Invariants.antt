use Rattle.std.proofs.Common.{◌≡◌, drop}
use Rattle.type_metadata.specs.Items.{functions_from}
use Rattle.type_metadata.specs.Denoted.{first, is_called}
use Rattle.type_metadata.proofs.denoting.first_function.Given as goal

abbrev pub invariant-loop-index : goal.invariant-loop-index
invariant-loop-index l =
    first (is_called l.linkage l.name) (functions_from l.file l.index (drop l.index l.functions))
    ≡ first (is_called l.linkage l.name) (functions_from l.file 0 l.functions)
