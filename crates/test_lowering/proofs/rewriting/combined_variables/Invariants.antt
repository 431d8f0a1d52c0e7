use Rattle.std.proofs.Common.{◌≡◌, map, take}
use Rattle.thin_files.specs.Thin.{variable_of}
use Rattle.test_lowering.specs.Rewriting.{combined_from}
use Rattle.test_lowering.proofs.rewriting.combined_variables.Given as goal

abbrev pub invariant-loop-group : goal.invariant-loop-group
invariant-loop-group l = l.list ≡ combined_from 0 (map variable_of (take l.group l.variables))
