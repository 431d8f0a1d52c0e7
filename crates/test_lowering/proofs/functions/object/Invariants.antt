use Rattle.std.proofs.Common.{◌≡◌, map, drop}
use Rattle.thin_files.specs.Thin.{variable_of}
use Rattle.test_lowering.specs.Rewriting.{object_from}
use Rattle.test_lowering.proofs.functions.object.Given as goal

-- none of the variables before has the name
abbrev pub invariant-loop-number : goal.invariant-loop-number
invariant-loop-number l = object_from l.number (map variable_of (drop l.number l.variables)) l.name
    ≡ object_from 0 (map variable_of l.variables) l.name
