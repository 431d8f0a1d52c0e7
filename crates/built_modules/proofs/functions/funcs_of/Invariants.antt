use Rattle.std.proofs.Common.{◌≡◌, ◌++◌, drop}
use Rattle.built_modules.specs.Functions.{funcs_from}
use Rattle.built_modules.proofs.functions.funcs_of.Given as goal

abbrev pub invariant-loop-at : goal.invariant-loop-at
invariant-loop-at l =
    l.funcs ++ funcs_from l.types.output l.types.units l.file l.at (drop l.at l.units)
    ≡ funcs_from l.types.output l.types.units l.file 0 l.units
