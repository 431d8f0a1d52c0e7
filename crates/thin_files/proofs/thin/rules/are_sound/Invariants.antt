use Rattle.std.proofs.Common.{take}
use Rattle.std.specs.List.{All}
use Rattle.thin_files.specs.Rules.{IsSound}
use Rattle.thin_files.proofs.thin.rules.are_sound.Given as goal

abbrev pub invariant-loop-variable : goal.invariant-loop-variable
invariant-loop-variable l = All IsSound (take l.variable-index l.variables)
