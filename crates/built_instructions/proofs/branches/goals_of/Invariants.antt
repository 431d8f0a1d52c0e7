use Rattle.std.proofs.Common.{◌≡◌, ◌++◌, drop}
use Rattle.built_instructions.specs.Branches.{goals_of}
use Rattle.built_instructions.proofs.branches.goals_of.Given as goal

abbrev pub invariant-loop-case : goal.invariant-loop-case
invariant-loop-case l = l.goals ++ goals_of l.types.units l.width (drop l.case-index l.cases) ≡ goals_of l.types.units l.width l.cases
