use Rattle.std.proofs.Common.{◌≡◌, map, take}
use Rattle.thin_files.proofs.thin.texts.named_numbers.Given as goal

abbrev pub invariant-loop-variable : goal.invariant-loop-variable
invariant-loop-variable l = l.numbers ≡ map (λ v. v.node) (take l.variable-index l.variables)
