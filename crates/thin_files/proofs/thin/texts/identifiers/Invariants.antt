use Rattle.std.proofs.Common.{◌≡◌, map, take}
use Rattle.thin_files.proofs.thin.texts.identifiers.Given as goal

abbrev pub invariant-loop-variable : goal.invariant-loop-variable
invariant-loop-variable l = l.ids ≡ map (λ v. v.id) (take l.variable-index l.variables)
