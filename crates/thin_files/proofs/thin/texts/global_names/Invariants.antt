use Rattle.std.proofs.Common.{◌≡◌, ◌∷◌, map, take}
use Rattle.thin_files.proofs.thin.texts.global_names.Given as goal

abbrev pub invariant-loop-variable : goal.invariant-loop-variable
invariant-loop-variable l = l.names ≡ l.function ∷ map (λ v. v.name) (take l.variable-index l.variables)
