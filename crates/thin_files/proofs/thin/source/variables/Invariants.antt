use Rattle.std.specs.Prelude.{◌≡◌, map, take}
use Rattle.thin_files.specs.Thin as spec
use Rattle.thin_files.proofs.thin.source.variables.Given as goal

abbrev pub invariant-loop-each : goal.invariant-loop-each
invariant-loop-each l = l.list ≡ map spec.variable_of (take l.each-index l.given)
