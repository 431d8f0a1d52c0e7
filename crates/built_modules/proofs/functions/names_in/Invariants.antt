use Rattle.std.proofs.Common.{◌≡◌, ◌++◌, drop, map}
use Rattle.built_modules.proofs.functions.names_in.Given as goal

abbrev pub invariant-loop-one : goal.invariant-loop-one
invariant-loop-one l = l.names ++ map (λ one. one.name) (drop l.one-index l.defined) ≡ map (λ one. one.name) l.defined
