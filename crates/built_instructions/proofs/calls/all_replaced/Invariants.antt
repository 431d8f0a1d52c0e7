use Rattle.std.proofs.Common.{◌≡◌, ◌++◌, drop, map}
use Rattle.check_types.specs.Replaced.{replaced}
use Rattle.built_instructions.proofs.calls.all_replaced.Given as goal

abbrev pub invariant-loop-ty : goal.invariant-loop-ty
invariant-loop-ty l = l.list ++ map (replaced l.types.units) (drop l.ty-index l.written) ≡ map (replaced l.types.units) l.written
