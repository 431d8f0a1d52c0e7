use Rattle.std.proofs.Common.{◌≡◌, map, take}
use Rattle.ir_values.specs.declared.constants.Const.{out-Const}
use Rattle.check_constants.specs.Keeping.{byte_of}
use Rattle.check_constants.proofs.keeping.bytes_of.Given as goal

abbrev pub invariant-loop-value : goal.invariant-loop-value
invariant-loop-value l = l.text ≡ map (λ value. byte_of (out-Const value)) (take l.value-index l.values)
