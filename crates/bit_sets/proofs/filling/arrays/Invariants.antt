use Rattle.std.proofs.Common.{◌≡◌, take}
use Rattle.bit_sets.specs.Lanes.{arrays_from}
use Rattle.bit_sets.proofs.filling.arrays.Given as goal

abbrev pub invariant-loop-number : goal.invariant-loop-number
invariant-loop-number l = l.pairs.items ≡ arrays_from 0 (take l.number l.sets)
