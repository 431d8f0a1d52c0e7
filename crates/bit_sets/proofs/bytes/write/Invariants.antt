use Rattle.std.proofs.Common.{◌≡◌}
use Rattle.bit_sets.specs.Lanes.{byte_of}
use Rattle.bit_sets.specs.Computing.{joined, part_before}
use Rattle.bit_sets.proofs.bytes.write.Given as goal

abbrev pub invariant-loop-at : goal.invariant-loop-at
invariant-loop-at l = l.bytes ≡ joined (part_before (byte_of l.set l.spot) l.at) 0 l.fn.bytes
