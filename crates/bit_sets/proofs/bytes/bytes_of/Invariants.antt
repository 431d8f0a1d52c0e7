use Rattle.std.proofs.Common.{◌≡◌, take}
use Rattle.bit_sets.specs.Lanes.{bytes_from, byte_at}
use Rattle.bit_sets.proofs.bytes.bytes_of.Given as goal

abbrev pub invariant-loop-at : goal.invariant-loop-at
invariant-loop-at l = l.bytes.items ≡ bytes_from (byte_at l.sets (take l.at l.stood)) 0 l.count
