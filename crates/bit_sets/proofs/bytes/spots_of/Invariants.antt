use Rattle.std.proofs.Common.{◌≡◌, take, replicate, None, length}
use Rattle.bit_sets.specs.Lanes.{spots_of}
use Rattle.bit_sets.proofs.bytes.spots_of.Given as goal

abbrev pub invariant-loop-set : goal.invariant-loop-set
invariant-loop-set l = l.spots ≡ replicate l._set None

abbrev pub invariant-loop-at : goal.invariant-loop-at
invariant-loop-at l = record {
  so_far : l.spots ≡ spots_of l.count (take l.at l.stood);
  long : length l.spots ≡ l.count;
}
