use Rattle.std.proofs.Common.{◌≡◌, ◌≤◌, take, length}
use Rattle.bit_sets.specs.BitSet.{greatest}
use Rattle.bit_sets.specs.Lanes.{filled_in, most_bytes}
use Rattle.bit_sets.proofs.filling.fill.Given as goal

abbrev pub invariant-loop-at : goal.invariant-loop-at
invariant-loop-at l = record {
  so_far : l.filling ≡ filled_in l.sets (take l.at l.order);
  lanes : length l.filling.lengths ≡ 8;
  short : greatest l.filling.lengths ≤ most_bytes;
}
