use Rattle.std.proofs.Common.{◌≡◌, ◌≤◌, take, length}
use Rattle.global_layout.specs.Layout.{placed_in, most_bytes}
use Rattle.global_layout.proofs.placing.placed_in.Given as goal

abbrev pub invariant-loop-at : goal.invariant-loop-at
invariant-loop-at l = record {
  so_far : l.placing ≡ placed_in l.shapes (take l.at l.fragments);
  short : l.placing.bytes ≤ most_bytes;
  homes : length l.placing.homes ≡ length l.shapes;
}
