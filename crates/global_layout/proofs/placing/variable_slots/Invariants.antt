use Rattle.std.proofs.Common.{◌≡◌, ◌≤◌, take, length}
use Rattle.global_layout.specs.Layout.{variable_slots, most_bytes}
use Rattle.global_layout.proofs.placing.variable_slots.Given as goal

abbrev pub invariant-loop-at : goal.invariant-loop-at
invariant-loop-at l = record {
  so_far : l.slots ≡ variable_slots l.shapes l.number l.initial.slots.homes (take l.at l.objects);
  short : l.slots.length ≤ most_bytes;
  homes : length l.slots.homes ≡ length l.shapes;
}
