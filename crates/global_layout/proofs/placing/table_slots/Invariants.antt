use Rattle.std.proofs.Common.{◌≡◌, take, length}
use Rattle.global_layout.specs.Layout.{table_slots}
use Rattle.global_layout.proofs.placing.table_slots.Given as goal

abbrev pub invariant-loop-at : goal.invariant-loop-at
invariant-loop-at l = record {
  so_far : l.slots ≡ table_slots l.number l.initial.slots.homes (take l.at l.objects);
  homes : length l.slots.homes ≡ l.count;
}
