use Rattle.std.proofs.Common.{◌≡◌, take}
use Rattle.std.specs.Map.{values_of}
use Rattle.global_layout.specs.Fragments.{fragments_in}
use Rattle.global_layout.specs.Owners.{number_by, Owns, IsLabelled}
use Rattle.global_layout.proofs.fragments.fragments_in.Given as goal

abbrev pub invariant-loop-at : goal.invariant-loop-at
invariant-loop-at l = record {
  fragments : values_of l.live.entries ≡ fragments_in l.ids (take l.at l.order);
  owns : Owns l.live.entries (number_by l.owners.labels.items l.owners.numbers.items) l.at;
  labelled : IsLabelled l.owners.labels.items l.owners.numbers.items l.owners.names.items l.at;
}
