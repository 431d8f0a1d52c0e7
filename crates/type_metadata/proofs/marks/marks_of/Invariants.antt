use Rattle.std.proofs.Common.{◌≡◌, ◌++◌, drop}
use Rattle.type_metadata.specs.Marks.{marks_from}
use Rattle.type_metadata.proofs.marks.marks_of.Given as goal

abbrev pub invariant-loop-item : goal.invariant-loop-item
invariant-loop-item l = l.marks ++ marks_from l.listing (drop l.item-index l.listing) ≡ marks_from l.listing l.listing
