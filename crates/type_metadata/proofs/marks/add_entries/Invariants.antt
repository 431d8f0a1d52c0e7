use Rattle.std.proofs.Common.{◌≡◌, ◌++◌, drop, map}
use Rattle.type_metadata.specs.Marks.{mark_of}
use Rattle.type_metadata.proofs.marks.add_entries.Given as goal

abbrev pub invariant-loop-entry : goal.invariant-loop-entry
invariant-loop-entry l =
    l.marks ++ map (mark_of l.object) (drop l.entry-index l.entries) ≡ l.initial.marks ++ map (mark_of l.object) l.entries
