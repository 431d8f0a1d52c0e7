use Rattle.std.proofs.Common.{◌≡◌, drop}
use Rattle.std.specs.Prelude.{nat_le}
use Rattle.std.specs.List.{list_any}
use Rattle.type_metadata.proofs.extents.has_entry_from.Given as goal

abbrev pub invariant-loop-entry : goal.invariant-loop-entry
invariant-loop-entry l =
    list_any (λ entry. nat_le l.size entry.offset) (drop l.entry-index l.entries) ≡ list_any (λ entry. nat_le l.size entry.offset) l.entries
