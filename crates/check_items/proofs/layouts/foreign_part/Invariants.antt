use Rattle.std.proofs.Common.{◌≡◌, length}
use Rattle.std.specs.Prelude.{find}
use Rattle.check_items.specs.Layouts.{is_foreign, layout_parts}
use Rattle.check_items.proofs.layouts.foreign_part.Given as goal

abbrev pub invariant-loop-rest : goal.invariant-loop-rest
invariant-loop-rest l = find is_foreign (layout_parts l.rest) ≡ find is_foreign (layout_parts l.text)

abbrev pub decreases-loop-rest : goal.decreases-loop-rest
decreases-loop-rest l = length l.rest
