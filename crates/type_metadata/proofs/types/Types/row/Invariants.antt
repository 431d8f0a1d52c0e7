use Rattle.std.proofs.Common.{◌≡◌, drop}
use Rattle.type_metadata.specs.Types.{row_at}
use Rattle.type_metadata.proofs.types.Types.row.Given as goal

abbrev pub invariant-loop-at : goal.invariant-loop-at
invariant-loop-at l = row_at l.id (drop l.at l.ids) (drop l.at l.rows) ≡ row_at l.id l.ids l.rows
