use Rattle.std.proofs.Common.{◌∙◌}
use Rattle.type_metadata.proofs.CarrierLaws.{row_of_types}
use Rattle.type_metadata.proofs.types.Types.carriers.Goals as goal

pub returns : goal.returns
returns c = λ ms are. c.row.ensures ∙ row_of_types ms _ _ are
