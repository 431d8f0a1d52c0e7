use Rattle.ir_values.specs.Equality.{same_type_id_decides}
use Rattle.ir_values.proofs.modules.TypeIdPartialEq.eq.Goals as goal

pub returns-clause-value : goal.returns-clause-value
returns-clause-value c = same_type_id_decides _ _ _ c.is.ensures
