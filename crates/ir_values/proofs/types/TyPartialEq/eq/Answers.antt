use Rattle.ir_values.specs.Equality.{same_ty_decides}
use Rattle.ir_values.proofs.types.TyPartialEq.eq.Goals as goal

pub returns-clause-value : goal.returns-clause-value
returns-clause-value c = same_ty_decides _ _ _ c.is.ensures
