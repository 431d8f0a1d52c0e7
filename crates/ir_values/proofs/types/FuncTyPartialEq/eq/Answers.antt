use Rattle.ir_values.specs.Equality.{same_func_ty_decides}
use Rattle.ir_values.proofs.types.FuncTyPartialEq.eq.Goals as goal

pub returns-clause-value : goal.returns-clause-value
returns-clause-value c = same_func_ty_decides _ _ _ c.is.ensures
