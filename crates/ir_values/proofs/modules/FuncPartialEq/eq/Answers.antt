use Rattle.ir_values.specs.Equality.{same_func_decides}
use Rattle.ir_values.proofs.modules.FuncPartialEq.eq.Goals as goal

pub returns-clause-value : goal.returns-clause-value
returns-clause-value c = same_func_decides _ _ _ c.is.ensures
