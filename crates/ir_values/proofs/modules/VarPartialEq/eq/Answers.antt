use Rattle.ir_values.specs.Equality.{same_var_decides}
use Rattle.ir_values.proofs.modules.VarPartialEq.eq.Goals as goal

pub returns-clause-value : goal.returns-clause-value
returns-clause-value c = same_var_decides _ _ _ c.is.ensures
