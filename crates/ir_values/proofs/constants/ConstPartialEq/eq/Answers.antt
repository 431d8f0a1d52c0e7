use Rattle.ir_values.specs.Equality.{same_const_decides}
use Rattle.ir_values.proofs.constants.ConstPartialEq.eq.Goals as goal

pub returns-clause-value : goal.returns-clause-value
returns-clause-value c = same_const_decides _ _ _ c.is.ensures
