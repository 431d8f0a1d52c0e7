use Rattle.ir_values.specs.Equality.{same_callee_decides}
use Rattle.ir_values.proofs.instructions.CalleePartialEq.eq.Goals as goal

pub returns-clause-value : goal.returns-clause-value
returns-clause-value c = same_callee_decides _ _ _ c.is.ensures
