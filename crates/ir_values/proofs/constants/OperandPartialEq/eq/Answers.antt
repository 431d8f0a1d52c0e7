use Rattle.ir_values.specs.Equality.{same_operand_decides}
use Rattle.ir_values.proofs.constants.OperandPartialEq.eq.Goals as goal

pub returns-clause-value : goal.returns-clause-value
returns-clause-value c = same_operand_decides _ _ _ c.is.ensures
