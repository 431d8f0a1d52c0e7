use Rattle.ir_values.specs.Equality.{same_inst_decides}
use Rattle.ir_values.proofs.instructions.InstPartialEq.eq.Goals as goal

pub returns-clause-value : goal.returns-clause-value
returns-clause-value c = same_inst_decides _ _ _ c.is.ensures
