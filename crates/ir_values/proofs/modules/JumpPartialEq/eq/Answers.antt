use Rattle.ir_values.specs.Equality.{same_jump_decides}
use Rattle.ir_values.proofs.modules.JumpPartialEq.eq.Goals as goal

pub returns-clause-value : goal.returns-clause-value
returns-clause-value c = same_jump_decides _ _ _ c.is.ensures
