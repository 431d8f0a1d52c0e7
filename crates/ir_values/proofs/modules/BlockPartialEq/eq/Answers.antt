use Rattle.ir_values.specs.Equality.{same_block_decides}
use Rattle.ir_values.proofs.modules.BlockPartialEq.eq.Goals as goal

pub returns-clause-value : goal.returns-clause-value
returns-clause-value c = same_block_decides _ _ _ c.is.ensures
