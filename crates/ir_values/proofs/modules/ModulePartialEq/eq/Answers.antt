use Rattle.ir_values.specs.Equality.{same_module_decides}
use Rattle.ir_values.proofs.modules.ModulePartialEq.eq.Goals as goal

pub returns-clause-value : goal.returns-clause-value
returns-clause-value c = same_module_decides _ _ _ c.is.ensures
