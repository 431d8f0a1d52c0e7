use Rattle.ir_values.specs.Equality.{same_entry_decides}
use Rattle.ir_values.proofs.modules.EntryPartialEq.eq.Goals as goal

pub returns-clause-value : goal.returns-clause-value
returns-clause-value c = same_entry_decides _ _ _ c.is.ensures
