use Rattle.built_instructions.proofs.SortLaws.{sorts_kept}
use Rattle.built_instructions.proofs.laws.sorts_are_kept.Goals as goal

pub returns : goal.returns
returns c = sorts_kept
