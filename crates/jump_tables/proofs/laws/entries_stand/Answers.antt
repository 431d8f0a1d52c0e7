use Rattle.jump_tables.proofs.EntryLaws.{stand}
use Rattle.jump_tables.proofs.laws.entries_stand.Goals as goal

pub returns : goal.returns
returns c = stand
