use Rattle.std.proofs.Common.{sym, ◌∙◌, None}
use Rattle.ltt_base.proofs.MemoryLemmas.{placed}
use Rattle.ltt_base.proofs.memory_files.place_of.Goals as goal

pub returns-in-None : goal.returns-in-None
returns-in-None c = placed _ _ None (sym c.in-None.is ∙ c.find.ensures)
