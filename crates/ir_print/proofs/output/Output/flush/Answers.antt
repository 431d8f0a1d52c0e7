use Rattle.std.proofs.Common.{refl}
use Rattle.ir_names.proofs.PutLemmas.{puts-sent}
use Rattle.ir_print.proofs.output.Output.flush.Goals as goal

pub returns-in-Ok-clause-sent : goal.returns-in-Ok-clause-sent
returns-in-Ok-clause-sent g c = puts-sent _ _ c.requires c.requires (rw c.bytes.ensures at (c.in-Ok.ensures.whole)) c.clear.ensures c.write_all.ensures.counts refl
