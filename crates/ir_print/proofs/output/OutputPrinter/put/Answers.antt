use Rattle.ir_names.proofs.PutLemmas.{puts-then}
use Rattle.ir_print.proofs.output.OutputPrinter.put.Goals as goal

pub returns : goal.returns
returns g c = let e = c.add.ensures.same c.if-add.false in puts-then (rw e at c.flush.ensures.sent) c.put_large.ensures
