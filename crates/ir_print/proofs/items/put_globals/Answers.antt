use Rattle.std.proofs.Common.{sym}
use Rattle.ir_names.proofs.PutLemmas.{puts-then}
use Rattle.ir_names.specs.Names.{global_text}
use Rattle.ir_print.proofs.ListLemmas.{next-comma}
use Rattle.ir_print.proofs.items.put_globals.Goals as goal

pub loop-at-preserved : goal.loop-at-preserved
loop-at-preserved g c = let is = c.index-names-at.is in next-comma (global_text) c.args.names.now c.loop-at.at c.index-names-at.result c.loop-at-test.true c.loop-at.invariant (puts-then c.put_comma.ensures (rw (sym is) (rw c.bytes.ensures at c.put_global.ensures)))
