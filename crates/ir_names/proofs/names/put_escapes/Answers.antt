use Rattle.ir_names.specs.Names.{escape}
use Rattle.ir_names.proofs.FlatLemmas.{next-flat}
use Rattle.ir_names.proofs.names.put_escapes.Goals as goal

pub loop-byte-preserved : goal.loop-byte-preserved
loop-byte-preserved g c = next-flat escape c.args.text.now c.loop-byte.byte-index _ c.loop-byte-test.true c.loop-byte.invariant c.put_escape.ensures
