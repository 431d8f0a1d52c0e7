use Rattle.built_modules.proofs.RunLemmas.{closed_none, closed_some}
use Rattle.built_modules.proofs.blocks.closed.Goals as goal

pub returns-then-is_empty : goal.returns-then-is_empty
returns-then-is_empty c = closed_none c.args.units.now c.args.run (c.is_empty.ensures.0 c.if-is_empty.true)

pub returns : goal.returns
returns c = closed_some c.args.units.now c.args.run c.add.new.self _ c.is_empty.result c.if-is_empty.false c.is_empty.ensures.1
    c.in_ok-add.ensures.added c.in_ok-label.ensures
