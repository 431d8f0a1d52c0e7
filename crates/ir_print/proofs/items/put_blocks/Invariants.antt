use Rattle.std.proofs.Common.{take}
use Rattle.std.specs.List.{flat_map}
use Rattle.ir_print.specs.Items.{block_text}
use Rattle.ir_names.specs.Puts.{Puts}
use Rattle.ir_print.proofs.items.put_blocks.Given as goal

abbrev pub invariant-loop-block : goal.invariant-loop-block
invariant-loop-block g l = Puts (g.P.Printer.state l.initial.line) (g.P.Printer.state l.line) (flat_map (block_text) (take l.block-index l.blocks))
