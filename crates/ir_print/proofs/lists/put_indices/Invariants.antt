use Rattle.std.proofs.Common.{take}
use Rattle.std.specs.List.{flat_map}
use Rattle.ir_print.specs.Instructions.{index_text}
use Rattle.ir_names.specs.Puts.{Puts}
use Rattle.ir_print.proofs.lists.put_indices.Given as goal

abbrev pub invariant-loop-index : goal.invariant-loop-index
invariant-loop-index g l = Puts (g.P.Printer.state l.initial.line) (g.P.Printer.state l.line) (flat_map (index_text) (take l.index-index l.indices))
