use Rattle.std.proofs.Common.{take}
use Rattle.std.specs.List.{flat_map}
use Rattle.ir_print.specs.Items.{line_text}
use Rattle.ir_names.specs.Puts.{Puts}
use Rattle.ir_print.proofs.items.put_insts.Given as goal

abbrev pub invariant-loop-inst : goal.invariant-loop-inst
invariant-loop-inst g l = Puts (g.P.Printer.state l.initial.line) (g.P.Printer.state l.line) (flat_map (line_text) (take l.inst-index l.insts))
