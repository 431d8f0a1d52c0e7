use Rattle.std.proofs.Common.{take}
use Rattle.std.specs.List.{flat_map}
use Rattle.ir_names.specs.Puts.{Puts}
use Rattle.ir_print.proofs.printing.put_items.Given as goal

abbrev pub invariant-loop-item : goal.invariant-loop-item
invariant-loop-item g l = Puts (g.P.Printer.state l.initial.line) (g.P.Printer.state l.line) (flat_map (g.F.Form.text) (take l.item-index l.items))
