use Rattle.std.proofs.Common.{take}
use Rattle.ir_print.specs.Pieces.{commas}
use Rattle.ir_print.specs.Types.{behind_types}
use Rattle.ir_print.specs.Items.{param_text}
use Rattle.ir_names.specs.Puts.{Puts}
use Rattle.ir_print.proofs.items.put_params.Given as goal

abbrev pub invariant-loop-at : goal.invariant-loop-at
invariant-loop-at g l = Puts (g.P.Printer.state l.initial.line) (g.P.Printer.state l.line) (commas (behind_types (param_text) l.types (take l.at l.params)))
