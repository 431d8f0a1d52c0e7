use Rattle.std.proofs.Common.{take}
use Rattle.ir_print.specs.Pieces.{commas}
use Rattle.ir_print.specs.Types.{behind_types}
use Rattle.ir_print.specs.Constants.{typed_text}
use Rattle.ir_names.specs.Puts.{Puts}
use Rattle.ir_print.proofs.lists.put_args.Given as goal

abbrev pub invariant-loop-at : goal.invariant-loop-at
invariant-loop-at g l = Puts (g.P.Printer.state l.initial.line) (g.P.Printer.state l.line) (commas (behind_types (typed_text) l.types (take l.at l.args)))
