use Rattle.std.proofs.Common.{map, take}
use Rattle.ir_print.specs.Pieces.{commas}
use Rattle.ir_names.specs.Puts.{Puts}
use Rattle.ir_print.specs.Types as Spec
use Rattle.ir_print.proofs.types.+types.Given as goal

abbrev pub invariant-put_types-loop-at : goal.invariant-put_types-loop-at
invariant-put_types-loop-at g l = Puts (g.P.Printer.state l.initial.line) (g.P.Printer.state l.line) (commas (map Spec.ty_text (take l.at l.types)))
