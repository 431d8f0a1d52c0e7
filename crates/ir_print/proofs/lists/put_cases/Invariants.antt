use Rattle.std.proofs.Common.{take, map}
use Rattle.ir_print.specs.Pieces.{spaces}
use Rattle.ir_print.specs.Instructions.{case_text}
use Rattle.ir_names.specs.Puts.{Puts}
use Rattle.ir_print.proofs.lists.put_cases.Given as goal

abbrev pub invariant-loop-at : goal.invariant-loop-at
invariant-loop-at g l = Puts (g.P.Printer.state l.initial.line) (g.P.Printer.state l.line) (spaces (map (case_text l.width) (take l.at l.cases)))
