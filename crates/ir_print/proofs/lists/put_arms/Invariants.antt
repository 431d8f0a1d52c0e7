use Rattle.std.proofs.Common.{take, map}
use Rattle.ir_print.specs.Pieces.{commas}
use Rattle.ir_print.specs.Instructions.{arm_text}
use Rattle.ir_names.specs.Puts.{Puts}
use Rattle.ir_print.proofs.lists.put_arms.Given as goal

abbrev pub invariant-loop-at : goal.invariant-loop-at
invariant-loop-at g l = Puts (g.P.Printer.state l.initial.line) (g.P.Printer.state l.line) (commas (map (arm_text l.ty) (take l.at l.arms)))
