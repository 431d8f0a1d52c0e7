use Rattle.std.proofs.Common.{take, map}
use Rattle.ir_print.specs.Pieces.{commas}
use Rattle.ir_names.specs.Names.{global_text}
use Rattle.ir_names.specs.Puts.{Puts}
use Rattle.ir_print.proofs.items.put_globals.Given as goal

abbrev pub invariant-loop-at : goal.invariant-loop-at
invariant-loop-at g l = Puts (g.P.Printer.state l.initial.line) (g.P.Printer.state l.line) (commas (map (global_text) (take l.at l.names)))
