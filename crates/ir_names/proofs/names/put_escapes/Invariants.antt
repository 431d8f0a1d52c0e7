use Rattle.std.proofs.Common.{take}
use Rattle.std.specs.List.{flat_map}
use Rattle.ir_names.specs.Names.{escape}
use Rattle.ir_names.specs.Puts.{Puts}
use Rattle.ir_names.proofs.names.put_escapes.Given as goal

abbrev pub invariant-loop-byte : goal.invariant-loop-byte
invariant-loop-byte g l = Puts (g.P.Printer.state l.initial.line) (g.P.Printer.state l.line) (flat_map escape (take l.byte-index l.text))
