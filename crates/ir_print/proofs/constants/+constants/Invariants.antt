use Rattle.std.proofs.Common.{map, take}
use Rattle.ir_print.specs.Pieces.{commas}
use Rattle.ir_names.specs.Puts.{Puts}
use Rattle.ir_print.specs.Types.{behind_types}
use Rattle.ir_print.specs.Constants as Spec
use Rattle.ir_print.proofs.constants.+constants.Given as goal

abbrev pub invariant-put_elements-loop-at : goal.invariant-put_elements-loop-at
invariant-put_elements-loop-at g l = Puts (g.P.Printer.state l.initial.line) (g.P.Printer.state l.line)
    (commas (map (Spec.typed_const_text l.part) (take l.at l.parts)))

abbrev pub invariant-put_parts-loop-at : goal.invariant-put_parts-loop-at
invariant-put_parts-loop-at g l = Puts (g.P.Printer.state l.initial.line) (g.P.Printer.state l.line)
    (commas (behind_types Spec.typed_const_text l.types (take l.at l.parts)))

abbrev pub invariant-put_indices-loop-index : goal.invariant-put_indices-loop-index
invariant-put_indices-loop-index g l = Puts (g.P.Printer.state l.initial.line) (g.P.Printer.state l.line)
    (Spec.indices_text (map Spec.operand_printed (take l.index-index l.indices)))
