use Rattle.std.proofs.Common.{◌≡◌, ◌-◌, ◌≤◌, suc, drop, length}
use Rattle.unit_grammar.specs.Readers.{enclosed_read, closing_read}
use Rattle.unit_grammar.specs.Seeing.{tokens}
use Rattle.unit_grammar.specs.Signs as spec
use Rattle.unit_grammar.proofs.brackets.enclosed.Given as goal

abbrev pub invariant-loop-at : goal.invariant-loop-at
invariant-loop-at l =
    (enclosed_read (spec.mark l.opening) (spec.mark l.closing) (drop l.fn.at (tokens l.input)) ≡
    closing_read (spec.mark l.opening) (spec.mark l.closing) (drop l.at (tokens l.input)) (suc l.others))
    × (l.others ≤ l.at)

abbrev pub decreases-loop-at : goal.decreases-loop-at
decreases-loop-at l = length (tokens l.input) - l.at
