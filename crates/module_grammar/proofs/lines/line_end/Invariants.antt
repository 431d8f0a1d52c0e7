use Rattle.std.proofs.Common.{◌≡◌, ◌-◌, drop, length, map}
use Rattle.module_grammar.specs.Reading.{line_rest}
use Rattle.unit_grammar.specs.Seeing.{tokens}
use Rattle.module_grammar.proofs.lines.line_end.Given as goal

abbrev pub invariant-loop-at : goal.invariant-loop-at
invariant-loop-at l =
    line_rest (map (λ text. text.now) l.carried) l.fn.end (drop l.fn.at (tokens l.input)) ≡
    line_rest (map (λ text. text.now) l.carried) l.end (drop l.at (tokens l.input))

abbrev pub decreases-loop-at : goal.decreases-loop-at
decreases-loop-at l = length (tokens l.input) - l.at
