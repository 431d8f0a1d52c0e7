use Rattle.std.proofs.Common.{◌≡◌, ◌++◌, drop, map}
use Rattle.ir_print.specs.Pieces.{after_commas}
use Rattle.source_runs.specs.Lines.{value_text}
use Rattle.source_runs.proofs.lines.add_others.Given as goal

abbrev pub invariant-loop-value : goal.invariant-loop-value
invariant-loop-value l = l.line ++ after_commas (map value_text (drop l.value-index l.values)) ≡ l.initial.line ++ after_commas (map value_text l.values)
