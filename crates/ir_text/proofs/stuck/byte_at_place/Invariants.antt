use Rattle.ir_text.specs.Stuck.{Walked}
use Rattle.ir_text.proofs.stuck.byte_at_place.Given as goal

abbrev pub invariant-loop-i : goal.invariant-loop-i
invariant-loop-i l = Walked l.file l.text l.place l.i l.line l.column
