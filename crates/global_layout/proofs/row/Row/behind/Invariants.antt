use Rattle.std.proofs.Common.{◌≡◌, ◌++◌, length}
use Rattle.global_layout.proofs.row.Row.behind.Given as goal

abbrev pub invariant-loop-object : goal.invariant-loop-object
invariant-loop-object l = l.first.items ++ l.objects.items ≡ l.fn.others ++ l.fn.self

abbrev pub decreases-loop-object : goal.decreases-loop-object
decreases-loop-object l = length l.first.items
