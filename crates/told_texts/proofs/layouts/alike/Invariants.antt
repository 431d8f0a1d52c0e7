use Rattle.std.proofs.Common.{◌≡◌, replicate}
use Rattle.told_texts.proofs.layouts.alike.Given as goal

abbrev pub invariant-loop-object : goal.invariant-loop-object
invariant-loop-object l = l.shapes ≡ replicate l._object l.shape
