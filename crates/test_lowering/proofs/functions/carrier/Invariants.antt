use Rattle.std.proofs.Common.{◌≡◌, ◌≢◌, ℕ, ◌<◌, Some, slice_get}
use Rattle.thin_files.specs.declared.thin.Variable.{Variable}
use Rattle.test_lowering.proofs.functions.carrier.Given as goal

-- none of the variables before carries the identifier
abbrev pub invariant-loop-number : goal.invariant-loop-number
invariant-loop-number l = (k : ℕ) (v : Variable) → k < l.number → slice_get l.variables k ≡ Some v → v.id ≢ l.tested
