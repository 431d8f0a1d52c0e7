use Rattle.std.proofs.Common.{◌≡◌, drop}
use Rattle.ir_meaning.specs.Calls.{declaration_in}
use Rattle.ir_meaning.proofs.calls.declaration_in.Given as goal

abbrev pub invariant-loop-at : goal.invariant-loop-at
invariant-loop-at l = declaration_in (drop l.at l.functions) l.name ≡ declaration_in l.functions l.name
