use Rattle.std.proofs.Common.{◌≡◌, drop}
use Rattle.ir_meaning.specs.Calls.{declaration_of}
use Rattle.ir_meaning.proofs.calls.declaration_of.Given as goal

abbrev pub invariant-loop-at : goal.invariant-loop-at
invariant-loop-at l = declaration_of (drop l.at l.modules) l.name ≡ declaration_of l.modules l.name
