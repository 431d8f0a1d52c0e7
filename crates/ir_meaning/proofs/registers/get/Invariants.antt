use Rattle.std.proofs.Common.{◌≡◌, drop}
use Rattle.ir_meaning.specs.Registers.{get}
use Rattle.ir_meaning.proofs.registers.get.Given as goal

abbrev pub invariant-loop-at : goal.invariant-loop-at
invariant-loop-at g l = get (drop l.at l.items) l.name ≡ get l.registers l.name
