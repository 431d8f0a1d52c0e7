use Rattle.std.proofs.Common.{◌≡◌, drop}
use Rattle.ir_meaning.specs.Branches.{case_of}
use Rattle.ir_meaning.proofs.branches.case_of.Given as goal

abbrev pub invariant-loop-at : goal.invariant-loop-at
invariant-loop-at l = case_of l.n l.other (drop l.at l.cases) ≡ case_of l.n l.other l.cases
