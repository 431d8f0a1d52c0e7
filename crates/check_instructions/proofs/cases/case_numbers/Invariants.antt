use Rattle.std.proofs.Common.{◌≡◌, ◌++◌, drop, map}
use Rattle.kept_parts.specs.CaseNumbers.{case_number}
use Rattle.check_instructions.proofs.cases.case_numbers.Given as goal

abbrev pub invariant-loop-case : goal.invariant-loop-case
invariant-loop-case l = l.numbers ++ map (case_number l.types.units l.width) (drop l.case-index l.cases) ≡ map (case_number l.types.units l.width) l.cases
