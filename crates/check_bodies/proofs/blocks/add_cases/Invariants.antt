use Rattle.std.proofs.Common.{◌≡◌, ◌++◌, drop, map}
use Rattle.check_bodies.specs.Blocks.{edges_to}
use Rattle.check_bodies.proofs.blocks.add_cases.Given as goal

abbrev pub invariant-loop-case : goal.invariant-loop-case
invariant-loop-case l = l.edges ++ edges_to l.from (map (λ c. c.2) (drop l.case-index l.cases)) ≡ l.fn.edges ++ edges_to l.from (map (λ c. c.2) l.cases)
