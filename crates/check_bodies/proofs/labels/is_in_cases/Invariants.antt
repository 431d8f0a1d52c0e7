use Rattle.std.proofs.Common.{◌≡◌, drop, map}
use Rattle.std.specs.List.{list_any}
use Rattle.std.specs.Str.{bytes_eq}
use Rattle.check_bodies.proofs.labels.is_in_cases.Given as goal

abbrev pub invariant-loop-case : goal.invariant-loop-case
invariant-loop-case l = list_any (bytes_eq l.label) (map (λ c. c.2) (drop l.case-index l.cases)) ≡ list_any (bytes_eq l.label) (map (λ c. c.2) l.cases)
