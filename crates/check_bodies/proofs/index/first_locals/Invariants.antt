use Rattle.std.proofs.Common.{◌≡◌, ℕ, List, drop}
use Rattle.check_bodies.specs.Names.{first_local}
use Rattle.check_bodies.specs.Index.{find}
use Rattle.check_bodies.proofs.index.first_locals.Given as goal

abbrev pub invariant-loop-at : goal.invariant-loop-at
invariant-loop-at l = (q : List ℕ) → find q l.map ≡ first_local l.asked q (drop l.at l.names)
