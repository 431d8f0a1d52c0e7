use Rattle.std.proofs.Common.{◌≡◌, ℕ, List, drop}
use Rattle.std.specs.Prelude.{is_some}
use Rattle.std.specs.List.{list_any}
use Rattle.std.specs.Str.{bytes_eq}
use Rattle.check_bodies.specs.Labels.{place_in}
use Rattle.check_bodies.proofs.labels.places.Given as goal

abbrev pub invariant-loop-at : goal.invariant-loop-at
invariant-loop-at l = (q : List ℕ) → is_some (place_in q l.map) ≡ list_any (λ other. bytes_eq other q) (drop l.at l.labels)
