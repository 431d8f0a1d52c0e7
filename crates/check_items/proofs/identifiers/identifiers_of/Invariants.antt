use Rattle.std.proofs.Common.{◌≡◌, ◌++◌, drop}
use Rattle.std.specs.Prelude.{flat_map}
use Rattle.check_items.specs.Identifiers.{identifier_of}
use Rattle.check_items.proofs.identifiers.identifiers_of.Given as goal

abbrev pub invariant-loop-attach : goal.invariant-loop-attach
invariant-loop-attach l =
    l.names ++ flat_map (identifier_of l.context.units) (drop l.attach-index l.attached) ≡ flat_map (identifier_of l.context.units) l.attached
