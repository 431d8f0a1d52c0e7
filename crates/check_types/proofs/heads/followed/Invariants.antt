use Rattle.std.proofs.Common.{◌≡◌, length}
use Rattle.check_types.specs.Heads.{followed}
use Rattle.check_types.proofs.heads.followed.Given as goal

abbrev pub invariant-loop-names : goal.invariant-loop-names
invariant-loop-names l = followed l.context.units l.names l.name ≡ followed l.context.units (length l.context.units) l.initial.name
