use Rattle.std.proofs.Common.{◌≡◌, drop, None}
use Rattle.std.specs.Option.{option_copied}
use Rattle.check_constants.specs.Indices.{walk_flaw}
use Rattle.check_constants.proofs.indices.walk_flaw.Given as goal

abbrev pub invariant-loop-index : goal.invariant-loop-index
invariant-loop-index l = walk_flaw l.types.output l.types.units l.quiet l.found (option_copied l.place) (drop l.index-index l.indices)
    ≡ walk_flaw l.types.output l.types.units l.quiet None (option_copied l.fn.ty) l.indices
