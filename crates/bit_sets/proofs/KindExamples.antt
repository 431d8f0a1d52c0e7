-- Members of each kind.
use Rattle.std.proofs.Common.{refl}
use Rattle.bit_sets.specs.BitSet.{holds_below}
use Rattle.bit_sets.specs.Laws.{KindsAreMet}

pub kinds-met : KindsAreMet
unfolding holds_below lib.Count.count_trailing_zeros
kinds-met = (refl, refl, refl, refl, refl)
