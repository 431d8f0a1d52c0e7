use Rattle.std.proofs.Common.{◌≡◌, take}
use Rattle.global_layout.specs.Fragments.{sizes_from}
use Rattle.global_layout.proofs.fragments.sizes.Given as goal

abbrev pub invariant-loop-number : goal.invariant-loop-number
invariant-loop-number l = l.pairs.items ≡ sizes_from 0 (take l.number l.ids)
