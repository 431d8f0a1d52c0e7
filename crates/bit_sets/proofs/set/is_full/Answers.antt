use Rattle.std.proofs.Common.{◌∙◌, refl, sym, ◌+◌}
use Rattle.bit_sets.specs.BitSet.{holds_below, bit_in}
use Rattle.bit_sets.proofs.WordLemmas.{holds-more, holds-fails}
use Rattle.bit_sets.proofs.set.is_full.Goals as goal

pub loop-bit-init : goal.loop-bit-init
unfolding holds_below
loop-bit-init c = refl

pub returns-then-not-is_set : goal.returns-then-not-is_set
returns-then-not-is_set c =
    sym (holds-fails (bit_in c.args.words.now) (c.args.size_m1 + 1) c.loop-bit.bit c.loop-bit-test.true (sym c.is_set.ensures ∙ c.if-not-is_set.true))

pub loop-bit-preserved : goal.loop-bit-preserved
loop-bit-preserved c = holds-more (bit_in c.args.words.now) c.loop-bit.bit c.loop-bit.invariant (sym c.is_set.ensures ∙ c.if-not-is_set.false)
