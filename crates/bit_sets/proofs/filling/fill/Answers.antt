use Rattle.std.proofs.Common.{◌≡◌, ◌+◌, ◌<◌, ◌∙◌, get_or, take, subst, ap}
use Rattle.bit_sets.specs.BitSet.{greatest}
use Rattle.bit_sets.specs.Lanes.{filled_in, most_bytes}
use Rattle.bit_sets.proofs.NumberLemmas.{each-at_most}
use Rattle.bit_sets.proofs.FillingLemmas.{too-long, filled-step}
use Rattle.bit_sets.proofs.filling.fill.Goals as goal

pub add-requires-clause-lengths : goal.add-requires-clause-lengths
add-requires-clause-lengths c = each-at_most most_bytes c.loop-at.filling.lengths c.loop-at.invariant.short

pub returns-then-greatest-gt-MOST_BYTES : goal.returns-then-greatest-gt-MOST_BYTES
returns-then-greatest-gt-MOST_BYTES c =
    let pair = get_or c.args.order.now c.loop-at.at (0, 0) in
    let step : c.add.new.self ≡ filled_in c.args.sets.now (take (c.loop-at.at + 1) c.args.order.now) =
    filled-step c.args.sets.now c.args.order.now c.loop-at.at c.loop-at.filling c.add.new.self c.index-sets-number.result c.loop-at-test.true
    (c.requires.within c.loop-at.at (0, 0) c.loop-at-test.true) c.loop-at.invariant.so_far c.in_ok-add.ensures in
    let long : most_bytes < greatest c.add.new.self.lengths =
    subst (λ n. most_bytes < n) (c.greatest.ensures ∙ ap greatest c.items.ensures) c.if-greatest-gt-MOST_BYTES.true in
    too-long c.args.sets.now c.args.order.now (c.loop-at.at + 1) c.add.new.self step long
