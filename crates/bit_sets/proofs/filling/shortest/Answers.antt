use Rattle.std.proofs.Common.{◌∙◌, sym, arith, get_or}
use Rattle.std.specs.Prelude.{◌==◌}
use Rattle.std.proofs.lemmas.List.Sums.{position_or_len_is}
use Rattle.std.proofs.lemmas.Bool.{eq-eqb, ne_eqb}
use Rattle.bit_sets.specs.BitSet.{least}
use Rattle.bit_sets.proofs.NumberLemmas.{least-reached}
use Rattle.bit_sets.proofs.filling.shortest.Goals as goal

pub returns-then-lengths-lane-clause-here : goal.returns-then-lengths-lane-clause-here
returns-then-lengths-lane-clause-here c =
    let lengths = c.args.lengths.now in
    sym (position_or_len_is (λ len. len == least lengths) lengths c.loop-lane.lane 0 c.loop-lane.auto.lane-end
    (λ k before. ne_eqb (get_or lengths k 0) (least lengths) (λ same. c.loop-lane.invariant k before (same ∙ sym c.least-low.ensures)))
    (λ within. eq-eqb (get_or lengths c.loop-lane.lane 0) (least lengths) (c.if-lengths-lane.true ∙ c.least-low.ensures)))

pub unreachable-requires : goal.unreachable-requires
unreachable-requires c =
    let lengths = c.args.lengths.now in
    let (k, within, at) = least-reached lengths c.requires in
    c.loop-lane.invariant k (omega (arith, within, c.loop-lane-test.false)) (at ∙ sym c.least-low.ensures)
