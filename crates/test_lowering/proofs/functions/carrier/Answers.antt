use Rattle.std.proofs.Common.{arith, ◌<◌}
use Rattle.std.proofs.lemmas.Option.{slice_get_within}
use Rattle.test_lowering.proofs.ExactLaws.{carried_at}
use Rattle.test_lowering.proofs.functions.carrier.Goals as goal

-- the tested identifier is carried, so that the loop meets its carrier
pub unreachable-requires : goal.unreachable-requires
unreachable-requires c =
    let found = carried_at c.args.variables.now c.args.tested.now c.requires in
    let within = slice_get_within c.args.variables.now found.0 found.1.0 found.1.1 in
    let met : found.0 < c.loop-number.number = omega arith in
    c.loop-number.invariant found.0 found.1.0 met found.1.1 found.1.2
