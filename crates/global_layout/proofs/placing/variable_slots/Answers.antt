use Rattle.global_layout.proofs.PlacingLemmas.{variable-too-long}
use Rattle.global_layout.proofs.placing.variable_slots.Goals as goal

pub returns-then-not-add_object : goal.returns-then-not-add_object
returns-then-not-add_object c =
    variable-too-long c.args.shapes.now c.args.number c.args.homes c.args.objects.now c.loop-at.at c.loop-at.slots _ c.requires.shapes c.loop-at-test.true
    (c.requires.within c.loop-at.at 0 c.loop-at-test.true) c.loop-at.invariant.so_far c.if-not-add_object.ensures
