use Rattle.std.proofs.Common.{◌∙◌}
use Rattle.ir_memories.proofs.PlaceLaws.{same_place}
use Rattle.ir_memories.proofs.symbolic.place_of.Goals as goal

pub returns : goal.returns
returns c = c.place_of.ensures ∙ same_place c.args.object 0 c.args.items.now
