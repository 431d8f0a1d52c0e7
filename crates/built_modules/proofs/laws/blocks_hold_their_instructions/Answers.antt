use Rattle.built_modules.proofs.BlockLaws.{blocks_hold_all, labels_are_theirs}
use Rattle.built_modules.proofs.laws.blocks_hold_their_instructions.Goals as goal

pub returns : goal.returns
returns c = record { all = blocks_hold_all; labels = labels_are_theirs }
