use Rattle.type_grammar.proofs.LevelLaws.{deepens}
use Rattle.type_grammar.proofs.laws.opened_is_told.Goals as goal

pub returns : goal.returns
returns c = deepens
