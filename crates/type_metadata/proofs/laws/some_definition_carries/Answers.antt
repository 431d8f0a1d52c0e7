use Rattle.type_metadata.proofs.ExampleLaws.{example}
use Rattle.type_metadata.proofs.laws.some_definition_carries.Goals as goal

pub returns : goal.returns
returns c = example
