use Rattle.printed_modules.proofs.ExampleLaws.{example_is_printed}
use Rattle.printed_modules.proofs.laws.example_is_printed.Goals as goal

pub returns : goal.returns
returns c = example_is_printed
