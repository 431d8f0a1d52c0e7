use Rattle.printed_modules.proofs.ModuleLaws.{lines_are_the_module}
use Rattle.printed_modules.proofs.laws.lines_are_the_module.Goals as goal

pub returns : goal.returns
returns c = lines_are_the_module
