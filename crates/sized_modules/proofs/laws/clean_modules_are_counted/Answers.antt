use Rattle.sized_modules.proofs.CountLemmas.{clean_are_counted}
use Rattle.sized_modules.proofs.laws.clean_modules_are_counted.Goals as goal

pub returns : goal.returns
returns c = clean_are_counted
