use Rattle.std.proofs.Common.{false}
use Rattle.sized_modules.proofs.CleanLemmas.{clean_are_laid}
use Rattle.sized_modules.proofs.laws.clean_types_have_sizes.Goals as goal

pub returns : goal.returns
returns c = clean_are_laid false
