use Rattle.printed_units.proofs.ReadsAgain.{printed_reads_again}
use Rattle.printed_modules.proofs.ModuleLaws.{printed_is_same}
use Rattle.printed_modules.proofs.laws.printed_is_same_again.Goals as goal

pub returns : goal.returns
returns c = printed_is_same printed_reads_again
