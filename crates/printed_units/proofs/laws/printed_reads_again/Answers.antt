use Rattle.printed_units.proofs.ReadsAgain.{printed_reads_again}
use Rattle.printed_units.proofs.laws.printed_reads_again.Goals as goal

pub returns : goal.returns
returns c = printed_reads_again
