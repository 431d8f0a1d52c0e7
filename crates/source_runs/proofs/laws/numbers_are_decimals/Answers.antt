use Rattle.source_runs.proofs.NumberLaws.{decimals_are_read, only_decimals_are_read}
use Rattle.source_runs.proofs.laws.numbers_are_decimals.Goals as goal

pub returns-clause-read : goal.returns-clause-read
returns-clause-read c = decimals_are_read

pub returns-clause-only : goal.returns-clause-only
returns-clause-only c = only_decimals_are_read
