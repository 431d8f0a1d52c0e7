use Rattle.sized_modules.proofs.RunLaws as laws
use Rattle.sized_modules.proofs.laws.clean_files_can_run.Goals as goal

pub returns : goal.returns
returns c = laws.clean_files_can_run
