use Rattle.thin_files.proofs.Determined.{determined}
use Rattle.thin_files.proofs.thin.laws.thin_is_determined.Goals as goal

pub returns : goal.returns
returns c = determined
