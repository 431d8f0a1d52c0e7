use Rattle.thin_files.proofs.Example.{example-allowed}
use Rattle.std.proofs.Common.{refl}
use Rattle.thin_files.proofs.thin.laws.thin_is_possible.Goals as goal

pub returns : goal.returns
returns c = record { forms = refl; places = refl; second = refl; allowed = example-allowed }
