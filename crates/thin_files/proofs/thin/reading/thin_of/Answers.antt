use Rattle.std.proofs.Common.{◌≡◌, true}
use Rattle.thin_files.proofs.Determined.{no_other}
use Rattle.thin_files.proofs.thin.reading.thin_of.Goals as goal

pub returns-else-branch : goal.returns-else-branch
returns-else-branch c = no_other c.args.units.now c.in-Some.thin (rw c.in-Some.is at c.in_ok-thin.ensures)
    (λ is. let allowed : c.in_ok-is_allowed-in-Some.field-0 ≡ true = c.in_ok-is_allowed-in-Some.ensures.1 is in cc)
