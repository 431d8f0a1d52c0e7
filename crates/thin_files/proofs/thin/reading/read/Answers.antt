use Rattle.thin_files.proofs.Reading.{whole, none_whole}
use Rattle.thin_files.proofs.thin.reading.read.Goals as goal

pub returns-in-Some : goal.returns-in-Some
returns-in-Some c = whole c.args.units.now c.head_place-place.result _ (rw c.in-Some.is at c.in_ok-thin.ensures)

pub returns-in-None : goal.returns-in-None
returns-in-None c = none_whole c.args.units.now c.head_place-place.result c.head_place-place.ensures.value
    c.head_place-place.ensures.range (rw c.in-None.is at c.in_ok-thin.ensures)
