use Rattle.thin_files.proofs.Tails.{form_at}
use Rattle.thin_files.proofs.thin.second_function.second_units.Goals as goal

pub returns-in-None : goal.returns-in-None
returns-in-None c = λ name register object offset tested rest same.
    c.in-None.ensures name register object offset tested
    (form_at c.args.units.now _ 0 c.head-item.result c.head-item.is same)
    (form_at c.args.units.now _ 1 c.test-item.result c.test-item.is same)
    (form_at c.args.units.now _ 2 c.end-item.result c.end-item.is same)
