use Rattle.thin_files.proofs.thin.second_function.address_test.Goals as goal

pub returns-in-None : goal.returns-in-None
returns-in-None c = λ register object offset tested same.
    let shape = c.in-CallForm-Some-default-None-false-default-default-false in
    let written = c.items.ensures in
    let is = shape.is in
    c.in-None.ensures object offset tested (cc (written, is, same))
