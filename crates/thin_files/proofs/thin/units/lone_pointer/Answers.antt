use Rattle.thin_files.proofs.thin.units.lone_pointer.Goals as goal

pub returns-in-None-pointer_name : goal.returns-in-None-pointer_name
returns-in-None-pointer_name c = λ name same. c.in-None-pointer_name.ensures name (cc (c.in-Some.ensures))
