use Rattle.ir_print.proofs.PrintLemmas.{printed-whole, printed-part}
use Rattle.ir_print.proofs.printing.print_whole.Goals as goal

pub returns-in-Ok-clause-prints : goal.returns-in-Ok-clause-prints
returns-in-Ok-clause-prints g c = printed-whole _ _ _ _ c.requires.none_waits c.requires.not_failed c.put_module.ensures c.in-Ok.ensures.sent c.in-Ok.ensures.ok.0 c.in-Ok.ensures.ok.1

pub returns-in-Err-clause-prints : goal.returns-in-Err-clause-prints
returns-in-Err-clause-prints g c = printed-part _ _ _ _ c.requires.none_waits c.requires.not_failed c.put_module.ensures c.in-Err.ensures.sent c.in-Err.ensures.err
