use Rattle.std.proofs.Common.{sym, subst}
use Rattle.ir_print.specs.ModuleText.{module_text}
use Rattle.ir_print.specs.Printing.{Prints}
use Rattle.ir_print.proofs.printing.print_through.Goals as goal

-- what `out` holds is what the output's sink holds, since that is the same reference
pub returns : goal.returns
returns g c =
    subst (λ o. Prints (g.O.Sink.taken c.args.out.now) (g.O.Sink.taken o) (g.O.Sink.faults c.args.out.now) (g.O.Sink.faults o)
    (module_text c.args.m.now) c.print_whole-result.result)
    (sym (c.out-1.given.1 (sym c.print_whole-result.ensures.same_reference))) c.print_whole-result.ensures.prints
