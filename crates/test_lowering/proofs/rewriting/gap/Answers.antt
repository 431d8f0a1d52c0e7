use Rattle.std.proofs.Common.{◌≡◌, ◌≤◌, ◌-◌, ◌*◌, arith, ap, sym, ◌∙◌, subst}
use Rattle.test_lowering.specs.Rewriting.{pad}
use Rattle.test_lowering.proofs.RewritingLaws.{gap-variable, words-in-slot}
use Rattle.test_lowering.proofs.rewriting.gap.Goals as goal

pub overflow_sub-result : goal.overflow_sub-result
overflow_sub-result c = rw (c.pad.ensures, c.extent.ensures) (words-in-slot c.args.variable.now c.requires)

pub returns : goal.returns
returns c = rw (c.pad.ensures, c.extent.ensures) (sym (gap-variable c.args.variable.now))
