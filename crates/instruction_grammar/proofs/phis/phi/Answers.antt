use Rattle.std.proofs.Common.{drop, sym, subst}
use Rattle.ir_values.specs.declared.units.Form.{Form}
use Rattle.unit_grammar.specs.Readers.{Read}
use Rattle.unit_grammar.specs.Seeing.{Gives, tokens}
use Rattle.instruction_grammar.proofs.PhiLaws.{phi_is}
use Rattle.instruction_grammar.proofs.phis.phi.Goals as goal

pub returns : goal.returns
returns c =
    subst (λ (r : Read Form). Gives {A = Form} (tokens c.args.input.now) c.phi_text.result r)
    (sym (phi_is (drop c.args.at (tokens c.args.input.now)))) c.phi_text.ensures
