use Rattle.std.proofs.Common.{List, codes, drop, sym, subst}
use Rattle.ir_values.specs.declared.units.Param.{Param}
use Rattle.type_grammar.specs.Levels.{levels}
use Rattle.type_grammar.specs.Reading.{reads}
use Rattle.unit_grammar.specs.Readers.{Read}
use Rattle.unit_grammar.specs.Seeing.{Gives, tokens}
use Rattle.unit_grammar.specs.Signs.{mark}
use Rattle.head_grammar.specs.Parameters.{parameter, some_parameters}
use Rattle.head_grammar.proofs.SomeLemmas.{some_is}
use Rattle.head_grammar.proofs.parameters.some_parameters.Goals as goal

pub returns : goal.returns
unfolding some_parameters
returns c =
    let ts = drop c.args.at (tokens c.args.input.now) in
    subst (λ (r : Read (List Param)). Gives {A = List Param} (tokens c.args.input.now) c.first_parameters.result r)
    (sym (some_is (reads levels) (mark (codes ",")) (parameter c.args.declared) ts)) c.first_parameters.ensures
