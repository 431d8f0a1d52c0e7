use Rattle.std.proofs.Common.{List, codes, drop, sym, subst}
use Rattle.ir_values.specs.declared.units.Arg.{Arg}
use Rattle.type_grammar.specs.Levels.{levels}
use Rattle.type_grammar.specs.Reading.{reads}
use Rattle.unit_grammar.specs.Readers.{Read}
use Rattle.unit_grammar.specs.Seeing.{Gives, tokens}
use Rattle.unit_grammar.specs.Signs.{mark}
use Rattle.unit_grammar.proofs.ListLemmas.{list_is}
use Rattle.instruction_grammar.specs.Calls.{argument, argument_list}
use Rattle.instruction_grammar.proofs.calls.argument_list.Goals as goal

pub returns : goal.returns
unfolding argument_list
returns c =
    let ts = drop c.args.at (tokens c.args.input.now) in
    subst (λ (r : Read (List Arg)). Gives {A = List Arg} (tokens c.args.input.now) c.listed_arguments.result r)
    (sym (list_is (reads levels) (mark (codes ",")) argument ts)) c.listed_arguments.ensures
