use Rattle.std.proofs.Common.{drop, sym, subst}
use Rattle.type_grammar.specs.declared.bare.Bare.{Bare}
use Rattle.unit_grammar.specs.Readers.{Read}
use Rattle.unit_grammar.specs.Seeing.{Gives, tokens}
use Rattle.type_grammar.proofs.LeftLaws.{reads_left}
use Rattle.type_grammar.proofs.left.left.Goals as goal

pub returns : goal.returns
returns c =
    subst (λ (r : Read Bare). Gives {A = Bare} (tokens c.args.input.now) c.left_constant.result r)
    (sym (reads_left c.args.levels (drop c.args.at (tokens c.args.input.now)))) c.left_constant.ensures
