use Rattle.std.proofs.Common.{ℕ, drop, subst}
use Rattle.type_grammar.specs.declared.bare.Bare.{Bare}
use Rattle.type_grammar.specs.Levels.{levels}
use Rattle.type_grammar.specs.Names.{a_constant}
use Rattle.type_grammar.specs.Reading.{reads}
use Rattle.unit_grammar.specs.Seeing.{Gives, tokens}
use Rattle.unit_grammar.proofs.AnswerLaws.{tells}
use Rattle.type_grammar.proofs.LevelLaws.{any}
use Rattle.type_grammar.proofs.reading.read_constant.Goals as goal

pub returns : goal.returns
returns c =
    let gives : Gives {A = Bare} (tokens c.args.input.now) c.constant.result (reads levels a_constant (drop c.args.at (tokens c.args.input.now))) =
    subst (λ (n : ℕ). Gives {A = Bare} (tokens c.args.input.now) c.constant.result (reads n a_constant (drop c.args.at (tokens c.args.input.now)))) c.levels.ensures c.constant.ensures in
    record {
      gives = gives;
      longest = tells (any levels a_constant) (tokens c.args.input.now) (drop c.args.at (tokens c.args.input.now)) c.constant.result gives;
    }
