use Rattle.std.proofs.Common.{ℕ, drop, subst}
use Rattle.ir_values.specs.declared.types.Ty.{Ty}
use Rattle.type_grammar.specs.Levels.{levels}
use Rattle.type_grammar.specs.Names.{a_value_type}
use Rattle.type_grammar.specs.Reading.{reads}
use Rattle.unit_grammar.specs.Seeing.{Gives, tokens}
use Rattle.unit_grammar.proofs.AnswerLaws.{tells}
use Rattle.type_grammar.proofs.LevelLaws.{any}
use Rattle.type_grammar.proofs.reading.read_value_type.Goals as goal

pub returns : goal.returns
returns c =
    let gives : Gives {A = Ty} (tokens c.args.input.now) c.value_ty.result (reads levels a_value_type (drop c.args.at (tokens c.args.input.now))) =
    subst (λ (n : ℕ). Gives {A = Ty} (tokens c.args.input.now) c.value_ty.result (reads n a_value_type (drop c.args.at (tokens c.args.input.now)))) c.levels.ensures c.value_ty.ensures in
    record {
      gives = gives;
      longest = tells (any levels a_value_type) (tokens c.args.input.now) (drop c.args.at (tokens c.args.input.now)) c.value_ty.result gives;
    }
