-- What the reader of phis computes: each arm is judged as soon as it is read.
use Rattle.std.specs.Prelude.{ℕ, List, [], ◌∷◌, length, None, codes}
use Rattle.ir_values.specs.declared.types.Ty.{Ty}
use Rattle.ir_values.specs.declared.constants.Operand.{Operand}
use Rattle.ir_values.specs.declared.units.Form.{Form}
use Rattle.ir_values.specs.declared.units.Form.TheVariants.{PhiForm}
use Rattle.unit_grammar.specs.Signs.{mark, word}
use Rattle.unit_grammar.specs.Readers.{Reader, read, found, then_read, sign_read, many_read}
use Rattle.type_grammar.specs.Names.{a_type}
use Rattle.type_grammar.specs.Levels.{levels}
use Rattle.type_grammar.specs.Reading.{reads}
use Rattle.instruction_grammar.specs.Memory.{arm_of}

unfoldable pub arms_read : Ty → Reader (List (Operand × List ℕ))
arms_read ty ts =
    then_read (read (reads levels) (arm_of ty) ts)
    (λ a rest. many_read (length rest) (sign_read (mark (codes ",")) (read (reads levels) (arm_of ty))) (a ∷ []) rest)

unfoldable pub phi_read : Reader Form
phi_read =
    sign_read (word (codes "phi"))
    (λ ts. then_read (reads levels a_type ts) (λ ty rest. then_read (arms_read ty rest) (λ xs last. found (PhiForm None ty xs) last)))
