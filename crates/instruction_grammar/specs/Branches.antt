-- Branches and the ends of functions.
--
-- Source: LLVM Language Reference, "Terminator Instructions". Differs: a returned value may be written behind `void`.
use Rattle.std.specs.Prelude.{ℕ, List, Option, Some, None, codes}
use Rattle.ir_lex.specs.declared.token.Kind.TheVariants.{Word, Mark}
use Rattle.ir_values.specs.declared.types.Ty.{Ty}
use Rattle.ir_values.specs.declared.types.Ty.TheVariants.{Int, Void}
use Rattle.ir_values.specs.declared.types.Width.TheVariants.{W1}
use Rattle.ir_values.specs.declared.constants.Const.{Const}
use Rattle.ir_values.specs.declared.constants.Operand.{Operand}
use Rattle.ir_values.specs.declared.units.BranchText.{BranchText}
use Rattle.ir_values.specs.declared.units.BranchText.TheVariants.{Br, CondBr, Switch}
use Rattle.ir_values.specs.declared.units.EndText.{EndText}
use Rattle.ir_values.specs.declared.units.EndText.TheVariants.{RetVoid, Ret, Unreachable}
use Rattle.ir_values.specs.declared.units.Form.{Form}
use Rattle.ir_values.specs.declared.units.Form.TheVariants.{BranchForm, EndForm}
use Rattle.unit_grammar.specs.Signs.{mark, word}
use Rattle.unit_grammar.specs.Grammar.{◌▹◌, ◌⋆◌, ◌or◌, maybe, many, at, mapped, ◌◃◌, sign}
use Rattle.type_grammar.specs.declared.bare.Bare.{Bare}
use Rattle.type_grammar.specs.Names.{a_type, a_value_type, a_constant, at_type}
use Rattle.type_grammar.specs.Types.{IsPart}
use Rattle.instruction_grammar.specs.declared.bare_operand.BareOperand.{BareOperand}
use Rattle.instruction_grammar.specs.Operands.{operand_at, value, typed_value, target, next_target}

-- `label %L`
unfoldable pub jump : IsPart BranchText
jump = mapped Br target

-- `, label %L, label %L`
unfoldable pub two_targets : IsPart (List ℕ × List ℕ)
two_targets = next_target ⋆ next_target

abbrev pub fork_of : BareOperand × (List ℕ × List ℕ) → BranchText
fork_of x = CondBr (operand_at (Int W1) x.0) x.1.0 x.1.1

-- `i1 V, label %L, label %L`
unfoldable pub fork : IsPart BranchText
fork = mapped fork_of (word (codes "i1") ▹ value ⋆ two_targets)

unfoldable pub branch_text : IsPart BranchText
branch_text = jump or fork

-- `br label %L` and `br i1 V, label %L, label %L`
unfoldable pub branch : IsPart Form
branch = mapped BranchForm (word (codes "br") ▹ branch_text)

abbrev pub case_of : Ty × (Bare × List ℕ) → Ty × Const × List ℕ
case_of x = (x.0, at_type x.0 x.1.0, x.1.1)

-- `T C, label %L`
unfoldable pub case_part : IsPart (Ty × Const × List ℕ)
case_part = mapped case_of (at a_type ⋆ at a_constant ⋆ next_target)

unfoldable pub cases : IsPart (List (Ty × Const × List ℕ))
cases = many case_part

-- `, label %L [ T C, label %L .. ]`
unfoldable pub switch_targets : IsPart (List ℕ × List (Ty × Const × List ℕ))
switch_targets = next_target ⋆ mark (codes "[") ▹ cases ◃ mark (codes "]")

abbrev pub switch_of : (Ty × Operand) × (List ℕ × List (Ty × Const × List ℕ)) → Form
switch_of x = BranchForm (Switch x.0.0 x.0.1 x.1.0 x.1.1)

-- `switch T V, label %L [ T C, label %L .. ]`
unfoldable pub switch : IsPart Form
switch = mapped switch_of (word (codes "switch") ▹ typed_value ⋆ switch_targets)

abbrev pub void_return_of : Option BareOperand → EndText
void_return_of None = RetVoid
void_return_of (Some bare) = Ret Void (operand_at Void bare)

-- `void`, or `void V`
unfoldable pub void_return : IsPart EndText
void_return = mapped void_return_of (word (codes "void") ▹ maybe value)

abbrev pub value_return_of : Ty × BareOperand → EndText
value_return_of x = Ret x.0 (operand_at x.0 x.1)

-- `T V`, for a type that isn't `void`
unfoldable pub value_return : IsPart EndText
value_return = mapped value_return_of (at a_value_type ⋆ value)

unfoldable pub return_text : IsPart EndText
return_text = void_return or value_return

-- `ret void` and `ret T V`
unfoldable pub return_part : IsPart Form
return_part = mapped EndForm (word (codes "ret") ▹ return_text)

unfoldable pub unreachable : IsPart Form
unreachable = mapped (λ _. EndForm Unreachable) (sign (word (codes "unreachable")))
