-- Values and what instructions share.
--
-- Source: LLVM Language Reference, "Instruction Reference". Differs: a value is judged at the type that is written before it,
-- and what changes nothing is read and says nothing.
use Rattle.std.specs.Prelude.{ℕ, List, [], ◌∷◌, codes}
use Rattle.ir_lex.specs.declared.token.Kind.TheVariants.{Word, Local, Mark}
use Rattle.ir_values.specs.declared.types.Ty.{Ty}
use Rattle.ir_values.specs.declared.types.Ty.TheVariants.{Ptr}
use Rattle.ir_values.specs.declared.constants.Operand.{Operand}
use Rattle.ir_values.specs.declared.constants.Operand.TheVariants.{Const, Reg}
use Rattle.unit_grammar.specs.Signs.{of_kind, mark, word, name}
use Rattle.unit_grammar.specs.Grammar.{token, ◌▹◌, ◌⋆◌, ◌or◌, at, mapped}
use Rattle.type_grammar.specs.declared.bare.Bare.{Bare}
use Rattle.type_grammar.specs.Names.{a_type, a_constant, at_type}
use Rattle.type_grammar.specs.Types.{IsPart}
use Rattle.instruction_grammar.specs.declared.bare_operand.BareOperand.{BareOperand}
use Rattle.instruction_grammar.specs.declared.bare_operand.BareOperand.TheVariants.{Const as BareConst, Reg as BareReg}

-- the operand that stands behind a type
abbrev pub operand_at : Ty → BareOperand → Operand
operand_at ty (BareReg name) = Reg name
operand_at ty (BareConst bare) = Const (at_type ty bare)

unfoldable pub register : IsPart BareOperand
register = token (of_kind Local) (λ t. BareReg (name Local t))

unfoldable pub fixed : IsPart BareOperand
fixed = mapped BareConst (at a_constant)

-- `V`
unfoldable pub value : IsPart BareOperand
value = register or fixed

abbrev pub typed_of : Ty × BareOperand → Ty × Operand
typed_of x = (x.0, operand_at x.0 x.1)

-- `T V`
unfoldable pub typed_value : IsPart (Ty × Operand)
typed_value = mapped typed_of (at a_type ⋆ value)

abbrev pub pair_of : Ty × (BareOperand × BareOperand) → Ty × (Operand × Operand)
pair_of x = (x.0, (operand_at x.0 x.1.0, operand_at x.0 x.1.1))

-- `, V`
unfoldable pub next_value : IsPart BareOperand
next_value = mark (codes ",") ▹ value

-- `T V, V`
unfoldable pub typed_pair : IsPart (Ty × (Operand × Operand))
typed_pair = mapped pair_of (at a_type ⋆ value ⋆ next_value)

-- `, T V`
unfoldable pub next_typed_value : IsPart (Ty × Operand)
next_typed_value = mark (codes ",") ▹ typed_value

-- `ptr V`
unfoldable pub pointer : IsPart Operand
pointer = mapped (operand_at Ptr) (word (codes "ptr") ▹ value)

-- `label %L`
unfoldable pub target : IsPart (List ℕ)
target = word (codes "label") ▹ token (of_kind Local) (name Local)

-- `, label %L`
unfoldable pub next_target : IsPart (List ℕ)
next_target = mark (codes ",") ▹ target
