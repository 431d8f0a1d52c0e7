-- Loads, stores, extractions, phis, and numbers of pointers.
--
-- Source: LLVM Language Reference, "'load' Instruction", "'store' Instruction", "'extractvalue' Instruction", "'phi'
-- Instruction", "'ptrtoint .. to' Instruction". Differs: an alignment says nothing, a part is extracted from `{ ptr, i1 }`
-- alone, and a phi has at least one arm.
use Rattle.std.specs.Prelude.{ℕ, List, map, Option, None, codes}
use Rattle.ir_lex.specs.declared.token.Kind.TheVariants.{Word, Local, Number, Mark}
use Rattle.ir_values.specs.declared.types.Ty.{Ty}
use Rattle.ir_values.specs.declared.types.Ty.TheVariants.{Pair}
use Rattle.ir_values.specs.declared.constants.Operand.{Operand}
use Rattle.ir_values.specs.declared.units.Form.{Form}
use Rattle.ir_values.specs.declared.units.Form.TheVariants.{LoadForm, StoreForm, ExtractForm, PhiForm, NumberForm}
use Rattle.unit_grammar.specs.Signs.{of_kind, mark, word, name}
use Rattle.unit_grammar.specs.Grammar.{token, ◌▹◌, ◌⋆◌, at, mapped, ◌◃◌, sign, some_with}
use Rattle.type_grammar.specs.Names.{a_type}
use Rattle.type_grammar.specs.Numbers.{length_of}
use Rattle.type_grammar.specs.Types.{IsPart}
use Rattle.instruction_grammar.specs.declared.bare_operand.BareOperand.{BareOperand}
use Rattle.word_grammar.specs.Places.{next_placed}
use Rattle.instruction_grammar.specs.Operands.{operand_at, value, typed_value, pointer}

-- `, ptr V [, align N]`
unfoldable pub accessed : IsPart Operand
accessed = mapped (λ x. x.0) (mark (codes ",") ▹ pointer ⋆ next_placed)

abbrev pub load_of : Ty × Operand → Form
load_of x = LoadForm None x.0 x.1

-- `load T, ptr V [, align N]`
unfoldable pub load : IsPart Form
load = mapped load_of (word (codes "load") ▹ at a_type ⋆ accessed)

abbrev pub store_of : (Ty × Operand) × Operand → Form
store_of x = StoreForm x.0.0 x.0.1 x.1

-- `store T V, ptr V [, align N]`
unfoldable pub store : IsPart Form
store = mapped store_of (word (codes "store") ▹ typed_value ⋆ accessed)

abbrev pub extract_of : Unit {0} × (BareOperand × Option ℕ) → Form
extract_of x = ExtractForm None (operand_at Pair x.1.0) x.1.1

-- the number of a part behind a comma, from 0 to 2^64 - 1; `-0` is 0
unfoldable pub extracted_part : IsPart (Option ℕ)
extracted_part = mark (codes ",") ▹ token (of_kind Number) (λ t. length_of t.bytes)

-- `{ ptr, i1 }`
unfoldable pub pair_sign : IsPart (Unit {0})
pair_sign = mark (codes "{") ▹ word (codes "ptr") ▹ mark (codes ",") ▹ word (codes "i1") ▹ sign (mark (codes "}"))

-- `extractvalue { ptr, i1 } V, N`
unfoldable pub extract : IsPart Form
extract = mapped extract_of (word (codes "extractvalue") ▹ pair_sign ⋆ value ⋆ extracted_part)

-- `, %L ]`
unfoldable pub arm_end : IsPart (List ℕ)
arm_end = mark (codes ",") ▹ token (of_kind Local) (name Local) ◃ mark (codes "]")

-- `[ V, %L ]`
unfoldable pub arm : IsPart (BareOperand × List ℕ)
arm = mark (codes "[") ▹ value ⋆ arm_end

unfoldable pub arms : IsPart (List (BareOperand × List ℕ))
arms = some_with (mark (codes ",")) arm

-- an arm's value is judged at the type of the phi
abbrev pub arm_at : Ty → BareOperand × List ℕ → Operand × List ℕ
arm_at ty x = (operand_at ty x.0, x.1)

unfoldable pub arm_of : Ty → IsPart (Operand × List ℕ)
arm_of ty = mapped (arm_at ty) arm

abbrev pub phi_of : Ty × List (BareOperand × List ℕ) → Form
phi_of x = PhiForm None x.0 (map (arm_at x.0) x.1)

-- `phi T [ V, %L ], ..`
unfoldable pub phi : IsPart Form
phi = mapped phi_of (word (codes "phi") ▹ at a_type ⋆ arms)

-- `ptrtoint ptr V to i64`
unfoldable pub number : IsPart Form
number = mapped (λ pointer. NumberForm None pointer) (word (codes "ptrtoint") ▹ (pointer ◃ word (codes "to")) ◃ word (codes "i64"))
