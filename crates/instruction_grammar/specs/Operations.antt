-- Operations, comparisons, selections, casts and addresses.
--
-- Source: LLVM Language Reference, "Binary Operations", "Bitwise Binary Operations", "'icmp' Instruction", "'select'
-- Instruction", "Conversion Operations", "'getelementptr' Instruction". Differs: the words between an operation and its
-- type say nothing.
use Rattle.std.specs.Prelude.{ℕ, cond, bytes_eq, List, [], ◌∷◌, None, codes}
use Rattle.ir_lex.specs.declared.token.Kind.TheVariants.{Word, Mark}
use Rattle.ir_lex.specs.Words.{operation_words, predicate_words}
use Rattle.ir_values.specs.declared.types.Ty.{Ty}
use Rattle.ir_values.specs.declared.constants.Operand.{Operand}
use Rattle.ir_values.specs.declared.instructions.BinOp.{BinOp}
use Rattle.ir_values.specs.declared.instructions.BinOp.TheVariants.{Add, Sub, Mul, UDiv, SDiv, URem, SRem, Shl, LShr, AShr, And, Or, Xor}
use Rattle.ir_values.specs.declared.instructions.Pred.{Pred}
use Rattle.ir_values.specs.declared.instructions.Pred.TheVariants.{Eq, Ne, Ugt, Uge, Ult, Ule, Sgt, Sge, Slt, Sle}
use Rattle.ir_values.specs.declared.instructions.CastOp.{CastOp}
use Rattle.ir_values.specs.declared.instructions.CastOp.TheVariants.{Zext, Sext, Trunc}
use Rattle.ir_values.specs.declared.units.Form.{Form}
use Rattle.ir_values.specs.declared.units.Form.TheVariants.{BinaryForm, CompareForm, SelectForm, CastForm, AddressForm}
use Rattle.unit_grammar.specs.Signs.{mark, word, words}
use Rattle.unit_grammar.specs.Grammar.{token, ◌▹◌, ◌⋆◌, many, at, mapped}
use Rattle.type_grammar.specs.Names.{a_type}
use Rattle.type_grammar.specs.Types.{IsPart}
use Rattle.word_grammar.specs.Runs.{instruction_run}
use Rattle.instruction_grammar.specs.Operands.{typed_value, typed_pair, next_typed_value, pointer}

abbrev pub operation_of : List ℕ → BinOp
operation_of bytes =
    cond (bytes_eq bytes (codes "add")) Add
    (cond (bytes_eq bytes (codes "sub")) Sub
    (cond (bytes_eq bytes (codes "mul")) Mul
    (cond (bytes_eq bytes (codes "udiv")) UDiv
    (cond (bytes_eq bytes (codes "sdiv")) SDiv
    (cond (bytes_eq bytes (codes "urem")) URem
    (cond (bytes_eq bytes (codes "srem")) SRem
    (cond (bytes_eq bytes (codes "shl")) Shl
    (cond (bytes_eq bytes (codes "lshr")) LShr
    (cond (bytes_eq bytes (codes "ashr")) AShr
    (cond (bytes_eq bytes (codes "and")) And
    (cond (bytes_eq bytes (codes "or")) Or
    Xor)))))))))))

unfoldable pub binary_words : List (List ℕ)
binary_words = operation_words

unfoldable pub operation : IsPart BinOp
operation = token (words binary_words) (λ t. operation_of t.bytes)

abbrev pub binary_of : BinOp × (Unit {0} × (Ty × (Operand × Operand))) → Form
binary_of x = BinaryForm None x.0 x.1.1.0 x.1.1.1.0 x.1.1.1.1

-- `OP W T V, V`
unfoldable pub binary : IsPart Form
binary = mapped binary_of (operation ⋆ instruction_run ⋆ typed_pair)

abbrev pub predicate_of : List ℕ → Pred
predicate_of bytes =
    cond (bytes_eq bytes (codes "eq")) Eq
    (cond (bytes_eq bytes (codes "ne")) Ne
    (cond (bytes_eq bytes (codes "ugt")) Ugt
    (cond (bytes_eq bytes (codes "uge")) Uge
    (cond (bytes_eq bytes (codes "ult")) Ult
    (cond (bytes_eq bytes (codes "ule")) Ule
    (cond (bytes_eq bytes (codes "sgt")) Sgt
    (cond (bytes_eq bytes (codes "sge")) Sge
    (cond (bytes_eq bytes (codes "slt")) Slt
    Sle))))))))

unfoldable pub compare_words : List (List ℕ)
compare_words = predicate_words

unfoldable pub predicate : IsPart Pred
predicate = token (words compare_words) (λ t. predicate_of t.bytes)

abbrev pub compare_of : Unit {0} × (Pred × (Ty × (Operand × Operand))) → Form
compare_of x = CompareForm None x.1.0 x.1.1.0 x.1.1.1.0 x.1.1.1.1

-- `icmp W PRED T V, V`
unfoldable pub compare : IsPart Form
compare = mapped compare_of (word (codes "icmp") ▹ instruction_run ⋆ predicate ⋆ typed_pair)

-- `, T V, T V`
unfoldable pub two_next_values : IsPart ((Ty × Operand) × (Ty × Operand))
two_next_values = next_typed_value ⋆ next_typed_value

abbrev pub select_of : (Ty × Operand) × ((Ty × Operand) × (Ty × Operand)) → Form
select_of x = SelectForm None x.0.0 x.0.1 x.1.0.0 x.1.0.1 x.1.1.0 x.1.1.1

-- `select T V, T V, T V`
unfoldable pub select : IsPart Form
select = mapped select_of (word (codes "select") ▹ typed_value ⋆ two_next_values)

unfoldable pub cast_words : List (List ℕ)
cast_words = codes "zext" ∷ codes "sext" ∷ codes "trunc" ∷ []

abbrev pub cast_op_of : List ℕ → CastOp
cast_op_of bytes = cond (bytes_eq bytes (codes "zext")) Zext (cond (bytes_eq bytes (codes "sext")) Sext Trunc)

unfoldable pub cast_op : IsPart CastOp
cast_op = token (words cast_words) (λ t. cast_op_of t.bytes)

-- `to T`
unfoldable pub new_type : IsPart Ty
new_type = word (codes "to") ▹ at a_type

abbrev pub cast_of : CastOp × (Unit {0} × ((Ty × Operand) × Ty)) → Form
cast_of x = CastForm None x.0 x.1.1.0.0 x.1.1.0.1 x.1.1.1

-- `zext W T V to T`
unfoldable pub cast : IsPart Form
cast = mapped cast_of (cast_op ⋆ instruction_run ⋆ typed_value ⋆ new_type)

unfoldable pub indices : IsPart (List (Ty × Operand))
indices = many next_typed_value

-- `, ptr V, T V, ..`
unfoldable pub base_and_indices : IsPart (Operand × List (Ty × Operand))
base_and_indices = mark (codes ",") ▹ pointer ⋆ indices

abbrev pub address_of : Unit {0} × (Ty × (Operand × List (Ty × Operand))) → Form
address_of x = AddressForm None x.1.0 x.1.1.0 x.1.1.1

-- `getelementptr W T, ptr V, T V, ..`
unfoldable pub address : IsPart Form
address = mapped address_of (word (codes "getelementptr") ▹ instruction_run ⋆ at a_type ⋆ base_and_indices)
