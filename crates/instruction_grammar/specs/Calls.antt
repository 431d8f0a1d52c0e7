-- Calls.
--
-- Source: LLVM Language Reference, "'call' Instruction". Differs: the words that change nothing are read and say nothing, and
-- a call has one bundle at most.
use Rattle.std.specs.Prelude.{ℕ, Bool, true, false, List, [], ◌∷◌, Option, Some, None, option_map, codes}
use Rattle.ir_lex.specs.declared.token.Kind.TheVariants.{Word, Meta, MetaText, Mark, Dots}
use Rattle.ir_values.specs.declared.types.Ty.{Ty}
use Rattle.ir_values.specs.declared.types.Ty.TheVariants.{Ptr}
use Rattle.ir_values.specs.declared.constants.Operand.{Operand}
use Rattle.ir_values.specs.declared.units.Arg.{Arg}
use Rattle.ir_values.specs.declared.units.Arg.TheVariants.{Value, Word as WordArg, Node}
use Rattle.ir_values.specs.declared.units.Form.{Form}
use Rattle.ir_values.specs.declared.units.Form.TheVariants.{CallForm}
use Rattle.unit_grammar.specs.Signs.{of_kind, mark, word, words, name}
use Rattle.unit_grammar.specs.Grammar.{token, enclosed, ◌▹◌, ◌⋆◌, ◌or◌, maybe, many, at, mapped, ◌◃◌, sign, list_with}
use Rattle.unit_grammar.specs.Attachments.{meta_node}
use Rattle.type_grammar.specs.Names.{a_type}
use Rattle.type_grammar.specs.Types.{IsPart}
use Rattle.instruction_grammar.specs.declared.bare_operand.BareOperand.{BareOperand}
use Rattle.instruction_grammar.specs.Operands.{operand_at, value}
use Rattle.word_grammar.specs.Attributes.{parameter_run}
use Rattle.word_grammar.specs.Runs.{call_run, function_run}

unfoldable pub tail_words : List (List ℕ)
tail_words = codes "tail" ∷ codes "notail" ∷ []

unfoldable pub tail_sign : IsPart (Unit {0})
tail_sign = mapped (λ _. tt) (maybe (sign (words tail_words)))

-- `[tail|notail] call`
unfoldable pub call_sign : IsPart (Unit {0})
call_sign = mapped (λ _. tt) (tail_sign ⋆ sign (word (codes "call")))

abbrev pub is_there : {A : Type 0} → Option A → Bool
is_there None = false
is_there (Some x) = true

-- `...`, which may end a list of types
unfoldable pub dots : IsPart (Unit {0})
dots = sign (of_kind Dots)

unfoldable pub last_dots : IsPart Bool
last_dots = mapped is_there (maybe (mark (codes ",") ▹ dots))

unfoldable pub more_types : IsPart (List Ty)
more_types = many (mark (codes ",") ▹ at a_type)

abbrev pub some_types_of : Ty × (List Ty × Bool) → List Ty × Bool
some_types_of x = (x.0 ∷ x.1.0, x.1.1)

-- `T, ..`, at least one, and perhaps `, ...`
unfoldable pub some_types : IsPart (List Ty × Bool)
some_types = mapped some_types_of (at a_type ⋆ more_types ⋆ last_dots)

unfoldable pub dots_alone : IsPart (List Ty × Bool)
dots_alone = mapped (λ _. ([], true)) dots

unfoldable pub param_types : IsPart (List Ty × Bool)
param_types = some_types or dots_alone

abbrev pub types_of : Option (List Ty × Bool) → List Ty × Bool
types_of None = ([], false)
types_of (Some x) = x

unfoldable pub perhaps_types : IsPart (List Ty × Bool)
perhaps_types = mapped types_of (maybe param_types)

-- `(T, ..)`, the types of the parameters and whether `...` stands behind them
unfoldable pub written_params : IsPart (List Ty × Bool)
written_params = mark (codes "(") ▹ perhaps_types ◃ mark (codes ")")

unfoldable pub text_arg : IsPart Arg
text_arg = token (of_kind MetaText) (λ t. WordArg (name MetaText t))

unfoldable pub node_arg : IsPart Arg
node_arg = token meta_node (λ t. Node (name Meta t))

unfoldable pub meta_arg : IsPart Arg
meta_arg = text_arg or node_arg

abbrev pub value_arg_of : Ty × (List (List ℕ) × BareOperand) → Arg
value_arg_of x = Value x.0 x.1.0 (operand_at x.0 x.1.1)

-- `T W V`, with the left-out words among W
unfoldable pub value_arg : IsPart Arg
value_arg = mapped value_arg_of (at a_type ⋆ parameter_run ⋆ value)

-- `metadata !"s"` or `metadata !N`
unfoldable pub written_meta_arg : IsPart Arg
written_meta_arg = word (codes "metadata") ▹ meta_arg

unfoldable pub argument : IsPart Arg
argument = written_meta_arg or value_arg

unfoldable pub argument_list : IsPart (List Arg)
argument_list = list_with (mark (codes ",")) argument

unfoldable pub arguments : IsPart (List Arg)
arguments = mark (codes "(") ▹ argument_list ◃ mark (codes ")")

-- `[ .. ]` and the words behind it
unfoldable pub bundle : IsPart (Unit {0})
bundle = mapped (λ _. tt) (enclosed (mark (codes "[")) (mark (codes "]")) ⋆ function_run)

-- the words behind the arguments, and whether a bundle stands among them
unfoldable pub call_end : IsPart Bool
call_end = mapped (λ x. is_there x.1) (function_run ⋆ maybe bundle)

unfoldable pub perhaps_params : IsPart (Option (List Ty × Bool))
perhaps_params = maybe written_params

-- `W T`, and the types of the parameters where they are written
unfoldable pub call_type : IsPart (Ty × Option (List Ty × Bool))
call_type = mapped (λ x. x.1) (call_run ⋆ at a_type ⋆ perhaps_params)

abbrev pub call_with : Ty → Option (List Ty × Bool) → BareOperand → List Arg → Bool → Form
call_with result None callee args bundled = CallForm None result None false (operand_at Ptr callee) args bundled
call_with result (Some types) callee args bundled = CallForm None result (Some types.0) types.1 (operand_at Ptr callee) args bundled

abbrev pub call_of : Unit {0} × ((Ty × Option (List Ty × Bool)) × (BareOperand × (List Arg × Bool))) → Form
call_of x = call_with x.1.0.0 x.1.0.1 x.1.1.0 x.1.1.1.0 x.1.1.1.1

-- `[tail|notail] call W T V(T W V, ..) W`, where T may be written `T (T, ..)`
unfoldable pub call : IsPart Form
call = mapped call_of (call_sign ⋆ call_type ⋆ value ⋆ arguments ⋆ call_end)
