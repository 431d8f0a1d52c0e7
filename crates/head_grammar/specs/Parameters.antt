-- The parameters of a function.
--
-- Source: LLVM Language Reference, "Functions" and "Parameter Attributes". Differs: what is left out is kept by its word.
use Rattle.std.specs.Prelude.{ℕ, Bool, true, false, List, [], Option, Some, None, codes}
use Rattle.ir_lex.specs.declared.token.Kind.TheVariants.{Local, Dots}
use Rattle.ir_values.specs.declared.types.Ty.{Ty}
use Rattle.ir_values.specs.declared.types.Ty.TheVariants.{Left}
use Rattle.ir_values.specs.declared.units.Param.{Param}
use Rattle.unit_grammar.specs.Signs.{of_kind, mark, word, name}
use Rattle.unit_grammar.specs.Grammar.{token, ◌▹◌, ◌⋆◌, ◌or◌, maybe, at, mapped, ◌◃◌, sign, some_with}
use Rattle.type_grammar.specs.Names.{a_type}
use Rattle.type_grammar.specs.Types.{IsPart}
use Rattle.word_grammar.specs.Attributes.{parameter_run}

-- in a declaration a parameter may be metadata, which is left out
unfoldable pub metadata_type : IsPart Ty
metadata_type = token (word (codes "metadata")) (λ t. Left t.bytes)

unfoldable pub parameter_type : Bool → IsPart Ty
parameter_type true = at a_type or metadata_type
parameter_type false = at a_type

unfoldable pub maybe_local : IsPart (Option (List ℕ))
maybe_local = maybe (token (of_kind Local) (name Local))

abbrev pub parameter_of : Ty × (List (List ℕ) × Option (List ℕ)) → Param
parameter_of x = record { ty = x.0; left = x.1.0; name = x.1.1 }

-- `T W [%p]`
unfoldable pub parameter : Bool → IsPart Param
parameter declared = mapped parameter_of (parameter_type declared ⋆ parameter_run ⋆ maybe_local)

unfoldable pub some_parameters : Bool → IsPart (List Param)
some_parameters declared = some_with (mark (codes ",")) (parameter declared)

abbrev pub is_there : Option (Unit {0}) → Bool
is_there None = false
is_there (Some x) = true

-- `, ...`, or nothing
unfoldable pub next_dots : IsPart Bool
next_dots = mapped is_there (maybe (mark (codes ",") ▹ sign (of_kind Dots)))

unfoldable pub only_dots : IsPart (List Param × Bool)
only_dots = mapped (λ _. ([], true)) (sign (of_kind Dots))

abbrev pub given : Option (List Param × Bool) → List Param × Bool
given None = ([], false)
given (Some x) = x

-- any number of parameters, and whether `...` ends them
unfoldable pub listed : Bool → IsPart (List Param × Bool)
listed declared = mapped given (maybe (only_dots or some_parameters declared ⋆ next_dots))

unfoldable pub parameters : Bool → IsPart (List Param × Bool)
parameters declared = mark (codes "(") ▹ listed declared ◃ mark (codes ")")
