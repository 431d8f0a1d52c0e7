-- The words that stand before the type of an item or a call, behind parameters and in instructions, and say nothing.
--
-- Source: LLVM Language Reference, "Visibility Styles", "Calling Conventions", "Global Variables" and "Function Attributes".
-- Differs: nothing is checked of them but where they stand.
use Rattle.std.specs.Prelude.{ℕ, List, [], ◌∷◌, ◌++◌, codes}
use Rattle.ir_lex.specs.Words as table
use Rattle.ir_lex.specs.declared.token.Kind.TheVariants.{Group, Quoted}
use Rattle.unit_grammar.specs.Signs.{of_kind, mark, word, words}
use Rattle.unit_grammar.specs.Grammar.{◌▹◌, ◌or◌, sign}
use Rattle.type_grammar.specs.Types.{IsPart}
use Rattle.word_grammar.specs.Attributes.{optional, run, in_parenthesis, attribute_words, attribute_words_with_arguments, maybe_arguments, alignment, attribute}

-- before the type of an item
unfoldable pub item_words : List (List ℕ)
item_words = table.item_words

unfoldable pub item_word : IsPart (Unit {0})
item_word = sign (words item_words) or attribute

unfoldable pub item_run : IsPart (Unit {0})
item_run = run item_word

-- before the type of a call
unfoldable pub call_words : List (List ℕ)
call_words = codes "ccc" ∷ codes "fastcc" ∷ codes "coldcc" ∷ []

unfoldable pub call_word : IsPart (Unit {0})
call_word = sign (words call_words) or attribute

unfoldable pub call_run : IsPart (Unit {0})
call_run = run call_word

-- behind parameters, and behind arguments
unfoldable pub function_words : List (List ℕ)
function_words =
    codes "unnamed_addr" ∷ codes "local_unnamed_addr" ∷ codes "alwaysinline" ∷ codes "builtin" ∷ codes "cold" ∷
    codes "convergent" ∷ codes "hot" ∷ codes "inlinehint" ∷ codes "minsize" ∷ codes "mustprogress" ∷
    codes "nobuiltin" ∷ codes "nocallback" ∷ codes "nofree" ∷ codes "noinline" ∷ codes "norecurse" ∷
    codes "noreturn" ∷ codes "nosync" ∷ codes "nounwind" ∷ codes "optnone" ∷ codes "optsize" ∷ codes "readnone" ∷
    codes "readonly" ∷ codes "writeonly" ∷ codes "argmemonly" ∷ codes "speculatable" ∷ codes "ssp" ∷
    codes "sspstrong" ∷ codes "sspreq" ∷ codes "willreturn" ∷ []

unfoldable pub function_words_with_arguments : List (List ℕ)
function_words_with_arguments = codes "memory" ∷ codes "allockind" ∷ codes "allocsize" ∷ []

-- ` = "v"`, or nothing
unfoldable pub maybe_value : IsPart (Unit {0})
maybe_value = optional (mark (codes "=") ▹ sign (of_kind Quoted))

-- also `#N`, `"k"` and `"k"="v"`; `uwtable` stands with a parenthesis or without one
unfoldable pub function_word : IsPart (Unit {0})
function_word =
    sign (words function_words)
    or words function_words_with_arguments ▹ in_parenthesis
    or word (codes "uwtable") ▹ maybe_arguments
    or sign (of_kind Group)
    or of_kind Quoted ▹ maybe_value

unfoldable pub function_run : IsPart (Unit {0})
function_run = run function_word

-- in instructions
unfoldable pub instruction_words : List (List ℕ)
instruction_words = table.instruction_words

unfoldable pub instruction_run : IsPart (Unit {0})
instruction_run = run (sign (words instruction_words))

-- in any of these places
unfoldable pub dropped_words : List (List ℕ)
dropped_words = attribute_words ++ item_words ++ function_words ++ instruction_words

unfoldable pub dropped_words_with_arguments : List (List ℕ)
dropped_words_with_arguments = attribute_words_with_arguments ++ function_words_with_arguments

unfoldable pub words_with_perhaps_arguments : List (List ℕ)
words_with_perhaps_arguments = codes "dead_on_return" ∷ codes "uwtable" ∷ []

unfoldable pub dropped_word : IsPart (Unit {0})
dropped_word =
    sign (words dropped_words)
    or words dropped_words_with_arguments ▹ in_parenthesis
    or word (codes "align") ▹ alignment
    or words words_with_perhaps_arguments ▹ maybe_arguments

unfoldable pub dropped_run : IsPart (Unit {0})
dropped_run = run dropped_word
