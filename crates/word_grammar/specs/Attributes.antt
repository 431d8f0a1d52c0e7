-- The attributes of parameters, arguments and results, which say nothing.
--
-- Source: LLVM Language Reference, "Parameter Attributes". Differs: of what an attribute is given only the parentheses
-- are looked at.
use Rattle.std.specs.Prelude.{ℕ, List, [], ◌∷◌, codes, Option, Some, None}
use Rattle.ir_lex.specs.declared.token.Kind.TheVariants.{Number}
use Rattle.unit_grammar.specs.Signs.{of_kind, mark, word, words}
use Rattle.unit_grammar.specs.Grammar.{enclosed, ◌▹◌, ◌or◌, maybe, many, mapped, sign}
use Rattle.type_grammar.specs.Types.{IsPart}

-- All parts of this crate are parts that may stand beside types and constants.

-- perhaps this, and any number of these
abbrev pub optional : IsPart (Unit {0}) → IsPart (Unit {0})
optional p = mapped (λ _. tt) (maybe p)

abbrev pub run : IsPart (Unit {0}) → IsPart (Unit {0})
run p = mapped (λ _. tt) (many p)

-- a balanced parenthesis
abbrev pub in_parenthesis : IsPart (Unit {0})
in_parenthesis = enclosed (mark (codes "(")) (mark (codes ")"))

-- attributes of one word
unfoldable pub attribute_words : List (List ℕ)
attribute_words =
    codes "zeroext" ∷ codes "signext" ∷ codes "inreg" ∷ codes "noalias" ∷ codes "nocapture" ∷ codes "nofree" ∷
    codes "returned" ∷ codes "nonnull" ∷ codes "noundef" ∷ codes "readnone" ∷ codes "readonly" ∷ codes "writeonly" ∷
    codes "immarg" ∷ codes "dead_on_unwind" ∷ codes "noext" ∷ codes "writable" ∷ codes "allocptr" ∷ codes "allocalign" ∷ []

-- attributes with a parenthesis
unfoldable pub attribute_words_with_arguments : List (List ℕ)
attribute_words_with_arguments =
    codes "captures" ∷ codes "dereferenceable" ∷ codes "dereferenceable_or_null" ∷ codes "range" ∷
    codes "initializes" ∷ codes "nofpclass" ∷ codes "elementtype" ∷ codes "sret" ∷ []

unfoldable pub maybe_arguments : IsPart (Unit {0})
maybe_arguments = optional in_parenthesis

-- `N` or `(..)`
unfoldable pub alignment : IsPart (Unit {0})
alignment = sign (of_kind Number) or in_parenthesis

-- `dead_on_return` stands with a parenthesis or without one
unfoldable pub attribute : IsPart (Unit {0})
attribute =
    sign (words attribute_words)
    or words attribute_words_with_arguments ▹ in_parenthesis
    or word (codes "align") ▹ alignment
    or word (codes "dead_on_return") ▹ maybe_arguments

unfoldable pub attribute_run : IsPart (Unit {0})
attribute_run = run attribute

-- `byval(..)`, which is left out
unfoldable pub by_value : IsPart (List ℕ)
by_value = mapped (λ _. codes "byval") (word (codes "byval") ▹ in_parenthesis)

-- what stands with a parameter or an argument: what is left out says its word
unfoldable pub parameter_word : IsPart (Option (List ℕ))
parameter_word = mapped (λ _. None) attribute or mapped Some by_value

abbrev pub said : {A : Type 0} → List (Option A) → List A
said [] = []
said (None ∷ os) = said os
said (Some a ∷ os) = a ∷ said os

-- the left-out words among them, in order
unfoldable pub parameter_run : IsPart (List (List ℕ))
parameter_run = mapped said (many parameter_word)
