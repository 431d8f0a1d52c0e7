-- Jump tables, which stand in outputs.
--
-- Source: Control Flow Integrity Design, "Forward-Edge CFI for Indirect Function Calls". Differs: a table is a unit of its
-- own and lists its functions; LLVM has no text for one.
use Rattle.std.specs.Prelude.{ℕ, List, ◌∷◌, codes}
use Rattle.ir_lex.specs.declared.token.Kind.TheVariants.{Global, Number}
use Rattle.ir_values.specs.declared.units.Form.{Form}
use Rattle.ir_values.specs.declared.units.Form.TheVariants.{TableForm}
use Rattle.unit_grammar.specs.Signs.{of_kind, of_text, mark, word, name}
use Rattle.unit_grammar.specs.Grammar.{token, ◌▹◌, ◌⋆◌, many, mapped, ◌◃◌}
use Rattle.type_grammar.specs.Types.{IsPart}

-- `@f`
unfoldable pub function : IsPart (List ℕ)
function = token (of_kind Global) (name Global)

-- `, @f`
unfoldable pub next_function : IsPart (List ℕ)
next_function = mark (codes ",") ▹ function

unfoldable pub other_functions : IsPart (List (List ℕ))
other_functions = many next_function

-- `@f, ..`, at least one
unfoldable pub functions : IsPart (List (List ℕ))
functions = mapped (λ x. x.0 ∷ x.1) (function ⋆ other_functions)

-- `jumptable @Name align 8 { @f, .. }`
unfoldable pub table : IsPart Form
table =
    mapped (λ x. TableForm x.0 x.1)
    (word (codes "jumptable") ▹ function
    ⋆ word (codes "align") ▹ of_text Number (codes "8") ▹ mark (codes "{") ▹ functions ◃ mark (codes "}"))
