-- Where an item is put: its section, its comdat and its alignment.
--
-- Source: LLVM Language Reference, "Global Variables", "Functions" and "Comdats".
use Rattle.std.specs.Prelude.{ℕ, codes, Option}
use Rattle.ir_lex.specs.declared.token.Kind.TheVariants.{Number, Quoted, Comdat}
use Rattle.unit_grammar.specs.Signs.{of_kind, mark, word}
use Rattle.unit_grammar.specs.Grammar.{token, ◌▹◌, ◌⋆◌, maybe, mapped, sign}
use Rattle.type_grammar.specs.Numbers.{length_of}
use Rattle.type_grammar.specs.Types.{IsPart}
use Rattle.word_grammar.specs.Attributes.{optional}

-- `section "s"`
unfoldable pub section : IsPart (Unit {0})
section = word (codes "section") ▹ sign (of_kind Quoted)

-- `($Name)`, or nothing
unfoldable pub maybe_group : IsPart (Unit {0})
maybe_group = optional (mark (codes "(") ▹ of_kind Comdat ▹ sign (mark (codes ")")))

-- `comdat`, and with a name
unfoldable pub comdat : IsPart (Unit {0})
comdat = word (codes "comdat") ▹ maybe_group

-- `align N`, which says nothing
unfoldable pub placed : IsPart (Unit {0})
placed = word (codes "align") ▹ sign (of_kind Number)

-- each of them behind a comma, or nothing
unfoldable pub next_section : IsPart (Unit {0})
next_section = optional (mark (codes ",") ▹ section)

unfoldable pub next_comdat : IsPart (Unit {0})
next_comdat = optional (mark (codes ",") ▹ comdat)

unfoldable pub next_placed : IsPart (Unit {0})
next_placed = optional (mark (codes ",") ▹ placed)

-- `, align N`, or nothing: the number, where it is one from 0 to 2^64 - 1
unfoldable pub next_align : IsPart (Option (Option ℕ))
next_align = maybe (mark (codes ",") ▹ word (codes "align") ▹ token (of_kind Number) (λ t. length_of t.bytes))

-- the places of a variable, which say its alignment
unfoldable pub variable_places : IsPart (Option (Option ℕ))
variable_places = mapped (λ x. x.1.1) (next_section ⋆ next_comdat ⋆ next_align)
