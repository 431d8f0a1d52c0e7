-- The first lines of a module: where it comes from, and what it is made for.
--
-- Source: LLVM Language Reference, "Source Filename", "Data Layout" and "Target Triple".
use Rattle.std.specs.Prelude.{ℕ, List, codes}
use Rattle.ir_lex.specs.declared.token.Kind.TheVariants.{Quoted}
use Rattle.ir_values.specs.declared.units.HeaderKind.TheVariants.{Source, Layout, Triple}
use Rattle.ir_values.specs.declared.units.Form.{Form}
use Rattle.ir_values.specs.declared.units.Form.TheVariants.{HeaderForm}
use Rattle.unit_grammar.specs.Signs.{of_kind, mark, word, name}
use Rattle.unit_grammar.specs.Grammar.{token, ◌▹◌, ◌or◌, mapped}
use Rattle.type_grammar.specs.Types.{IsPart}

-- `= "s"`
unfoldable pub value : IsPart (List ℕ)
value = mark (codes "=") ▹ token (of_kind Quoted) (name Quoted)

-- `source_filename = "s"`
unfoldable pub source : IsPart Form
source = mapped (HeaderForm Source) (word (codes "source_filename") ▹ value)

-- `datalayout = "s"`
unfoldable pub layout : IsPart Form
layout = mapped (HeaderForm Layout) (word (codes "datalayout") ▹ value)

-- `triple = "s"`
unfoldable pub triple : IsPart Form
triple = mapped (HeaderForm Triple) (word (codes "triple") ▹ value)

-- `source_filename = "s"`, `target datalayout = "s"` or `target triple = "s"`
unfoldable pub header : IsPart Form
header = source or word (codes "target") ▹ (layout or triple)
