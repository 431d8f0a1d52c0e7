-- Attachments beside types and constants.
--
-- Source: LLVM Language Reference, "Metadata". Differs: an attached node has a number.
use Rattle.std.specs.Prelude.{List, codes}
use Rattle.ir_lex.specs.declared.token.Kind.TheVariants.{Meta}
use Rattle.ir_values.specs.declared.units.Attach.{Attach}
use Rattle.unit_grammar.specs.Signs.{mark, name}
use Rattle.unit_grammar.specs.Attachments.{meta_kind, meta_node, attach_of}
use Rattle.unit_grammar.specs.Grammar.{token, ◌▹◌, ◌⋆◌, many, mapped, sign}
use Rattle.type_grammar.specs.Types.{IsPart}
use Rattle.word_grammar.specs.Attributes.{run}

-- `!KIND !N`
unfoldable pub head_attach : IsPart Attach
head_attach = mapped attach_of (token meta_kind (name Meta) ⋆ token meta_node (name Meta))

-- in a head
unfoldable pub head_attachments : IsPart (List Attach)
head_attachments = many head_attach

-- `, !KIND !N`
unfoldable pub attach : IsPart Attach
attach = mapped attach_of (mark (codes ",") ▹ token meta_kind (name Meta) ⋆ token meta_node (name Meta))

-- behind a variable
unfoldable pub attachments : IsPart (List Attach)
attachments = many attach

-- the same, which say nothing
unfoldable pub dropped_attach : IsPart (Unit {0})
dropped_attach = mark (codes ",") ▹ meta_kind ▹ sign meta_node

-- behind an instruction
unfoldable pub dropped_attachments : IsPart (Unit {0})
dropped_attachments = run dropped_attach
