-- Nodes of metadata.
--
-- Source: LLVM Language Reference, "Named Metadata" and "Metadata Nodes and Metadata Strings". Differs: a named node has the
-- parts of any other.
use Rattle.std.specs.Prelude.{Bool, true, false, List, Option, Some, None, codes}
use Rattle.ir_lex.specs.declared.token.Kind.TheVariants.{Meta}
use Rattle.ir_values.specs.declared.units.MetaItem.{MetaItem}
use Rattle.ir_values.specs.declared.units.Form.{Form}
use Rattle.ir_values.specs.declared.units.Form.TheVariants.{MetadataForm}
use Rattle.unit_grammar.specs.Attachments.{meta_kind, meta_node}
use Rattle.unit_grammar.specs.Signs.{mark, word, name}
use Rattle.unit_grammar.specs.Grammar.{token, ◌▹◌, ◌⋆◌, ◌or◌, maybe, mapped, ◌◃◌, sign}
use Rattle.type_grammar.specs.Types.{IsPart}
use Rattle.type_grammar.specs.Items.{own_items}

-- `!{ E, .. }`
unfoldable pub node : IsPart (List MetaItem)
node = mark (codes "!") ▹ mark (codes "{") ▹ own_items ◃ mark (codes "}")

abbrev pub is_there : Option (Unit {0}) → Bool
is_there None = false
is_there (Some x) = true

-- `distinct`, or nothing
unfoldable pub distinct : IsPart Bool
distinct = mapped is_there (maybe (sign (word (codes "distinct"))))

-- `!N = [distinct] !{ E, .. }`
unfoldable pub numbered_node : IsPart Form
numbered_node = mapped (λ x. MetadataForm x.0 x.1.0 x.1.1) (token meta_node (name Meta) ⋆ mark (codes "=") ▹ distinct ⋆ node)

-- `!Name = !{ E, .. }`
unfoldable pub named_node : IsPart Form
named_node = mapped (λ x. MetadataForm x.0 false x.1) (token meta_kind (name Meta) ⋆ mark (codes "=") ▹ node)

unfoldable pub metadata : IsPart Form
metadata = numbered_node or named_node
