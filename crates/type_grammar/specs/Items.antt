-- Parts of metadata nodes.
--
-- Source: LLVM Language Reference, "Metadata Nodes and Metadata Strings". Differs: a node with a name of its own, as that
-- of debug information, is no part.
use Rattle.std.specs.Prelude.{List, [], ◌∷◌, ◌++◌, map, codes}
use Rattle.ir_lex.specs.declared.token.Kind.TheVariants.{Meta, MetaText}
use Rattle.ir_values.specs.declared.types.Ty.{Ty}
use Rattle.ir_values.specs.declared.units.MetaItem.{MetaItem}
use Rattle.ir_values.specs.declared.units.MetaItem.TheVariants.{Const, Node, Word, Null, Nested}
use Rattle.type_grammar.specs.declared.bare.Bare.{Bare}
use Rattle.unit_grammar.specs.Attachments.{meta_node}
use Rattle.unit_grammar.specs.Signs.{Sign, of_kind, mark, word, name, Start}
use Rattle.unit_grammar.specs.Beginnings.{one_sign}
use Rattle.unit_grammar.specs.Grammar.{token, ◌▹◌, ◌⋆◌, ◌or◌, at, mapped, ◌◃◌, list_with}
use Rattle.type_grammar.specs.Names.{a_type, a_constant, an_item, at_type}
use Rattle.type_grammar.specs.Types.{IsPart, type_signs}

-- `!N`
unfoldable pub node_item : IsPart MetaItem
node_item = token meta_node (λ t. Node (name Meta t))

-- `!"s"`
unfoldable pub word_item : IsPart MetaItem
word_item = token (of_kind MetaText) (λ t. Word (name MetaText t))

unfoldable pub null_item : IsPart MetaItem
null_item = token (word (codes "null")) (λ _. Null)

unfoldable pub item_list : IsPart (List MetaItem)
item_list = list_with (mark (codes ",")) (at an_item)

-- `!{ E, .. }`
unfoldable pub nested : IsPart MetaItem
nested = mapped Nested (mark (codes "!") ▹ mark (codes "{") ▹ item_list ◃ mark (codes "}"))

abbrev pub constant_of : Ty × Bare → MetaItem
constant_of x = Const x.0 (at_type x.0 x.1)

-- `T C`
unfoldable pub constant_item : IsPart MetaItem
constant_item = mapped constant_of (at a_type ⋆ at a_constant)

unfoldable pub item_body : IsPart MetaItem
item_body = node_item or word_item or null_item or nested or constant_item

-- the parts of a node that stands for itself; each has all the levels
unfoldable pub own_items : IsPart (List MetaItem)
own_items = list_with (mark (codes ",")) item_body

-- the tokens with which a part of a node begins
unfoldable pub item_signs : List Sign
item_signs = meta_node ∷ of_kind MetaText ∷ word (codes "null") ∷ mark (codes "!") ∷ type_signs

abbrev pub item_starts : List Start
item_starts = map one_sign item_signs
