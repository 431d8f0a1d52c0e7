-- The parts of a metadata node that stands for itself, by how many levels they have.
use Rattle.std.specs.Prelude.{ℕ, List}
use Rattle.ir_values.specs.declared.units.MetaItem.{MetaItem}
use Rattle.unit_grammar.specs.Pieces.{Piece}
use Rattle.unit_grammar.specs.Grammar.{Text, Is, Opens}
use Rattle.type_grammar.specs.Items.{own_items}
use Rattle.type_grammar.specs.Levels.{IsAt, IsAny, OpensAt}

-- the texts of lists whose types, constants and nodes have at most so many levels
abbrev pub AreItems : ℕ → Text (List MetaItem)
AreItems n = Is (IsAt n) own_items

abbrev pub AreAnyItems : Text (List MetaItem)
AreAnyItems = Is IsAny own_items

abbrev pub OpensItems : ℕ → List Piece → Type 0
OpensItems n = Opens (IsAt n) (OpensAt n) own_items
