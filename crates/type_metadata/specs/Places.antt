-- Where an object stands in a list of items.
use Rattle.std.specs.Prelude.{ℕ, Bool, List, Option}
use Rattle.std.specs.List.{position_from}
use Rattle.type_metadata.specs.declared.objects.Object.{Object}
use Rattle.type_metadata.specs.declared.items.Item.{Item}
use Rattle.type_metadata.specs.Same.{same_object}

abbrev pub is_object : Object → Item → Bool
is_object object item = same_object item.object object

-- the place of the first item with this object
abbrev pub place_of : Object → List Item → Option ℕ
place_of object items = position_from (is_object object) 0 items
