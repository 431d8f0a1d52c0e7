-- The place of an object, as a list of items tells it.
use Rattle.std.proofs.Common.{◌≡◌, ℕ, ◌+◌, List, [], ◌∷◌, Some, cond, refl, ap}
use Rattle.std.specs.List.{position_from}
use Rattle.type_metadata.specs.declared.objects.Object.{Object}
use Rattle.type_metadata.specs.declared.items.Item.{Item}
use Rattle.type_metadata.specs.Same.{same_object}
use Rattle.type_metadata.specs.Places.{is_object}
use Rattle.ir_memories.specs.Symbolic.{place_of}

pub same_place : (object : Object) (at : ℕ) (items : List Item) → position_from (is_object object) at items ≡ place_of object at items
same_place object at [] = refl
same_place object at (item ∷ items) =
    ap (λ rest. cond (same_object item.object object) (Some at) rest) (same_place object (at + 1) items)
