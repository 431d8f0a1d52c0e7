-- The entries of the kept definitions of a list of modules, in object order, and what they say of each identifier.
use Rattle.std.specs.Prelude.{Bool, false, ◌||◌, List, [], ◌∷◌, ◌++◌, map, filter, if◌then◌else◌}
use Rattle.std.specs.List.{list_any}
use Rattle.ir_values.specs.declared.modules.TypeId.{TypeId}
use Rattle.ir_values.specs.declared.modules.Entry.{Entry}
use Rattle.ir_values.specs.declared.modules.Linkage.TheVariants.{Private}
use Rattle.ir_values.specs.declared.modules.Module.{Module}
use Rattle.type_metadata.specs.declared.objects.Object.{Object}
use Rattle.type_metadata.specs.declared.objects.Carrier.{Carrier}
use Rattle.type_metadata.specs.declared.objects.Denoted as answer
use Rattle.type_metadata.specs.declared.objects.Denoted.TheVariants as denotes
use Rattle.type_metadata.specs.declared.items.Item.{Item}
use Rattle.type_metadata.specs.declared.marks.Mark.{Mark}
use Rattle.type_metadata.specs.Same.{same_object, same_carrier, same_id}
use Rattle.type_metadata.specs.Items.{items}
use Rattle.type_metadata.specs.Denoted.{denoted, is_same_linkage}

abbrev pub is_item : Object → answer.Denoted → Bool
is_item object (denotes.Item other) = same_object other object
is_item object denotes.External = false

-- a private definition, or the one that its name denotes
abbrev pub is_kept : List Item → Item → Bool
is_kept items item = is_same_linkage item.linkage Private || is_item item.object (denoted items item.object.file item.name)

abbrev pub mark_of : Object → Entry → Mark
mark_of object entry = record { id = entry.id; carrier = record { object = object; offset = entry.offset } }

abbrev pub marks_of : List Item → Item → List Mark
marks_of items item = if is_kept items item then map (mark_of item.object) item.entries else []

abbrev pub marks_from : List Item → List Item → List Mark
marks_from all [] = []
marks_from all (item ∷ items) = marks_of all item ++ marks_from all items

abbrev pub marks : List Module → List Mark
marks ms = marks_from (items ms) (items ms)

-- the list with one more, unless it has it
abbrev pub with_new : {X : Type 0} → (X → X → Bool) → List X → X → List X
with_new same seen x = if list_any (same x) seen then seen else seen ++ x ∷ []

-- the list with those of another that are new, in order of first appearance
abbrev pub with_each_new : {X : Type 0} → (X → X → Bool) → List X → List X → List X
with_each_new same seen [] = seen
with_each_new same seen (x ∷ xs) = with_each_new same (with_new same seen x) xs

abbrev pub distinct : {X : Type 0} → (X → X → Bool) → List X → List X
distinct same xs = with_each_new same [] xs

abbrev pub ids_of : List Mark → List TypeId
ids_of marks = distinct same_id (map (λ mark. mark.id) marks)

abbrev pub carriers_of : TypeId → List Mark → List Carrier
carriers_of id marks = distinct same_carrier (map (λ mark. mark.carrier) (filter (λ mark. same_id mark.id id) marks))

-- the identifiers with carriers, in order of first appearance among the entries in object order
abbrev pub identifiers : List Module → List TypeId
identifiers ms = ids_of (marks ms)

-- the carriers of an identifier in object order, each pair once
abbrev pub carriers : List Module → TypeId → List Carrier
carriers ms id = carriers_of id (marks ms)
