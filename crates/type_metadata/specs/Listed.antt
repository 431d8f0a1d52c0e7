-- Maps from the names and the objects of items to the first item that has them.
use Rattle.std.specs.Prelude.{◌≡◌, ℕ, Bool, List, Option, Some, None}
use Rattle.std.specs.List.{position_from}
use Rattle.std.specs.Ordering.{nat_cmp, bool_cmp, ordering_then}
use Rattle.std.specs.Cmp.Lexicographic.{slice_cmp}
use Rattle.std.specs.declared.vec.Vec.{Vec}
use Rattle.std.specs.BTreeMap.{BTreeMap, get_by}
use Rattle.ir_values.specs.declared.modules.Linkage.{Linkage}
use Rattle.type_metadata.specs.declared.objects.Object.{Object}
use Rattle.type_metadata.specs.declared.items.Item.{Item}
use Rattle.type_metadata.specs.Denoted.{first, is_called, is_own}
use Rattle.type_metadata.specs.Places.{is_object}

-- what the map has at a name
abbrev pub at_name : {X Y : Type 0} → List ℕ → BTreeMap (Vec ℕ Y) X → Option X
at_name name map = get_by (λ key. slice_cmp nat_cmp name key.items) map

abbrev pub at_name_or_none : {X Y : Type 0} → List ℕ → Option (BTreeMap (Vec ℕ Y) X) → Option X
at_name_or_none name None = None
at_name_or_none name (Some map) = at_name name map

-- what the maps have at a name in a file
abbrev pub at_name_in : {X Y : Type 0} → ℕ → List ℕ → BTreeMap ℕ (BTreeMap (Vec ℕ Y) X) → Option X
at_name_in file name maps = at_name_or_none name (get_by (nat_cmp file) maps)

-- what the map has at an object
abbrev pub at_object : {X : Type 0} → Object → BTreeMap ((ℕ × Bool) × ℕ) X → Option X
at_object object map = get_by
    (λ key. ordering_then (ordering_then (nat_cmp object.file key.0.0) (bool_cmp object.function key.0.1)) (nat_cmp object.index key.1)) map

-- the map finds the first item of this linkage and each name
abbrev pub FindsCalled : {Y : Type 0} → Linkage → List Item → BTreeMap (Vec ℕ Y) Object → Type 0
FindsCalled linkage items map = (name : List ℕ) → at_name name map ≡ first (is_called linkage name) items

-- the maps find each file's own private definition of each name
abbrev pub FindsOwn : {Y : Type 0} → List Item → BTreeMap ℕ (BTreeMap (Vec ℕ Y) Object) → Type 0
FindsOwn items maps = (file : ℕ) (name : List ℕ) → at_name_in file name maps ≡ first (is_own file name) items

-- the map finds the place of each object
abbrev pub FindsPlaces : List Item → BTreeMap ((ℕ × Bool) × ℕ) ℕ → Type 0
FindsPlaces items map = (object : Object) → at_object object map ≡ position_from (is_object object) 0 items
