-- The memory of source modules: its pointers, and what each operation gives.
use Rattle.std.specs.Prelude.{ℕ, zero, suc, ◌+◌, ◌%◌, ◌^◌, Bool, true, false, nat_eq, nat_lt, nat_le, not, ◌&&◌, length, slice_set, List, [], ◌∷◌, slice_get, Option, Some, None, if◌then◌else◌}
use Rattle.ir_values.specs.declared.types.Ty.{Ty}
use Rattle.ir_values.specs.declared.modules.TypeId.{TypeId}
use Rattle.ir_values.specs.declared.modules.Linkage.TheVariants.{External}
use Rattle.ir_values.specs.declared.modules.Linkage.{Linkage}
use Rattle.type_metadata.specs.declared.objects.Object.{Object}
use Rattle.type_metadata.specs.declared.objects.Denoted as answer
use Rattle.type_metadata.specs.declared.objects.Denoted.TheVariants as denotes
use Rattle.type_metadata.specs.declared.items.Item.{Item}
use Rattle.type_metadata.specs.Same.{same_object}
use Rattle.type_metadata.specs.Denoted.{denoted, first, is_called, is_same_linkage}
use Rattle.type_metadata.specs.Types.{has_carrier}
use Rattle.ir_memories.specs.declared.values.Value.{Value}
use Rattle.ir_memories.specs.declared.values.Goal.{Goal}
use Rattle.ir_memories.specs.declared.values.Goal.TheVariants as goals
use Rattle.ir_memories.specs.declared.symbolic.SPtr.{SPtr}
use Rattle.ir_memories.specs.declared.symbolic.SPtr.TheVariants.{Null, At}
use Rattle.ir_memories.specs.declared.symbolic.Space.{Space}
use Rattle.ir_memories.specs.declared.symbolic.Symbolic.{Symbolic}
use Rattle.ir_memories.specs.Cells.{read, cells_in, is_stored, written}
use Rattle.ir_memories.specs.Model.{Model}

-- null that was moved is in this object, which has no extent
abbrev pub nowhere : Object
nowhere = record { file = 0; function = false; index = 0 }

abbrev pub from_nowhere : ℕ → SPtr
from_nowhere offset = if nat_eq offset 0 then Null else At nowhere offset

abbrev pub moved : SPtr → ℕ → SPtr
moved Null by = from_nowhere by
moved (At object offset) by =
    if same_object object nowhere then from_nowhere ((offset + by) % 2 ^ 64) else At object ((offset + by) % 2 ^ 64)

-- the object that a name denotes in a file: of an external, its first declaration
abbrev pub object_or : answer.Denoted → Option Object → Option Object
object_or (denotes.Item object) otherwise = Some object
object_or denotes.External otherwise = otherwise

abbrev pub object_of : List Item → ℕ → List ℕ → Option Object
object_of items file name = object_or (denoted items file name) (first (is_called External name) items)

abbrev pub pointer_at : Option Object → ℕ → SPtr
pointer_at None offset = from_nowhere offset
pointer_at (Some object) offset = At object offset

abbrev pub pointer_to : List Item → ℕ → List ℕ → ℕ → SPtr
pointer_to items file name offset = pointer_at (object_of items file name) offset

-- the place of an object among items
abbrev pub place_of : Object → ℕ → List Item → Option ℕ
place_of object at [] = None
place_of object at (item ∷ items) = if same_object item.object object then Some at else place_of object (at + 1) items

abbrev pub at_place : {X : Type 0} → List X → Option ℕ → Option X
at_place xs None = None
at_place xs (Some at) = slice_get xs at

abbrev pub space_of : Symbolic → Object → Option Space
space_of w object = at_place w.spaces (place_of object 0 w.items)

abbrev pub extent_or_none : Option Space → ℕ
extent_or_none None = 0
extent_or_none (Some space) = space.extent

abbrev pub extent_in : Symbolic → Object → ℕ
extent_in w object = extent_or_none (space_of w object)

-- null, or an offset below the object's extent
abbrev pub is_inside : Symbolic → SPtr → Bool
is_inside w Null = true
is_inside w (At object offset) = nat_lt offset (extent_in w object)

-- two null pointers, or two in one object
abbrev pub is_one : SPtr → SPtr → Bool
is_one Null Null = true
is_one (At one offset) (At other offset') = same_object one other
is_one _ _ = false

abbrev pub offset_of : SPtr → ℕ
offset_of Null = 0
offset_of (At object offset) = offset

-- undefined for two objects, or an object and null, where one pointer is outside its extent
abbrev pub equal : Symbolic → SPtr → SPtr → Option Bool
equal w a b = if is_one a b then Some (nat_eq (offset_of a) (offset_of b))
    else if is_inside w a && is_inside w b then Some false else None

-- undefined outside the extent; null carries nothing
abbrev pub test : Symbolic → TypeId → SPtr → Option Bool
test w id Null = Some false
test w id (At object offset) = if nat_lt offset (extent_in w object)
    then Some (has_carrier w.types id (record { object = object; offset = offset })) else None

-- a function's first byte leads to it; an external one is told by its name
abbrev pub function_goal : Object → List ℕ → Linkage → Goal
function_goal object name linkage = if is_same_linkage linkage External then goals.External name else goals.Defined object

abbrev pub goal_of : Item → Option Goal
goal_of item = if item.object.function then Some (function_goal item.object item.name item.linkage) else None

abbrev pub goal_or_none : Option Item → Option Goal
goal_or_none None = None
goal_or_none (Some item) = goal_of item

abbrev pub goal : Symbolic → SPtr → Option Goal
goal w Null = None
goal w (At object zero) = goal_or_none (at_place w.items (place_of object 0 w.items))
goal w (At object (suc offset)) = None

abbrev pub read_in : Ty → ℕ → Option Space → Option (Value SPtr)
read_in ty offset None = None
read_in ty offset (Some space) = read ty space.cells offset

-- undefined outside the cells of a variable that is defined
abbrev pub load : Symbolic → Ty → SPtr → Option (Value SPtr)
load w ty Null = None
load w ty (At object offset) = read_in ty offset (space_of w object)

-- a store stays in the cells of a variable that is no constant
abbrev pub may_store : Space → Value SPtr → ℕ → Bool
may_store space v offset = not space.constant && is_stored v && nat_le (offset + cells_in v) (length space.cells)

abbrev pub with_value : Space → Value SPtr → ℕ → Space
with_value space v offset = record space { cells = written offset (cells_in v) v 0 space.cells }

abbrev pub store_in : Symbolic → Value SPtr → ℕ → ℕ → Option Space → Option Symbolic
store_in w v offset at None = None
store_in w v offset at (Some space) =
    if may_store space v offset then Some (record w { spaces = slice_set w.spaces at (with_value space v offset) }) else None

abbrev pub store_at : Symbolic → Value SPtr → ℕ → Option ℕ → Option Symbolic
store_at w v offset None = None
store_at w v offset (Some at) = store_in w v offset at (slice_get w.spaces at)

abbrev pub store : Symbolic → Value SPtr → SPtr → Option Symbolic
store w v Null = None
store w v (At object offset) = store_at w v offset (place_of object 0 w.items)

abbrev pub symbolic : Model Symbolic SPtr
symbolic = record {
  null = Null;
  address = λ w file name offset. pointer_to w.items file name offset;
  moved = moved;
  load = load;
  store = store;
  equal = equal;
  test = test;
  goal = goal;
  number = λ w p. None;
}
