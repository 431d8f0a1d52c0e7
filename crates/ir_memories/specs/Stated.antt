-- The addresses of an output's objects: any that don't overlap, and those that are stated for a base.
use Rattle.std.specs.Prelude.{◌≢◌, ℕ, ◌+◌, ◌^◌, ◌<◌, ◌≤◌, Bool, true, false, List, [], ◌∷◌, ◌++◌, map, filter, length, All, AllPairs}
use Rattle.std.specs.Int.{next_multiple_of}
use Rattle.ir_values.specs.declared.modules.Func.{Func}
use Rattle.ir_values.specs.declared.modules.Module.{Module}
use Rattle.ir_numbers.specs.Layout.{IsLaidOut}
use Rattle.type_metadata.specs.Same.{same_flag}
use Rattle.ir_memories.specs.Placement.{Placeable, Placement, IsPlaced, of_variable, of_table, of_function, placeables}
use Rattle.ir_memories.specs.Numeric.{rows_at, base_of, is_external}
use Rattle.ir_memories.specs.declared.stated.Room.{Room}

-- the functions that are external, or those that aren't
abbrev pub functions_that : Bool → List Func → List Func
functions_that external fs = filter (λ f. same_flag (is_external f) external) fs

-- the objects in printed order
abbrev pub printed : Module → List Placeable
printed m = map of_variable m.vars ++ (map of_table m.jumps
    ++ (map of_function (functions_that true m.funcs) ++ map of_function (functions_that false m.funcs)))

-- what each takes
abbrev pub room_of : Placeable → Room
room_of object = record { size = object.size; align = object.align }

abbrev pub rooms : Module → List Room
rooms m = map (λ v. room_of (of_variable v)) m.vars ++ (map (λ t. room_of (of_table t)) m.jumps
    ++ (map (λ f. room_of (of_function f)) (functions_that true m.funcs) ++ map (λ f. room_of (of_function f)) (functions_that false m.funcs)))

-- each at the next multiple of its alignment behind the one before
abbrev pub stated_from : ℕ → List Room → List ℕ
stated_from end [] = []
stated_from end (room ∷ rooms) = next_multiple_of end room.align ∷ stated_from (next_multiple_of end room.align + room.size) rooms

-- where the last of them ends
abbrev pub end_from : ℕ → List Room → ℕ
end_from end [] = end
end_from end (room ∷ rooms) = end_from (next_multiple_of end room.align + room.size) rooms

-- the stated placement: the address of each object in printed order
abbrev pub stated : Module → ℕ → List ℕ
stated m base = stated_from base (rooms m)

-- where the names stand, if the objects in printed order stand at these addresses
abbrev pub placement_of : Module → List ℕ → Placement
placement_of m at name = base_of name (rows_at m at)

-- the addresses are a placement
pub record AreAddresses (m : Module) (at : List ℕ) : Type 0 where
  pub counted : length m.funcs ≤ 2 ^ 32
  pub placed : IsPlaced m (placement_of m at)

-- an output that can be placed from a base: its types have sizes, and it ends below 2^64
pub record IsPlaceable (m : Module) (base : ℕ) : Type 0 where
  pub laid : All (λ v. IsLaidOut v.ty) m.vars
  pub aligned : All (λ v. 1 ≤ v.align) m.vars
  pub tables : All (λ t. length t.funcs ≤ 2 ^ 32) m.jumps
  pub fits : end_from base (rooms m) < 2 ^ 64

-- no two objects have one name
abbrev pub HaveNames : Module → Type 0
HaveNames m = AllPairs (λ one other. one.name ≢ other.name) (placeables m)

-- the stated placement from a base other than 0 is a placement
abbrev pub StatedLaw : Type 0
StatedLaw = (m : Module) (base : ℕ) → IsPlaceable m base → HaveNames m → 0 < base → IsPlaced m (placement_of m (stated m base))
