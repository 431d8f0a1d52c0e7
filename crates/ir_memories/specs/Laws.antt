-- What holds of the memories, in words of their operations.
use Rattle.std.specs.Prelude.{⊤, ◌≡◌, ◌≢◌, ◌↔◌, ℕ, ◌+◌, ◌%◌, ◌^◌, ◌<◌, ◌≤◌, true, false, List, [], ◌∷◌, map, Contains, codes, Some, None}
use Rattle.ir_values.specs.declared.types.Width.TheVariants.{W8, W64}
use Rattle.ir_values.specs.declared.types.Ty as ty
use Rattle.ir_values.specs.declared.modules.Linkage.TheVariants.{Strong}
use Rattle.ir_values.specs.declared.modules.TypeId.{TypeId}
use Rattle.ir_values.specs.declared.modules.TypeId.TheVariants.{Name}
use Rattle.ir_values.specs.declared.modules.Var.{Var}
use Rattle.ir_values.specs.declared.modules.Module.{Module}
use Rattle.type_metadata.specs.declared.objects.Object.{Object}
use Rattle.type_metadata.specs.declared.types.Types.{Types}
use Rattle.type_metadata.specs.Items.{variable_at}
use Rattle.type_metadata.specs.Marks.{identifiers, carriers}
use Rattle.type_metadata.specs.Types.{IsCarrier, AreTypes}
use Rattle.ir_memories.specs.declared.symbolic.SPtr.TheVariants.{Null, At}
use Rattle.ir_memories.specs.declared.symbolic.Symbolic.{Symbolic}
use Rattle.ir_values.specs.declared.types.Ty.{Ty}
use Rattle.ir_numbers.specs.Numbers.{bits}
use Rattle.ir_memories.specs.declared.values.Value.{Value}
use Rattle.ir_memories.specs.declared.values.Value.TheVariants as value
use Rattle.ir_memories.specs.declared.symbolic.SPtr.{SPtr}
use Rattle.ir_memories.specs.declared.numeric.Numeric.{Numeric}
use Rattle.ir_memories.specs.declared.symbolic.Space.{Space}
use Rattle.ir_memories.specs.declared.cells.Cell.{Cell}
use Rattle.ir_memories.specs.Cells.{cells_in}
use Rattle.std.specs.Prelude.{◌⊎◌, slice_get, Option}
use Rattle.ir_memories.specs.declared.cells.Cell.TheVariants.{Byte}
use Rattle.ir_memories.specs.Model.{Model}
use Rattle.ir_memories.specs.Symbolic as symbols
use Rattle.ir_memories.specs.Worlds.{world, AreSource}
use Rattle.ir_memories.specs.Numeric as numbers
use Rattle.ir_memories.specs.Placement.{Placement, IsPlaced, Placeable}
use Rattle.ir_memories.specs.Stated.{IsPlaceable, HaveNames, printed, placement_of}

-- What each memory keeps to, at pointers of 64 bits: null stays where it is moved by 0, two moves are one, and no pointer
-- differs from itself. That these operations change nothing is in their types.
pub record MovesLaw {W P : Type 0} (m : Model W P) (Fits : P → Type 0) : Type 0 where
  pub null : m.moved m.null 0 ≡ m.null
  pub twice : (p : P) (a b : ℕ) → Fits p → a < 2 ^ 64 → b < 2 ^ 64 → m.moved (m.moved p a) b ≡ m.moved p ((a + b) % 2 ^ 64)
  pub itself : (w : W) (p : P) → m.equal w p p ≢ Some false

abbrev pub SymbolicMoves : Type 0
SymbolicMoves = MovesLaw symbols.symbolic (λ p. symbols.offset_of p < 2 ^ 64)

abbrev pub NumericMoves : Type 0
NumericMoves = MovesLaw numbers.numeric (λ p. p < 2 ^ 64)

-- a test has no answer outside the extent, and inside it is true exactly at the carriers
pub record TestLaw : Type 0 where
  pub null : (w : Symbolic) (id : TypeId) → symbols.test w id Null ≡ Some false
  pub outside : (w : Symbolic) (id : TypeId) (object : Object) (offset : ℕ) → symbols.extent_in w object ≤ offset →
      symbols.test w id (At object offset) ≡ None
  pub inside : (ms : List Module) (types : Types) → AreTypes ms types → (id : TypeId) (object : Object) (offset : ℕ) →
      offset < symbols.extent_in (world ms types) object →
      (symbols.test (world ms types) id (At object offset) ≡ Some true) ↔ IsCarrier ms id (record { object = object; offset = offset })

-- the type of a value, and the values of each type
abbrev pub type_of : {P : Type 0} → Value P → Ty
type_of (value.Int width n) = ty.Int width
type_of (value.Ptr p) = ty.Ptr
type_of (value.Pair p flag) = ty.Pair

abbrev pub Fits : {P : Type 0} → (P → Type 0) → Value P → Type 0
Fits IsPointer (value.Int width n) = n < 2 ^ bits width
Fits IsPointer (value.Ptr p) = IsPointer p
Fits IsPointer (value.Pair p flag) = IsPointer p

-- a load after a store gives the stored value at the same type and place
abbrev pub SymbolicStores : Type 0
SymbolicStores = (w after : Symbolic) (v : Value SPtr) (p : SPtr) → Fits (λ q. ⊤) v → symbols.store w v p ≡ Some after →
    symbols.load after (type_of v) p ≡ Some v

abbrev pub NumericStores : Type 0
NumericStores = (w after : Numeric) (v : Value ℕ) (a : ℕ) → Fits (λ p. p < 2 ^ 64) v → numbers.store w v a ≡ Some after →
    numbers.load after (type_of v) a ≡ Some v

-- and cells outside the stored range stay
abbrev pub Outside : ℕ → ℕ → ℕ → Type 0
Outside at n i = (i < at) ⊎ (at + n ≤ i)

abbrev pub cell_in : Option Space → ℕ → Option Cell
cell_in None i = None
cell_in (Some space) i = slice_get space.cells i

abbrev pub cell_of : Symbolic → Object → ℕ → Option Cell
cell_of w object i = cell_in (symbols.space_of w object) i

abbrev pub SymbolicKeeps : Type 0
SymbolicKeeps = (w after : Symbolic) (v : Value SPtr) (object : Object) (offset : ℕ) → symbols.store w v (At object offset) ≡ Some after →
    (other : Object) (i : ℕ) → (other ≢ object) ⊎ Outside offset (cells_in v) i → cell_of after other i ≡ cell_of w other i

-- cell i of a variable of the output
abbrev pub cell_at_number : Option (List Cell) → ℕ → Option Cell
cell_at_number None i = None
cell_at_number (Some cells) i = slice_get cells i

abbrev pub cell_of_number : Numeric → ℕ → ℕ → Option Cell
cell_of_number w variable i = cell_at_number (slice_get w.cells variable) i

abbrev pub NumericKeeps : Type 0
NumericKeeps = (w after : Numeric) (v : Value ℕ) (a : ℕ) → numbers.store w v a ≡ Some after → (variable i : ℕ) →
    Outside a (cells_in (numbers.in_memory v)) (numbers.base_at w.rows variable + i) → cell_of_number after variable i ≡ cell_of_number w variable i

-- The addresses of any placement make a memory in which each object stands at its address.
abbrev pub AddressLaw : Type 0
AddressLaw = (m : Module) (p : Placement) (object : Placeable) → Contains (printed m) object →
    placement_of m (map (λ o. p o.name) (printed m)) object.name ≡ p object.name

-- An example: one variable of eight bytes, with an entry at its end.

abbrev pub example_variable : Var
example_variable = record {
  place = record { file = 1; line = 1; column = 1 };
  name = codes "a";
  linkage = Strong;
  constant = true;
  ty = ty.Int W64;
  init = None;
  align = 8;
  entries = record { offset = 8; id = Name (codes "T") } ∷ [];
  visibility = 0;
}

abbrev pub example_module : Module
example_module = record { vars = example_variable ∷ []; funcs = []; jumps = [] }

abbrev pub example_modules : List Module
example_modules = example_module ∷ []

abbrev pub example_id : TypeId
example_id = Name (codes "T")

abbrev pub example_types : Types
example_types = record { ids = identifiers example_modules; carriers = map (carriers example_modules) (identifiers example_modules) }

abbrev pub example_world : Symbolic
example_world = world example_modules example_types

abbrev pub example_object : Object
example_object = variable_at 1 0

-- a variable of two bytes that is no constant
abbrev pub stored_space : List Cell → Space
stored_space cells = record { extent = 2; constant = false; cells = cells }

abbrev pub stored_world : List Cell → Symbolic
stored_world cells = record { items = example_world.items; spaces = stored_space cells ∷ []; types = example_types }

abbrev pub stored_output : List Cell → Numeric
stored_output cells = record {
  rows = record { name = codes "a"; base = 4096; constant = false; leads = [] } ∷ [];
  cells = cells ∷ [];
}

-- it is a source, a test has each of its answers there, and it can be placed
pub record ExampleLaw : Type 0 where
  pub source : AreSource example_modules example_types
  pub denoted : symbols.pointer_to example_world.items 1 (codes "a") 8 ≡ At example_object 8
  pub carries : symbols.test example_world example_id (At example_object 8) ≡ Some true
  pub beside : symbols.test example_world example_id (At example_object 0) ≡ Some false
  pub outside : symbols.test example_world example_id (At example_object 9) ≡ None
  pub null : symbols.test example_world example_id Null ≡ Some false
  pub apart : symbols.equal example_world (At example_object 8) Null ≡ Some false
  pub undefined : symbols.equal example_world (At example_object 9) Null ≡ None
  pub stored : symbols.store (stored_world (Byte 1 ∷ Byte 2 ∷ [])) (value.Int W8 9) (At example_object 1)
      ≡ Some (stored_world (Byte 1 ∷ Byte 9 ∷ []))
  pub stored_there : numbers.store (stored_output (Byte 1 ∷ Byte 2 ∷ [])) (value.Int W8 9) 4097
      ≡ Some (stored_output (Byte 1 ∷ Byte 9 ∷ []))
  pub placeable : IsPlaceable example_module 4096
  pub names : HaveNames example_module
  pub placed : IsPlaced example_module (placement_of example_module (4096 ∷ []))
