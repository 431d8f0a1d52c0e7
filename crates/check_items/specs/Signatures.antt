-- The types that intrinsics are declared with.
-- Source: LLVM Language Reference, "llvm.type.test", "llvm.type.checked.load", "llvm.assume", "llvm.trap", "llvm.ubsantrap" and
-- "llvm.fshr".
use Rattle.std.specs.Prelude.{ℕ, Bool, true, false, not, ◌&&◌, nat_eq, List, [], ◌∷◌, Option, Some, None}
use Rattle.ltt_base.specs.declared.refusal.Placed.{Placed}
use Rattle.ir_values.specs.declared.types.Width.{Width}
use Rattle.ir_values.specs.declared.types.Width.TheVariants.{W1, W8, W32, W64}
use Rattle.ir_values.specs.declared.types.Ty.{Ty, out-Ty}
use Rattle.ir_values.specs.declared.types.Ty.TheOpen.{Ty-F}
use Rattle.ir_values.specs.declared.units.Unit as unit
use Rattle.ir_values.specs.declared.units.Param.{Param}
use Rattle.ir_values.specs.declared.units.Head.{Head}
use Rattle.ir_numbers.specs.Numbers.{bits}
use Rattle.check_types.specs.Heads.{head}
use Rattle.check_constants.specs.declared.intrinsics.Intrinsic.{Intrinsic}
use Rattle.check_constants.specs.declared.intrinsics.Intrinsic.TheVariants.{Test, CheckedLoad, Assume, Trap, CodedTrap, Rotate}
use Rattle.check_items.specs.declared.signatures.Shape.{Shape}
use Rattle.check_items.specs.declared.signatures.Shape.TheVariants.{Nothing, Number, Pointer, Loaded, Anything}

abbrev pub is_number : Width → Ty-F Ty → Bool
is_number width (Ty-F.Int other) = nat_eq (bits other) (bits width)
is_number width _ = false

abbrev pub is_pointer : Ty-F Ty → Bool
is_pointer Ty-F.Ptr = true
is_pointer _ = false

abbrev pub is_nothing : Ty-F Ty → Bool
is_nothing Ty-F.Void = true
is_nothing _ = false

-- a type that isn't known passes
abbrev pub passes : (Ty-F Ty → Bool) → Option Ty → Bool
passes test None = true
passes test (Some ty) = test (out-Ty ty)

abbrev pub are_loaded : List (Placed unit.Unit) → List Ty → Bool
are_loaded us (one ∷ other ∷ []) = passes is_pointer (head us one) && passes (is_number W1) (head us other)
are_loaded us _ = false

-- what a checked load gives, `{ ptr, i1 }`
abbrev pub is_loaded : List (Placed unit.Unit) → Ty-F Ty → Bool
is_loaded us (Ty-F.Struct parts) = are_loaded us parts
is_loaded us _ = false

-- a type of a shape, with its names replaced
abbrev pub fits : List (Placed unit.Unit) → Shape → Ty → Bool
fits us Nothing ty = passes is_nothing (head us ty)
fits us (Number width) ty = passes (is_number width) (head us ty)
fits us Pointer ty = passes is_pointer (head us ty)
fits us Loaded ty = passes (is_loaded us) (head us ty)
fits us Anything ty = true

-- as many parameters as shapes, each of its shape
abbrev pub all_fit : List (Placed unit.Unit) → List Shape → List Param → Bool
all_fit us [] [] = true
all_fit us (shape ∷ shapes) (param ∷ params) = fits us shape param.ty && all_fit us shapes params
all_fit us _ _ = false

abbrev pub result_shape : Intrinsic → Shape
result_shape Test = Number W1
result_shape CheckedLoad = Loaded
result_shape Assume = Nothing
result_shape Trap = Nothing
result_shape CodedTrap = Nothing
result_shape Rotate = Number W64

-- where `metadata` stands, which has a rule of its own, any type fits
abbrev pub param_shapes : Intrinsic → List Shape
param_shapes Test = Pointer ∷ Anything ∷ []
param_shapes CheckedLoad = Pointer ∷ Number W32 ∷ Anything ∷ []
param_shapes Assume = Number W1 ∷ []
param_shapes Trap = []
param_shapes CodedTrap = Number W8 ∷ []
param_shapes Rotate = Number W64 ∷ Number W64 ∷ Number W64 ∷ []

-- a head of the intrinsic's type
abbrev pub is_signature : List (Placed unit.Unit) → Intrinsic → Head → Bool
is_signature us intrinsic h = (fits us (result_shape intrinsic) h.result && all_fit us (param_shapes intrinsic) h.params) && not h.dots

-- the place of the parameter that is `metadata`
abbrev pub metadata_at : Intrinsic → Option ℕ
metadata_at Test = Some 1
metadata_at CheckedLoad = Some 2
metadata_at _ = None

abbrev pub is_at : ℕ → Option ℕ → Bool
is_at at None = false
is_at at (Some other) = nat_eq at other
