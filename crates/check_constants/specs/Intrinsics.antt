-- The intrinsics that a file may use, and the declarations of others.
-- Source: LLVM Language Reference, "llvm.type.test", "llvm.type.checked.load", "llvm.assume", "llvm.trap", "llvm.ubsantrap" and
-- "llvm.fshr". Differs: every other intrinsic is left out, and so are, in an output, those of type tests and assumptions.
use Rattle.std.specs.Prelude.{ℕ, Bool, true, false, ◌&&◌, cond, List, Option, Some, None, is_none, codes}
use Rattle.std.specs.Str.{bytes_eq}
use Rattle.ltt_base.specs.declared.refusal.Code.TheVariants.{E07}
use Rattle.ltt_base.specs.declared.refusal.Placed.{Placed}
use Rattle.ir_values.specs.declared.units.Unit as unit
use Rattle.ir_values.specs.declared.units.Form.{Form}
use Rattle.ir_values.specs.declared.units.Form.TheVariants.{DeclareForm}
use Rattle.check_names.specs.declared.flaws.Flaw.{Flaw}
use Rattle.check_names.specs.declared.spaces.Space.TheVariants.{Globals}
use Rattle.check_names.specs.Flaws.{named_when}
use Rattle.check_names.specs.Spaces.{first_unit}
use Rattle.check_names.specs.Reserved.{is_intrinsic}
use Rattle.check_constants.specs.declared.intrinsics.Intrinsic.{Intrinsic}
use Rattle.check_constants.specs.declared.intrinsics.Intrinsic.TheVariants.{Test, CheckedLoad, Assume, Trap, CodedTrap, Rotate}

abbrev pub source_intrinsic : List ℕ → Option Intrinsic
source_intrinsic name =
    cond (bytes_eq name (codes "llvm.type.test")) (Some Test)
    (cond (bytes_eq name (codes "llvm.type.checked.load")) (Some CheckedLoad)
    (cond (bytes_eq name (codes "llvm.assume")) (Some Assume) None))

abbrev pub output_intrinsic : List ℕ → Option Intrinsic
output_intrinsic name = cond (bytes_eq name (codes "llvm.fshr.i64")) (Some Rotate) None

-- the intrinsic of this name that an output or a source may use
abbrev pub intrinsic_of : Bool → List ℕ → Option Intrinsic
intrinsic_of output name =
    cond (bytes_eq name (codes "llvm.trap")) (Some Trap)
    (cond (bytes_eq name (codes "llvm.ubsantrap")) (Some CodedTrap)
    (cond output (output_intrinsic name) (source_intrinsic name)))

abbrev pub is_declaration : Form → Bool
is_declaration (DeclareForm head) = true
is_declaration _ = false

abbrev pub declares : Option (Placed unit.Unit) → Bool
declares None = false
declares (Some u) = is_declaration u.value.form

-- an intrinsic: the first unit that defines the name is a declaration of it
abbrev pub is_declared_intrinsic : List (Placed unit.Unit) → List ℕ → Bool
is_declared_intrinsic us name = is_intrinsic name && declares (first_unit Globals name us)

-- an intrinsic that the file may not use
abbrev pub is_left_intrinsic : Bool → List (Placed unit.Unit) → List ℕ → Bool
is_left_intrinsic output us name = is_declared_intrinsic us name && is_none (intrinsic_of output name)

-- an intrinsic that isn't called directly
abbrev pub uncalled_flaw : List (Placed unit.Unit) → List ℕ → Option Flaw
uncalled_flaw us name = named_when (is_declared_intrinsic us name) E07 (codes "@") name
