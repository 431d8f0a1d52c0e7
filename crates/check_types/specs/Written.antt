-- The flaws of a written type: of its parts, and of where it stands.
-- Source: LLVM Language Reference, "Type System". Differs: the codes are this project's own; a unit that declares or calls a left-out
-- intrinsic is quiet, and has no flaw for a type that is known but stands where it may not.
use Rattle.std.specs.Prelude.{ℕ, Bool, true, false, not, ◌&&◌, ◌||◌, cond, List, Option, Some, None}
use Rattle.ltt_base.specs.declared.refusal.Code.TheVariants.{E06}
use Rattle.ltt_base.specs.declared.refusal.Placed.{Placed}
use Rattle.ir_values.specs.declared.types.Width.{Width}
use Rattle.ir_values.specs.declared.types.Ty.{Ty, fold-Ty, out-Ty}
use Rattle.ir_values.specs.declared.types.Ty.TheOpen.{Ty-F}
use Rattle.ir_values.specs.declared.units.Unit as unit
use Rattle.check_names.specs.declared.flaws.Flaw.{Flaw}
use Rattle.check_names.specs.declared.spaces.Space.TheVariants.{Types}
use Rattle.check_names.specs.Flaws.{◌then◌, each, when}
use Rattle.check_names.specs.Reserved.{use_flaw}
use Rattle.check_types.specs.declared.places.Allowed.{Allowed}
use Rattle.check_types.specs.declared.places.Allowed.TheVariants.{Every, NonVoid, Returned, Scalar, Integer, Bit, Metadata}
use Rattle.check_types.specs.Named.{is_opaque, is_endless}
use Rattle.check_types.specs.Heads.{head, named_head}
use Rattle.check_types.specs.Left.{is_metadata, left_flaw}
use Rattle.check_types.specs.Measures.{past_flaw}

abbrev pub is_void : Ty-F Ty → Bool
is_void Ty-F.Void = true
is_void _ = false

abbrev pub is_integer : Ty-F Ty → Bool
is_integer (Ty-F.Int width) = true
is_integer _ = false

abbrev pub is_pointer : Ty-F Ty → Bool
is_pointer Ty-F.Ptr = true
is_pointer _ = false

abbrev pub is_bit_width : Width → Bool
is_bit_width Width.W1 = true
is_bit_width _ = false

abbrev pub is_bit : Ty-F Ty → Bool
is_bit (Ty-F.Int width) = is_bit_width width
is_bit _ = false

-- the types that may stand at a place
abbrev pub allows : Allowed → Ty-F Ty → Bool
allows Every ty = true
allows NonVoid ty = not (is_void ty)
allows Returned ty = (is_void ty || is_integer ty) || is_pointer ty
allows Scalar ty = is_integer ty || is_pointer ty
allows Integer ty = is_integer ty
allows Bit ty = is_bit ty
allows Metadata ty = false

-- what isn't known is allowed everywhere
abbrev pub is_allowed : Allowed → Option Ty → Bool
is_allowed allowed None = true
is_allowed allowed (Some ty) = allows allowed (out-Ty ty)

-- a known type that stands where it may not
abbrev pub place_flaw : List (Placed unit.Unit) → Bool → Allowed → Ty → Option Flaw
place_flaw us quiet allowed ty = when (not quiet && not (is_allowed allowed (head us ty))) E06

-- a name: nothing defines it, it may not be used, or no type can be written out for it
abbrev pub name_flaw : Bool → List (Placed unit.Unit) → Bool → List ℕ → Option Flaw
name_flaw output us quiet name =
    use_flaw output us Types name then when (not quiet && (is_opaque us name || is_endless us name)) E06

-- what is wrong with a type apart from its place, and whether it is `void`
pub record Written : Type 0 where
  pub void : Bool
  pub flaw : Option Flaw

abbrev pub is_void_head : Option Ty → Bool
is_void_head None = false
is_void_head (Some ty) = is_void (out-Ty ty)

-- a part of an array or struct, which may not be `void`
abbrev pub part_flaw : Bool → Written → Option Flaw
part_flaw quiet part = part.flaw then when (not quiet && part.void) E06

abbrev pub written_step : Bool → List (Placed unit.Unit) → Bool → Ty-F Written → Written
written_step output us quiet Ty-F.Void = record { void = true; flaw = None }
written_step output us quiet (Ty-F.Array count part) = record { void = false; flaw = part_flaw quiet part }
written_step output us quiet (Ty-F.Struct parts) = record { void = false; flaw = each (part_flaw quiet) parts }
written_step output us quiet (Ty-F.Named name) =
    record { void = is_void_head (named_head us name); flaw = name_flaw output us quiet name }
written_step output us quiet (Ty-F.Left text) = record { void = false; flaw = left_flaw quiet text }
written_step output us quiet _ = record { void = false; flaw = None }

abbrev pub written : Bool → List (Placed unit.Unit) → Bool → Ty → Written
written output us quiet = fold-Ty Written (written_step output us quiet)

abbrev pub is_metadata_type : Ty-F Ty → Bool
is_metadata_type (Ty-F.Left text) = is_metadata text
is_metadata_type _ = false

abbrev pub is_metadata_place : Allowed → Bool
is_metadata_place Metadata = true
is_metadata_place _ = false

-- the word `metadata` where it may stand
abbrev pub is_metadata_at : Allowed → Ty → Bool
is_metadata_at allowed ty = is_metadata_place allowed && is_metadata_type (out-Ty ty)

-- the flaws of a type that is written at a place, in an output or a source; where it is past the limits, last
abbrev pub type_flaw : Bool → List (Placed unit.Unit) → Bool → Allowed → Ty → Option Flaw
type_flaw output us quiet allowed ty = cond (is_metadata_at allowed ty) None
    (((written output us quiet ty).flaw then place_flaw us quiet allowed ty) then past_flaw us ty)
