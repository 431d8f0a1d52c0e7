-- The flaws of constants.
-- Source: LLVM Language Reference, "Simple Constants", "Complex Constants" and "Constant Expressions". Differs: the codes are this
-- project's own; a unit that declares or calls a left-out intrinsic is quiet, and has no flaw for a type that differs.
use Rattle.std.specs.Prelude.{ℕ, suc, nat_eq, Bool, true, false, not, ◌&&◌, ◌||◌, cond, List, [], ◌∷◌, length, Option, Some, None, is_none, codes}
use Rattle.std.specs.List.{list_any}
use Rattle.ltt_base.specs.declared.refusal.Code.TheVariants.{E06, E07}
use Rattle.ltt_base.specs.declared.refusal.Placed.{Placed}
use Rattle.ir_values.specs.declared.types.Width.TheVariants.{W64}
use Rattle.ir_values.specs.declared.types.Ty.{Ty, out-Ty}
use Rattle.ir_values.specs.declared.types.Ty.TheVariants.{Ptr}
use Rattle.ir_values.specs.declared.constants.Const.TheOpen.{Const-F}
use Rattle.ir_values.specs.declared.units.Unit as unit
use Rattle.check_names.specs.declared.flaws.Flaw.{Flaw}
use Rattle.check_names.specs.declared.spaces.Space.TheVariants.{Globals}
use Rattle.check_names.specs.Flaws.{◌then◌, each, when, worded_when}
use Rattle.check_names.specs.Reserved.{use_flaw}
use Rattle.check_types.specs.declared.places.Allowed.{Allowed}
use Rattle.check_types.specs.declared.places.Allowed.TheVariants.{NonVoid, Integer}
use Rattle.check_types.specs.Left.{is_between, left_word}
use Rattle.check_types.specs.Parts.{head_part}
use Rattle.check_types.specs.Written.{is_pointer, type_flaw}
use Rattle.check_constants.specs.declared.indices.Index.{Index}
use Rattle.check_constants.specs.declared.indices.Index.TheVariants.{Address}
use Rattle.check_constants.specs.Intrinsics.{uncalled_flaw}
use Rattle.check_constants.specs.Numbers.{is_number}
use Rattle.check_constants.specs.Indices.{known, moved, indices_flaw}
use Rattle.check_constants.specs.Addresses.{number_at, indices_of}
use Rattle.check_constants.specs.Shapes.{is_other, is_width, is_array, is_struct, are_bytes, is_different}
use Rattle.check_constants.specs.Weighed.{Weighed}

-- a pointer at a known type that isn't `ptr`
abbrev pub pointer_flaw : Bool → Option Ty → Option Flaw
pointer_flaw quiet ty = when (not quiet && is_other is_pointer ty) E06

-- a global that is used where it isn't called
abbrev pub used_flaw : Bool → List (Placed unit.Unit) → List ℕ → Option Flaw
used_flaw output us name = use_flaw output us Globals name then uncalled_flaw us name

-- the address of a global
abbrev pub address_flaw : Bool → List (Placed unit.Unit) → Bool → Option Ty → List ℕ → Option Flaw
address_flaw output us quiet ty name = used_flaw output us name then pointer_flaw quiet ty

-- the number of an address, which a source leaves out
abbrev pub address_number_flaw : Bool → List (Placed unit.Unit) → Bool → Option Ty → List ℕ → Option Flaw
address_number_flaw false us quiet ty name = worded_when true E07 (codes "ptrtoint") then use_flaw false us Globals name
address_number_flaw true us quiet ty name =
    used_flaw true us name then when (not quiet && is_other (is_width W64) ty) E06

-- a number at a type that isn't of integers, or can't hold it
abbrev pub number_flaw : Option Ty → List ℕ → Option Flaw
number_flaw None text = None
number_flaw (Some ty) text = when (is_none (number_at (out-Ty ty) text)) E06

-- a letter or `_`
unfoldable pub is_word_start : ℕ → Bool
is_word_start byte = is_between 97 122 byte || is_between 65 90 byte || nat_eq byte 95

abbrev pub begins_word : List ℕ → Bool
begins_word [] = false
begins_word (byte ∷ bytes) = is_word_start byte

-- the first token of what is left out: a word, or a number that isn't whole
abbrev pub left_constant_word : List ℕ → List ℕ
left_constant_word text = cond (begins_word text) (left_word text) text

abbrev pub left_constant_flaw : Option Ty → List ℕ → Option Flaw
left_constant_flaw ty text = cond (is_number text) (number_flaw ty text) (worded_when true E07 (left_constant_word text))

-- a part of an aggregate, whose written type is that of its place
abbrev pub part_flaw : Bool → List (Placed unit.Unit) → Bool → Option Ty → Weighed → Option Flaw
part_flaw output us quiet ty part =
    part.flaw output us quiet NonVoid ty then when (not quiet && is_different us part.written ty) E06

-- the parts of an aggregate, each at its part of the type
unfoldable pub parts_flaw : Bool → List (Placed unit.Unit) → Bool → Option Ty → ℕ → List Weighed → Option Flaw
parts_flaw output us quiet ty at [] = None
parts_flaw output us quiet ty at (part ∷ parts) =
    part_flaw output us quiet (head_part at ty) part then parts_flaw output us quiet ty (suc at) parts

abbrev pub array_flaw : Bool → List (Placed unit.Unit) → Bool → Option Ty → List Weighed → Option Flaw
array_flaw output us quiet ty parts =
    when (not quiet && is_other (is_array (length parts)) ty) E06 then parts_flaw output us quiet ty 0 parts

abbrev pub struct_flaw : Bool → List (Placed unit.Unit) → Bool → Option Ty → List Weighed → Option Flaw
struct_flaw output us quiet ty parts =
    when (not quiet && is_other (is_struct (length parts)) ty) E06 then parts_flaw output us quiet ty 0 parts

abbrev pub bytes_flaw : List (Placed unit.Unit) → Bool → Option Ty → List ℕ → Option Flaw
bytes_flaw us quiet ty text = when (not quiet && is_other (are_bytes us (length text)) ty) E06

abbrev pub is_address : Index → Bool
is_address Address = true
is_address _ = false

-- an address without a value: null moved away, or moved by the number of an address
abbrev pub is_valueless : Bool → Bool → ℕ → List Index → Bool
is_valueless output from_null by indices = (from_null && not (nat_eq by 0)) || (output && list_any is_address indices)

abbrev pub valueless_flaw : Bool → List (Placed unit.Unit) → Ty → Weighed → List Index → Option Flaw
valueless_flaw output us own base indices =
    worded_when (is_valueless output (base.is_null us) (moved us own indices) indices) E07 (codes "getelementptr")

-- an index behind its written type
abbrev pub one_index_flaw : Bool → List (Placed unit.Unit) → Bool → Weighed → Option Flaw
one_index_flaw output us quiet index = index.flaw output us quiet Integer None

-- the address that is moved, and the indices
abbrev pub moved_parts_flaw : Bool → List (Placed unit.Unit) → Bool → Weighed → List Weighed → Option Flaw
moved_parts_flaw output us quiet base indices =
    base.flaw output us quiet NonVoid (Some Ptr) then each (one_index_flaw output us quiet) indices

-- a moved address, with the flaws of its parts
abbrev pub moved_flaw : Bool → List (Placed unit.Unit) → Bool → Option Ty → Ty → Weighed → List Index → Option Flaw → Option Flaw
moved_flaw output us quiet ty own base indices parts =
    valueless_flaw output us own base indices
    then (type_flaw output us quiet NonVoid own
    then (parts then (indices_flaw output us quiet own indices then pointer_flaw quiet ty)))

-- a written type, with the flaws of the constant behind it
abbrev pub typed_flaw : Bool → List (Placed unit.Unit) → Bool → Allowed → Ty → Option Flaw → Option Flaw
typed_flaw output us quiet allowed own part = type_flaw output us quiet allowed own then part

abbrev pub written_step : Const-F Weighed Weighed → Option Ty
written_step (Const-F.Typed own part) = Some own
written_step _ = None

abbrev pub flaw_step : Bool → List (Placed unit.Unit) → Bool → Allowed → Option Ty → Const-F Weighed Weighed → Option Flaw
flaw_step output us quiet allowed ty (Const-F.Int width n) = when (is_other (is_width width) (known us ty)) E06
flaw_step output us quiet allowed ty Const-F.Null = pointer_flaw quiet (known us ty)
flaw_step output us quiet allowed ty (Const-F.Addr name offset) = address_flaw output us quiet (known us ty) name
flaw_step output us quiet allowed ty (Const-F.Zero own) = None
flaw_step output us quiet allowed ty (Const-F.Array part parts) = array_flaw output us quiet (known us ty) parts
flaw_step output us quiet allowed ty (Const-F.Struct parts) = struct_flaw output us quiet (known us ty) parts
flaw_step output us quiet allowed ty (Const-F.Bytes text) = bytes_flaw us quiet (known us ty) text
flaw_step output us quiet allowed ty (Const-F.Gep own base indices) =
    moved_flaw output us quiet (known us ty) own base (indices_of us indices) (moved_parts_flaw output us quiet base indices)
flaw_step output us quiet allowed ty (Const-F.Number name offset) = address_number_flaw output us quiet (known us ty) name
flaw_step output us quiet allowed ty (Const-F.Left text) = left_constant_flaw (known us ty) text
flaw_step output us quiet allowed ty (Const-F.Typed own part) = typed_flaw output us quiet allowed own (part.flaw output us quiet NonVoid (Some own))
