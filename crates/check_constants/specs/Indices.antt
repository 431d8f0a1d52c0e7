-- The indices of an address: whether they lead to a part of its type, and by how many bytes.
-- Source: LLVM Language Reference, "'getelementptr' Instruction". Differs: an index into a struct may be of any integer type, and is read
-- with its sign; where a type isn't known, nothing is asked behind it.
use Rattle.std.specs.Prelude.{ℕ, ◌+◌, ◌*◌, ◌%◌, ◌^◌, Bool, true, false, not, cond, nat_lt, List, [], ◌∷◌, length, slice_get, Option, Some, None}
use Rattle.ltt_base.specs.declared.refusal.Code.TheVariants.{E06}
use Rattle.ltt_base.specs.declared.refusal.Placed.{Placed}
use Rattle.ir_values.specs.declared.types.Ty.{Ty, out-Ty}
use Rattle.ir_values.specs.declared.types.Ty.TheOpen.{Ty-F}
use Rattle.ir_values.specs.declared.units.Unit as unit
use Rattle.check_names.specs.declared.flaws.Flaw.{Flaw}
use Rattle.check_names.specs.Flaws.{when, ◌then◌}
use Rattle.check_types.specs.Heads.{option_head, named_head}
use Rattle.check_types.specs.Measures.{size, is_past}
use Rattle.check_types.specs.Parts.{struct_offset}
use Rattle.check_constants.specs.declared.indices.Index.{Index}
use Rattle.check_constants.specs.declared.indices.Index.TheVariants.{Number, Address, LeftOut, Variable}

-- a type with its names followed, where there is one and it is known
abbrev pub known : List (Placed unit.Unit) → Option Ty → Option Ty
known us ty = option_head (named_head us) ty

abbrev pub number_in_index : Index → ℕ
number_in_index (Number n) = n
number_in_index _ = 0

-- an index that may be one into a struct of so many parts. What is left out has a flaw of its own
abbrev pub is_part : Bool → ℕ → Index → Bool
is_part output parts (Number n) = nat_lt n parts
is_part output parts Address = not output
is_part output parts LeftOut = true
is_part output parts Variable = false

-- an index into a type
abbrev pub layer_flaw : Bool → Bool → Ty-F Ty → Index → Option Flaw
layer_flaw output quiet (Ty-F.Array parts part) index = None
layer_flaw output quiet (Ty-F.Struct parts) index = when (not (is_part output (length parts) index)) E06
layer_flaw output quiet _ index = when (not quiet) E06

abbrev pub index_flaw : Bool → Bool → Option Ty → Index → Option Flaw
index_flaw output quiet None index = None
index_flaw output quiet (Some ty) index = layer_flaw output quiet (out-Ty ty) index

-- the part of a struct that an index leads to
abbrev pub struct_part : List Ty → Index → Option Ty
struct_part parts (Number n) = slice_get parts n
struct_part parts _ = None

abbrev pub layer_part : Ty-F Ty → Index → Option Ty
layer_part (Ty-F.Array parts part) index = Some part
layer_part (Ty-F.Struct parts) index = struct_part parts index
layer_part _ index = None

-- the part that an index leads to; None where that isn't known
abbrev pub entered : Option Ty → Index → Option Ty
entered None index = None
entered (Some ty) index = layer_part (out-Ty ty) index

-- the flaws of the indices behind the first, behind one that is found. An index into a struct is a number in range, also in a quiet unit
unfoldable pub walk_flaw : Bool → List (Placed unit.Unit) → Bool → Option Flaw → Option Ty → List Index → Option Flaw
walk_flaw output us quiet found ty [] = found
walk_flaw output us quiet found ty (index ∷ indices) =
    walk_flaw output us quiet (found then index_flaw output quiet (known us ty) index) (entered (known us ty) index) indices

abbrev pub behind_first : List Index → List Index
behind_first [] = []
behind_first (index ∷ indices) = indices

-- the flaws of all indices: the first counts whole values of the type
abbrev pub indices_flaw : Bool → List (Placed unit.Unit) → Bool → Ty → List Index → Option Flaw
indices_flaw output us quiet ty indices = walk_flaw output us quiet None (Some ty) (behind_first indices)

-- the bytes that an index moves an address by, modulo 2^64
abbrev pub array_step : List (Placed unit.Unit) → Ty → Index → ℕ
array_step us part index = number_in_index index * size us part % 2 ^ 64

abbrev pub struct_step : List (Placed unit.Unit) → List Ty → Index → ℕ
struct_step us parts index = struct_offset us parts (number_in_index index) % 2 ^ 64

abbrev pub layer_step : List (Placed unit.Unit) → Ty-F Ty → Index → ℕ
layer_step us (Ty-F.Array parts part) index = array_step us part index
layer_step us (Ty-F.Struct parts) index = struct_step us parts index
layer_step us _ index = 0

abbrev pub index_step : List (Placed unit.Unit) → Option Ty → Index → ℕ
index_step us None index = 0
index_step us (Some ty) index = layer_step us (out-Ty ty) index

-- where the indices behind the first lead, from a place on, modulo 2^64
unfoldable pub walked : List (Placed unit.Unit) → ℕ → Option Ty → List Index → ℕ
walked us from ty [] = from
walked us from ty (index ∷ indices) =
    walked us ((from + index_step us (known us ty) index) % 2 ^ 64) (entered (known us ty) index) indices

-- the bytes that indices move an address by, modulo 2^64; none for a type past the limits
unfoldable pub moved : List (Placed unit.Unit) → Ty → List Index → ℕ
moved us ty [] = 0
moved us ty (index ∷ indices) = cond (is_past us ty) 0 (walked us (array_step us ty index) (Some ty) indices)
