-- What is wrong with the heads of functions.
-- Source: LLVM Language Reference, "Functions". Differs: the codes are this project's own; results are `void`, integers or `ptr`, parameters
-- integers or `ptr`; an intrinsic is declared with its type, and one that is left out has no flaw for the types of its declaration.
use Rattle.std.specs.Prelude.{ℕ, ◌+◌, Bool, true, false, not, ◌&&◌, cond, List, [], ◌∷◌, Option, Some, None, is_none, codes}
use Rattle.ltt_base.specs.declared.refusal.Code.TheVariants.{E06, E07}
use Rattle.ltt_base.specs.declared.refusal.Placed.{Placed}
use Rattle.ir_values.specs.declared.units.Unit as unit
use Rattle.ir_values.specs.declared.units.Param.{Param}
use Rattle.ir_values.specs.declared.units.Head.{Head}
use Rattle.ir_values.specs.declared.units.Form.{Form}
use Rattle.check_names.specs.declared.flaws.Flaw.{Flaw}
use Rattle.check_names.specs.declared.spaces.Space.TheVariants.{Globals}
use Rattle.check_names.specs.Flaws.{◌then◌, each, when, worded_when, named_when}
use Rattle.check_names.specs.Reserved.{definition_flaw, intrinsic_flaw, reserved_flaw, is_intrinsic}
use Rattle.check_types.specs.declared.places.Allowed.{Allowed}
use Rattle.check_types.specs.declared.places.Allowed.TheVariants.{Every, Returned, Scalar, Metadata}
use Rattle.check_types.specs.Written.{type_flaw}
use Rattle.check_bodies.specs.Numbers.{behind_name, name_or}
use Rattle.check_bodies.specs.Bodies.{head_flaw}
use Rattle.check_constants.specs.declared.intrinsics.Intrinsic.{Intrinsic}
use Rattle.check_constants.specs.Intrinsics.{intrinsic_of}
use Rattle.check_items.specs.Linkages.{linkage_flaw}
use Rattle.check_items.specs.Attached.{attached_flaw, declared_flaw}
use Rattle.check_items.specs.Signatures.{is_signature, metadata_at, is_at}

-- words that are left out
abbrev pub word_flaw : List ℕ → Option Flaw
word_flaw word = worded_when true E07 word

abbrev pub words_flaw : List (List ℕ) → Option Flaw
words_flaw words = each word_flaw words

-- the types that a parameter at a place may have
abbrev pub place_of : Option Intrinsic → ℕ → Allowed
place_of None at = Scalar
place_of (Some intrinsic) at = cond (is_at at (metadata_at intrinsic)) Metadata Scalar

-- a parameter that has the next number as its name if it has none
abbrev pub param_flaw : Bool → List (Placed unit.Unit) → Bool → Allowed → ℕ → Param → Option Flaw
param_flaw output us quiet allowed next param =
    type_flaw output us quiet allowed param.ty
    then (words_flaw param.left then reserved_flaw output (codes "%") (name_or next param.name))

-- parameters, of which the first stands at a place in its head's list
abbrev pub params_flaw : Bool → List (Placed unit.Unit) → Bool → Option Intrinsic → ℕ → ℕ → List Param → Option Flaw
params_flaw output us quiet intrinsic at next [] = None
params_flaw output us quiet intrinsic at next (param ∷ params) =
    param_flaw output us quiet (place_of intrinsic at) next param
    then params_flaw output us quiet intrinsic (at + 1) (behind_name next param.name) params

-- the parameters, the dots behind them, and the words behind those
abbrev pub rest_flaw : Bool → List (Placed unit.Unit) → Bool → Option Intrinsic → Head → Option Flaw
rest_flaw output us quiet intrinsic head =
    params_flaw output us quiet intrinsic 0 0 head.params
    then (worded_when head.dots E07 (codes "...") then words_flaw head.left)

-- the flaws of a definition, the unit at a place, apart from its attachments
abbrev pub body_head_flaw : Bool → List (Placed unit.Unit) → ℕ → Head → Option Flaw
body_head_flaw output us at head =
    type_flaw output us false Returned head.result
    then (definition_flaw output us at Globals head.name
    then (intrinsic_flaw head.name then rest_flaw output us false None head))

-- the flaws of a definition apart from the limits of its file
abbrev pub define_flaw : Bool → List (Placed unit.Unit) → ℕ → Head → Form → Option Flaw
define_flaw output us at head form =
    linkage_flaw head.linkage
    then (body_head_flaw output us at head then (head_flaw us at form then attached_flaw output us None head.attached))

-- an intrinsic that the file may not use
abbrev pub is_left : Bool → List ℕ → Bool
is_left output name = is_intrinsic name && is_none (intrinsic_of output name)

abbrev pub left_flaw : Bool → List ℕ → Option Flaw
left_flaw output name = named_when (is_left output name) E07 (codes "@") name

-- the types that a result may have; that of an intrinsic is told by its type as a whole
abbrev pub result_place : Option Intrinsic → Allowed
result_place None = Returned
result_place (Some intrinsic) = Every

-- an intrinsic with another type than its own
abbrev pub signature_flaw : List (Placed unit.Unit) → Option Intrinsic → Head → Option Flaw
signature_flaw us None head = None
signature_flaw us (Some intrinsic) head = when (not (is_signature us intrinsic head)) E06

-- the flaws of a declaration of a function, or of an intrinsic of the file's
abbrev pub typed_head_flaw : Bool → List (Placed unit.Unit) → ℕ → Bool → Option Intrinsic → Head → Option Flaw
typed_head_flaw output us at quiet intrinsic head =
    type_flaw output us quiet (result_place intrinsic) head.result
    then (definition_flaw output us at Globals head.name
    then (left_flaw output head.name
    then (rest_flaw output us quiet intrinsic head then signature_flaw us intrinsic head)))

abbrev pub declared_head_flaw : Bool → List (Placed unit.Unit) → ℕ → Head → Option Flaw
declared_head_flaw output us at head = typed_head_flaw output us at (is_left output head.name) (intrinsic_of output head.name) head

-- the flaws of a declaration apart from the limits of its file
abbrev pub declare_flaw : Bool → List (Placed unit.Unit) → ℕ → Head → Form → Option Flaw
declare_flaw output us at head form =
    declared_flaw output head.attached
    then (linkage_flaw head.linkage
    then (declared_head_flaw output us at head then head_flaw us at form))
