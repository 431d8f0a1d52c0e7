-- Constants that are read again are kept as they were.
use Rattle.std.proofs.Common.{◌≡◌, refl, sym, ap, subst, ◌∙◌, ℕ, zero, suc, nat_eq, false, cond, List, [], ◌∷◌, length, map, Option, Some, None}
use Rattle.std.specs.List.{AllByRecursion, AllZip, list_all}
use Rattle.ir_values.specs.declared.types.Width.TheVariants.{W8}
use Rattle.ir_values.specs.declared.types.Ty.{Ty, out-Ty}
use Rattle.ir_values.specs.declared.types.Ty.TheVariants as ty
use Rattle.ir_values.specs.declared.types.Ty.TheVariants.{outs-Ptr}
use Rattle.ir_values.specs.declared.types.Ty.TheOpen.{Ty-F}
use Rattle.ir_values.specs.declared.constants.Const.{Const, out-Const, roll-Const, roll-out-Const, map-Const}
use Rattle.ir_values.specs.declared.constants.Const.TheVariants as const
use Rattle.ir_values.specs.declared.constants.Const.TheVariants.{rolls-Int, rolls-Null, rolls-Addr, rolls-Zero, rolls-Array as rolls-Parts, rolls-Struct as rolls-Fields, rolls-Bytes, rolls-Number}
use Rattle.ir_values.specs.declared.constants.Const.TheOpen.{Const-F}
use Rattle.ir_values.specs.declared.constants.Operand.{Operand}
use Rattle.ir_values.specs.declared.constants.Operand.TheVariants as operand
use Rattle.type_grammar.specs.Levels.{levels}
use Rattle.check_types.specs.Heads.{head}
use Rattle.check_types.specs.Replaced.{replaced}
use Rattle.check_constants.specs.Keeping.{are_zero, is_byte_layer, is_byte_head, byte_of, zero_of, layer_zero, array_kept, struct_kept, bytes_kept, values_of, types_of, kept_step}
use Rattle.check_constants.specs.Weighed.{Weighed}
use Rattle.check_constants.specs.Constants.{weighed, operand_weighed}
use Rattle.check_constants.specs.Kept.{kept}
use Rattle.check_constants.specs.Callees.{callee_of}
use Rattle.check_operands.specs.Operands.{operand_kept}
use Rattle.printed_units.specs.Written.{IsTyWithin, IsTy, IsAddress, AreParts, ConstLayer, IsConstWithin, IsOperand}
use Rattle.printed_units.specs.Said.{part_said, fields_said, struct_said, layer_said, said_within, operand_said}
use Rattle.printed_modules.specs.Printed.{KeptLayer, IsKeptWithin, IsKeptOperand}
use Rattle.printed_modules.proofs.TypeKept.{Units, ty_head, ty_replaced}
use Rattle.printed_modules.proofs.WeighedLemmas.{weighed_rolled, weighed_typed, address_kept_again, callee_of_address}

-- a constant is what its outermost layer says
const_rolled : (constant made : Const) (layer : Const-F Const Operand) → out-Const constant ≡ layer → roll-Const layer ≡ made
    → made ≡ constant
const_rolled constant made layer opens rolls = sym rolls ∙ ap roll-Const (sym opens) ∙ roll-out-Const constant

pub kept_rolled : (us : Units) (at : Option Ty) (constant : Const) (layer : Const-F Const Operand) → roll-Const layer ≡ constant
    → kept us at constant ≡ kept_step us at (map-Const Const Operand Weighed Weighed weighed operand_weighed layer)
kept_rolled us at constant layer rolls = ap (λ w. w.kept us at) (weighed_rolled constant layer rolls)

-- a constant without parts that is kept as it is
leaf_kept : (us : Units) (at : Option Ty) (constant made : Const) (layer : Const-F Const Operand) → out-Const constant ≡ layer
    → roll-Const layer ≡ made → kept_step us at (map-Const Const Operand Weighed Weighed weighed operand_weighed layer) ≡ made
    → kept us at constant ≡ constant
leaf_kept us at constant made layer opens rolls same =
    let is = const_rolled constant made layer opens rolls in
    kept_rolled us at constant layer (rolls ∙ is) ∙ same ∙ is

-- what is told of each form

abbrev Parts : Type 1
Parts = Ty → Const → Type 0

zero_told : (n : ℕ) (P : Parts) (type : Ty) (shape : Ty-F Ty) (own : Ty) → ConstLayer n P type shape (Const-F.Zero own) → type ≡ own
zero_told n P type (Ty-F.Array count part) own is = is
zero_told n P type (Ty-F.Struct parts) own is = is
zero_told n P type _ own is = absurd is

zero_layer : (n : ℕ) (P : Parts) (type : Ty) (shape : Ty-F Ty) (own : Ty) → ConstLayer n P type shape (Const-F.Zero own)
    → layer_zero type shape ≡ const.Zero type
zero_layer n P type (Ty-F.Array count part) own is = refl
zero_layer n P type (Ty-F.Struct parts) own is = refl
zero_layer n P type _ own is = absurd is

address_told : (n : ℕ) (P : Parts) (type : Ty) (shape : Ty-F Ty) (name : List ℕ) (offset : ℕ)
    → ConstLayer n P type shape (Const-F.Addr name offset) → IsAddress (suc n) name offset
address_told n P type Ty-F.Ptr name offset is = is
address_told n P type _ name offset is = absurd is

parts_told : (n : ℕ) (P : Parts) (type : Ty) (shape : Ty-F Ty) (part : Ty) (parts : List Const)
    → ConstLayer n P type shape (Const-F.Array part parts) → AreParts n P part parts
parts_told n P type (Ty-F.Array count element) part parts is = subst (λ own. AreParts n P own parts) is.0 is.2
parts_told n P type _ part parts is = absurd is

moved_told : (n : ℕ) (P : Parts) (type : Ty) (shape : Ty-F Ty) (own : Ty) (base : Const) (indices : List Operand)
    → ConstLayer n P type shape (Const-F.Gep own base indices) → ⊥
moved_told n P type Ty-F.Void own base indices is = is
moved_told n P type _ own base indices is = is

left_told : (n : ℕ) (P : Parts) (type : Ty) (shape : Ty-F Ty) (text : List ℕ) → ConstLayer n P type shape (Const-F.Left text) → ⊥
left_told n P type Ty-F.Void text is = is
left_told n P type _ text is = is

typed_told : (n : ℕ) (P : Parts) (type : Ty) (shape : Ty-F Ty) (own : Ty) (part : Const)
    → ConstLayer n P type shape (Const-F.Typed own part) → ⊥
typed_told n P type Ty-F.Void own part is = is
typed_told n P type _ own part is = is

-- aggregates

abbrev IsKeptAt : Units → (Ty → Const → Const) → Ty → Const → Type 0
IsKeptAt us said type constant = kept us (Some type) (said type constant) ≡ constant

typed_kept : (us : Units) (at : Option Ty) (own : Ty) (part : Const) → kept us at (const.Typed own part) ≡ kept us (Some own) part
typed_kept us at own part = ap (λ w. w.kept us at) (weighed_typed own part)

parts_kept : (us : Units) (said : Ty → Const → Const) (part : Ty) (parts : List Const) → AllByRecursion (IsKeptAt us said part) parts
    → values_of us (map weighed (map (part_said said part) parts)) ≡ parts
parts_kept us said part [] are = refl
parts_kept us said part (constant ∷ constants) are =
    ap (λ first. first ∷ values_of us (map weighed (map (part_said said part) constants)))
    (typed_kept us None part (said part constant) ∙ are.0)
    ∙ ap (λ rest. constant ∷ rest) (parts_kept us said part constants are.1)

fields_kept : (us : Units) (said : Ty → Const → Const) (types : List Ty) (parts : List Const) → AllZip (IsKeptAt us said) types parts
    → values_of us (map weighed (fields_said said types parts)) ≡ parts
fields_kept us said [] [] are = refl
fields_kept us said (type ∷ types) (constant ∷ constants) are =
    ap (λ first. first ∷ values_of us (map weighed (fields_said said types constants)))
    (typed_kept us None type (said type constant) ∙ are.0)
    ∙ ap (λ rest. constant ∷ rest) (fields_kept us said types constants are.1)
fields_kept us said _ _ are = absurd are

array_again : (us : Units) (n : ℕ) (part : Ty) (parts : List Const) → IsTyWithin n part → are_zero parts ≡ false
    → is_byte_layer (out-Ty part) ≡ false → array_kept us part parts ≡ const.Array part parts
array_again us n part parts is nonzero other =
    ap (λ zeros. cond zeros (const.Zero (ty.Array (length parts) (replaced us part))) (cond (is_byte_head (head us part)) (bytes parts)
    (const.Array (replaced us part) parts))) nonzero
    ∙ ap (λ byte. cond byte (bytes parts) (const.Array (replaced us part) parts)) (ap is_byte_head (ty_head us n part is) ∙ other)
    ∙ ap (λ own. const.Array own parts) (ty_replaced us n part is) where
      bytes : List Const → Const
      bytes values = const.Bytes (map (λ value. byte_of (out-Const value)) values)

struct_again : (types : List Ty) (parts : List Const) → are_zero parts ≡ false → struct_kept types parts ≡ const.Struct parts
struct_again types parts nonzero = ap (λ zeros. cond zeros (const.Zero (ty.Struct types)) (const.Struct parts)) nonzero

bytes_again : (text : List ℕ) → list_all (λ byte. nat_eq byte 0) text ≡ false → bytes_kept text ≡ const.Bytes text
bytes_again text nonzero = ap (λ zeros. cond zeros (const.Zero (ty.Array (length text) (ty.Int W8))) (const.Bytes text)) nonzero

-- what a constant within so many levels is kept as, part by part

abbrev AreKept : Units → ℕ → ℕ → Type 0
AreKept us n k = (type : Ty) (constant : Const) → IsTyWithin n type → IsConstWithin n type constant → IsKeptWithin k constant
    → IsKeptAt us (said_within n) type constant

each_part : (us : Units) (n k : ℕ) → AreKept us n k → (part : Ty) (parts : List Const) → IsTyWithin n part
    → AllByRecursion (IsConstWithin n part) parts → AllByRecursion (IsKeptWithin k) parts
    → AllByRecursion (IsKeptAt us (said_within n) part) parts
each_part us n k again part [] is are kept_are = tt
each_part us n k again part (constant ∷ constants) is are kept_are =
    (again part constant is are.0 kept_are.0, each_part us n k again part constants is are.1 kept_are.1)

each_field : (us : Units) (n k : ℕ) → AreKept us n k → (types : List Ty) (parts : List Const) → AllByRecursion (IsTyWithin n) types
    → AllZip (IsConstWithin n) types parts → AllByRecursion (IsKeptWithin k) parts → AllZip (IsKeptAt us (said_within n)) types parts
each_field us n k again [] [] is are kept_are = tt
each_field us n k again (type ∷ types) (constant ∷ constants) is are kept_are =
    (again type constant is.0 are.0 kept_are.0, each_field us n k again types constants is.1 are.1 kept_are.1)
each_field us n k again _ _ is are kept_are = absurd are

struct_shape : (us : Units) (n k : ℕ) → AreKept us n k → (type : Ty) (constant : Const) (shape : Ty-F Ty) (parts : List Const)
    → out-Ty type ≡ shape → out-Const constant ≡ Const-F.Struct parts → ConstLayer n (IsConstWithin n) type shape (Const-F.Struct parts)
    → KeptLayer (IsKeptWithin k) (Const-F.Struct parts) → kept us (Some type) (struct_said (said_within n) shape parts) ≡ constant
struct_shape us n k again type constant (Ty-F.Struct types) parts shaped opens is kept_is =
    let said = fields_said (said_within n) types parts in
    kept_rolled us (Some type) (const.Struct said) (Const-F.Struct said) (rolls-Fields said)
    ∙ ap (struct_kept (types_of us (map weighed said)))
    (fields_kept us (said_within n) types parts (each_field us n k again types parts is.each_type is.each kept_is.1))
    ∙ struct_again (types_of us (map weighed said)) parts kept_is.0
    ∙ const_rolled constant (const.Struct parts) (Const-F.Struct parts) opens (rolls-Fields parts)
struct_shape us n k again type constant _ parts shaped opens is kept_is = absurd is

layer_again : (us : Units) (n k l : ℕ) → AreKept us n k → (type : Ty) (constant : Const) (layer : Const-F Const Operand)
    → out-Const constant ≡ layer → IsTyWithin l type → ConstLayer n (IsConstWithin n) type (out-Ty type) layer
    → KeptLayer (IsKeptWithin k) layer → kept us (Some type) (layer_said (said_within n) type constant layer) ≡ constant
layer_again us n k l again type constant (Const-F.Int width m) opens type_is is kept_is =
    leaf_kept us (Some type) constant (const.Int width m) (Const-F.Int width m) opens (rolls-Int width m) refl
layer_again us n k l again type constant Const-F.Null opens type_is is kept_is =
    leaf_kept us (Some type) constant const.Null Const-F.Null opens rolls-Null refl
layer_again us n k l again type constant (Const-F.Addr name offset) opens type_is is kept_is =
    address_kept_again us (Some type) name offset (address_told n (IsConstWithin n) type (out-Ty type) name offset is).near
    ∙ const_rolled constant (const.Addr name offset) (Const-F.Addr name offset) opens (rolls-Addr name offset)
layer_again us n k l again type constant (Const-F.Zero own) opens type_is is kept_is =
    kept_rolled us (Some type) (const.Zero type) (Const-F.Zero type) (rolls-Zero type)
    ∙ ap (zero_of (replaced us type)) (ty_head us l type type_is)
    ∙ ap (λ t. layer_zero t (out-Ty type)) (ty_replaced us l type type_is)
    ∙ zero_layer n (IsConstWithin n) type (out-Ty type) own is
    ∙ ap const.Zero (zero_told n (IsConstWithin n) type (out-Ty type) own is)
    ∙ const_rolled constant (const.Zero own) (Const-F.Zero own) opens (rolls-Zero own)
layer_again us n k l again type constant (Const-F.Array part parts) opens type_is is kept_is =
    let told = parts_told n (IsConstWithin n) type (out-Ty type) part parts is in
    let said = map (part_said (said_within n) part) parts in
    kept_rolled us (Some type) (const.Array part said) (Const-F.Array part said) (rolls-Parts part said)
    ∙ ap (array_kept us part) (parts_kept us (said_within n) part parts (each_part us n k again part parts told.type told.each kept_is.2))
    ∙ array_again us n part parts told.type kept_is.0 kept_is.1
    ∙ const_rolled constant (const.Array part parts) (Const-F.Array part parts) opens (rolls-Parts part parts)
layer_again us n k l again type constant (Const-F.Struct parts) opens type_is is kept_is =
    struct_shape us n k again type constant (out-Ty type) parts refl opens is kept_is
layer_again us n k l again type constant (Const-F.Bytes text) opens type_is is kept_is =
    leaf_kept us (Some type) constant (const.Bytes text) (Const-F.Bytes text) opens (rolls-Bytes text) (bytes_again text kept_is)
layer_again us n k l again type constant (Const-F.Number name offset) opens type_is is kept_is =
    leaf_kept us (Some type) constant (const.Number name offset) (Const-F.Number name offset) opens (rolls-Number name offset) refl
layer_again us n k l again type constant (Const-F.Gep own base indices) opens type_is is kept_is =
    absurd (moved_told n _ type (out-Ty type) own base indices is)
layer_again us n k l again type constant (Const-F.Left text) opens type_is is kept_is =
    absurd (left_told n _ type (out-Ty type) text is)
layer_again us n k l again type constant (Const-F.Typed own part) opens type_is is kept_is =
    absurd (typed_told n _ type (out-Ty type) own part is)

within_again : (us : Units) (n k l : ℕ) (type : Ty) (constant : Const) → IsTyWithin l type → IsConstWithin n type constant
    → IsKeptWithin k constant → IsKeptAt us (said_within n) type constant
within_again us zero k l type constant type_is is kept_is = absurd is
within_again us (suc n) zero l type constant type_is is kept_is = absurd kept_is
within_again us (suc n) (suc k) l type constant type_is is kept_is =
    layer_again us n k l (within_again us n k n) type constant (out-Const constant) refl type_is is kept_is

-- a constant at a type without names is kept as it was before it was printed
pub const_kept : (us : Units) (n k : ℕ) (type : Ty) (constant : Const) → IsTy type → IsConstWithin n type constant → IsKeptWithin k constant
    → kept us (Some type) (said_within n type constant) ≡ constant
const_kept us n k type constant type_is is kept_is = within_again us n k levels type constant type_is is kept_is

pub operand_again : (us : Units) (type : Ty) (value : Operand) → IsTy type → IsOperand type value → IsKeptOperand value
    → operand_kept us type (operand_said type value) ≡ value
operand_again us type (operand.Reg name) type_is is kept_is = refl
operand_again us type (operand.Const constant) type_is is kept_is =
    ap operand.Const (const_kept us levels levels type constant type_is is kept_is)

-- the global that a constant names alone
abbrev pub name_in : Const-F Const Operand → Option (List ℕ)
name_in (Const-F.Addr name offset) = cond (nat_eq offset 0) (Some name) None
name_in _ = None

no_callee : (us : Units) (constant : Const) → out-Const constant ≡ Const-F.Null → callee_of us constant ≡ None
no_callee us constant opens =
    let weighs = weighed_rolled constant Const-F.Null (rolls-Null ∙ const_rolled constant const.Null Const-F.Null opens rolls-Null) in
    ap (λ w. cond (nat_eq (w.offset us) 0) w.global None) weighs

layer_callee : (us : Units) (n : ℕ) (P : Parts) (said : Ty → Const → Const) (type : Ty) (constant : Const) (layer : Const-F Const Operand)
    → out-Const constant ≡ layer → ConstLayer n P type Ty-F.Ptr layer → callee_of us (layer_said said type constant layer) ≡ name_in layer
layer_callee us n P said type constant Const-F.Null opens is = no_callee us constant opens
layer_callee us n P said type constant (Const-F.Addr name offset) opens is = callee_of_address us name offset is.near
layer_callee us n P said type constant _ opens is = absurd is

-- a pointer that is read again comes to the address of a global where it is a global's name alone
pub callee_again : (us : Units) (n : ℕ) (constant : Const) → IsConstWithin n ty.Ptr constant
    → callee_of us (said_within n ty.Ptr constant) ≡ name_in (out-Const constant)
callee_again us zero constant is = absurd is
callee_again us (suc n) constant is =
    layer_callee us n (IsConstWithin n) (said_within n) ty.Ptr constant (out-Const constant) refl
    (subst (λ shape. ConstLayer n (IsConstWithin n) ty.Ptr shape (out-Const constant)) outs-Ptr is)
