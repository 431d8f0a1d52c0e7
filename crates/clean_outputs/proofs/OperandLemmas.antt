-- Operands without flaws.
use Rattle.std.proofs.Common.{◌≡◌, refl, sym, subst, ℕ, true, false, List, Option, Some, None, codes}
use Rattle.ir_values.specs.declared.types.Width.TheVariants.{W1}
use Rattle.ir_values.specs.declared.types.Ty.{Ty, out-Ty}
use Rattle.ir_values.specs.declared.types.Ty.TheOpen.{Ty-F}
use Rattle.ir_values.specs.declared.types.Ty.TheVariants as ty
use Rattle.ir_values.specs.declared.constants.Operand.{Operand}
use Rattle.ir_values.specs.declared.constants.Operand.TheVariants as operand
use Rattle.type_grammar.specs.Levels.{levels}
use Rattle.check_names.specs.Reserved.{reserved_flaw}
use Rattle.check_bodies.specs.declared.names.Asked.{Asked}
use Rattle.check_bodies.specs.declared.names.Asked.TheVariants.{Labels, Values}
use Rattle.check_bodies.specs.Bodies.{missing_flaw}
use Rattle.check_types.specs.declared.places.Allowed.{Allowed}
use Rattle.check_types.specs.Heads.{head}
use Rattle.check_types.specs.Written.{type_flaw, is_allowed, is_integer, is_bit, is_void, is_void_head}
use Rattle.check_types.specs.declared.places.Allowed.TheVariants.{Scalar, Integer, Bit}
use Rattle.check_types.specs.Replaced.{replaced}
use Rattle.check_operands.specs.Operands.{known_flaw, local_flaw, label_flaw, register_flaw, operand_flaw, value_flaw, operand_kept}
use Rattle.check_operands.specs.Registers.{register_type}
use Rattle.built_instructions.specs.Values.{width_at}
use Rattle.printed_units.specs.Written.{IsBytes, IsName, IsTy, IsOperand}
use Rattle.printed_modules.specs.Printed.{IsKeptOperand}
use Rattle.printed_units.proofs.WrittenLemmas.{int_is_ty, ptr_is_ty}
use Rattle.printed_modules.proofs.TypeKept.{ty_replaced}
use Rattle.sized_modules.proofs.FlawLemmas.{none_first, none_second}
use Rattle.sized_modules.proofs.UnitLemmas.{Units}
use Rattle.said_units.specs.Sayable.{IsSaidTy, IsSaidOperand}
use Rattle.clean_outputs.proofs.FileLemmas.{IsFile}
use Rattle.clean_outputs.proofs.NameLemmas.{free_name}
use Rattle.clean_outputs.proofs.TypeLemmas.{IsSoundPart, sound_of, allowed_at, integer_at, bit_at, scalar_at, pointer_sound, bit_sound}
use Rattle.clean_outputs.proofs.ConstLemmas.{const_good}

abbrev pub IsGood : Ty → Operand → Type 0
IsGood type value = IsOperand type value × IsKeptOperand value

-- a name of a label or of a value
local_named : (us : Units) (at : ℕ) (asked : Asked) (name : List ℕ) → IsBytes name → local_flaw true us at asked name ≡ None → IsName name
local_named us at asked name bytes none =
    free_name (codes "%") name bytes (none_second (missing_flaw us at asked name) (reserved_flaw true (codes "%") name) none)

pub label_named : (us : Units) (at : ℕ) (name : List ℕ) → IsBytes name → label_flaw true us at name ≡ None → IsName name
label_named us at name bytes none = local_named us at Labels name bytes none

pub register_named : (us : Units) (at : ℕ) (type : Ty) (name : List ℕ) → IsBytes name → register_flaw true us false at type name ≡ None
    → IsName name
register_named us at type name bytes none =
    local_named us at Values name bytes
    (none_first (local_flaw true us at Values name) (known_flaw us false (register_type us at name) type) none)

pub operand_good : (us : Units) → IsFile us → (at : ℕ) (type : Ty) (value : Operand) → IsSoundPart us type → IsTy (replaced us type)
    → IsSaidOperand type value → operand_flaw true us false at type value ≡ None → IsGood (replaced us type) (operand_kept us type value)
operand_good us of at type (operand.Reg name) sound written said none = (register_named us at type name said none, tt)
operand_good us of at type (operand.Const constant) sound written said none = const_good us of levels type constant sound written said none

-- operands at types that are known, and behind written ones

known_good : (us : Units) → IsFile us → (at : ℕ) (type : Ty) (value : Operand) → IsSoundPart us type → IsTy type
    → IsSaidOperand type value → operand_flaw true us false at type value ≡ None → IsGood type (operand_kept us type value)
known_good us of at type value sound written said none =
    let same = ty_replaced us levels type written in
    subst (λ whole. IsGood whole (operand_kept us type value)) same
    (operand_good us of at type value sound (subst IsTy (sym same) written) said none)

pub pointer_good : (us : Units) → IsFile us → (at : ℕ) (value : Operand) → IsSaidOperand ty.Ptr value
    → operand_flaw true us false at ty.Ptr value ≡ None → IsGood ty.Ptr (operand_kept us ty.Ptr value)
pointer_good us of at value said none = known_good us of at ty.Ptr value (pointer_sound us) ptr_is_ty said none

pub bit_good : (us : Units) → IsFile us → (at : ℕ) (value : Operand) → IsSaidOperand (ty.Int W1) value
    → operand_flaw true us false at (ty.Int W1) value ≡ None → IsGood (ty.Int W1) (operand_kept us (ty.Int W1) value)
bit_good us of at value said none = known_good us of at (ty.Int W1) value (bit_sound us) (int_is_ty W1) said none

-- integers aren't `void`

layer_unvoid : (layer : Ty-F Ty) → is_integer layer ≡ true → is_void layer ≡ false
layer_unvoid Ty-F.Void is = absurd (cc is)
layer_unvoid _ is = refl

layer_bit : (layer : Ty-F Ty) → is_bit layer ≡ true → is_void layer ≡ false
layer_bit Ty-F.Void is = absurd (cc is)
layer_bit _ is = refl

integer_unvoid : (known : Option Ty) → is_allowed Integer known ≡ true → is_void_head known ≡ false
integer_unvoid None is = refl
integer_unvoid (Some type) is = layer_unvoid (out-Ty type) is

bit_unvoid : (known : Option Ty) → is_allowed Bit known ≡ true → is_void_head known ≡ false
bit_unvoid None is = refl
bit_unvoid (Some type) is = layer_bit (out-Ty type) is

-- the type that is written before an operand

module _ (us : Units) (at : ℕ) (allowed : Allowed) (type : Ty) (value : Operand) (none : value_flaw true us false at allowed type value ≡ None) where
  typed_none : type_flaw true us false allowed type ≡ None
  typed_none = none_first (type_flaw true us false allowed type) (operand_flaw true us false at type value) none

  value_none : operand_flaw true us false at type value ≡ None
  value_none = none_second (type_flaw true us false allowed type) (operand_flaw true us false at type value) none

pub scalar_good : (us : Units) → IsFile us → (at : ℕ) (type : Ty) (value : Operand) → IsSaidTy type → IsSaidOperand type value
    → value_flaw true us false at Scalar type value ≡ None → IsTy (replaced us type) × IsGood (replaced us type) (operand_kept us type value)
scalar_good us of at type value said_type said none =
    let typed = typed_none us at Scalar type value none in
    let scalar = scalar_at us of type said_type typed in
    let part : IsSoundPart us type = record { sound = sound_of us Scalar type refl said_type typed; unvoid = scalar.1 } in
    (scalar.0, operand_good us of at type value part scalar.0 said (value_none us at Scalar type value none))

pub integer_good : (us : Units) → IsFile us → (at : ℕ) (type : Ty) (value : Operand) → IsSaidTy type → IsSaidOperand type value
    → value_flaw true us false at Integer type value ≡ None → IsGood (ty.Int (width_at us type)) (operand_kept us type value)
integer_good us of at type value said_type said none =
    let typed = typed_none us at Integer type value none in
    let is = integer_at us of type said_type typed in
    let part : IsSoundPart us type = record {
      sound = sound_of us Integer type refl said_type typed;
      unvoid = integer_unvoid (head us type)
          (allowed_at us Integer type refl typed);
    } in
    subst (λ whole. IsGood whole (operand_kept us type value)) is
    (operand_good us of at type value part (subst IsTy (sym is) (int_is_ty (width_at us type))) said (value_none us at Integer type value none))

pub test_good : (us : Units) → IsFile us → (at : ℕ) (type : Ty) (value : Operand) → IsSaidTy type → IsSaidOperand type value
    → value_flaw true us false at Bit type value ≡ None → IsGood (ty.Int W1) (operand_kept us type value)
test_good us of at type value said_type said none =
    let typed = typed_none us at Bit type value none in
    let is = bit_at us of type said_type typed in
    let part : IsSoundPart us type = record {
      sound = sound_of us Bit type refl said_type typed;
      unvoid = bit_unvoid (head us type)
          (allowed_at us Bit type refl typed);
    } in
    subst (λ whole. IsGood whole (operand_kept us type value)) is
    (operand_good us of at type value part (subst IsTy (sym is) (int_is_ty W1)) said (value_none us at Bit type value none))
