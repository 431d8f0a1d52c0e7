-- What instructions without flaws read, at the places where they read it.
use Rattle.std.proofs.Common.{◌≡◌, refl, zero, sym, ap, subst, ◌∙◌, arith, ℕ, suc, ◌^◌, ◌<◌, Bool, true, false, not, cond, nat_eq, List, [], ◌∷◌, map, Some, None, is_none}
use Rattle.std.specs.List.{AllByRecursion}
use Rattle.std.proofs.lemmas.Bool.Decides.{nat_tests}
use Rattle.ltt_base.specs.declared.refusal.Code.TheVariants.{E06, E07}
use Rattle.ir_values.specs.declared.types.Width.{Width}
use Rattle.ir_values.specs.declared.types.Width.TheVariants.{W1, W8, W16, W32, W64}
use Rattle.ir_values.specs.declared.types.Ty.{Ty, out-Ty}
use Rattle.ir_values.specs.declared.types.Ty.TheVariants as ty
use Rattle.ir_values.specs.declared.types.Ty.TheVariants.{outs-Struct}
use Rattle.ir_values.specs.declared.types.Ty.TheOpen.{Ty-F}
use Rattle.ir_values.specs.declared.constants.Const.{Const, out-Const, roll-Const, roll-out-Const}
use Rattle.ir_values.specs.declared.constants.Const.TheOpen.{Const-F}
use Rattle.ir_values.specs.declared.constants.Operand.{Operand}
use Rattle.ir_values.specs.declared.constants.Operand.TheVariants as operand
use Rattle.ir_values.specs.declared.instructions.Pred.{Pred}
use Rattle.ir_numbers.specs.Numbers.{bits}
use Rattle.type_grammar.specs.Levels.{levels}
use Rattle.check_names.specs.Flaws.{◌then◌, each, when, worded_when}
use Rattle.check_types.specs.declared.places.Allowed.{Allowed}
use Rattle.check_types.specs.declared.places.Allowed.TheVariants.{NonVoid, Scalar, Integer}
use Rattle.check_types.specs.Heads.{type_head, named_head}
use Rattle.check_types.specs.Replaced.{replaced}
use Rattle.check_types.specs.Written.{type_flaw}
use Rattle.check_operands.specs.Made.{pair}
use Rattle.check_operands.specs.Operands.{other_flaw, label_flaw, operand_flaw, value_flaw}
use Rattle.check_instructions.specs.Addresses.{index_flaw}
use Rattle.kept_parts.specs.CaseNumbers.{Case, case_kept, number_of}
use Rattle.check_instructions.specs.Cases.{case_flaw, is_valued}
use Rattle.kept_parts.specs.Arms.{Arm, kept_arms}
use Rattle.check_instructions.specs.Phis.{arm_flaw}
use Rattle.check_instructions.specs.Plain.{both_flaw, compared, is_left, extracted_flaw}
use Rattle.check_constants.specs.Addresses.{number_at}
use Rattle.check_constants.specs.Indices.{known}
use Rattle.check_constants.specs.Numbers.{is_number}
use Rattle.check_constants.specs.Rules.{left_constant_word, left_constant_flaw}
use Rattle.check_constants.specs.Judged.{constant_flaw}
use Rattle.built_instructions.specs.Branches.{goal_of, goals_of}
use Rattle.built_instructions.specs.Plain.{index_kept, register_in}
use Rattle.built_instructions.specs.Values.{width_at, number_or}
use Rattle.printed_units.specs.Written.{IsName, IsIndex, IsArm, IsCase, IsConstWithin, ConstLayer}
use Rattle.printed_modules.specs.Printed.{IsKeptOperand}
use Rattle.printed_modules.proofs.WeighedLemmas.{weighed_rolled}
use Rattle.sized_modules.proofs.FlawLemmas.{none_first, none_second, unbroken, holds}
use Rattle.sized_modules.proofs.UnitLemmas.{Units}
use Rattle.said_units.specs.Sayable.{IsSaidTy, IsSaidOperand, IsSaidValue, IsSaidArm, IsSaidCase}
use Rattle.clean_outputs.proofs.FileLemmas.{IsFile}
use Rattle.clean_outputs.proofs.OperandLemmas.{label_named, register_named, scalar_good, integer_good}
use Rattle.clean_outputs.proofs.PlaceLemmas.{then_none, integer_scalar}

-- an operand of an integer type behind another of the same type
pub second_typed : (us : Units) (at : ℕ) (allowed : Allowed) (type : Ty) (a b : Operand) → both_flaw true us at allowed type a b ≡ None
    → value_flaw true us false at allowed type b ≡ None
second_typed us at allowed type a b none =
    let first = value_flaw true us false at allowed type a in
    let second = operand_flaw true us false at type b in
    then_none (type_flaw true us false allowed type) second
    (none_first (type_flaw true us false allowed type) (operand_flaw true us false at type a) (none_first first second none))
    (none_second first second none)

pub first_typed : (us : Units) (at : ℕ) (allowed : Allowed) (type : Ty) (a b : Operand) → both_flaw true us at allowed type a b ≡ None
    → value_flaw true us false at allowed type a ≡ None
first_typed us at allowed type a b none =
    none_first (value_flaw true us false at allowed type a) (operand_flaw true us false at type b) none

-- an integer operand as one of an integer or a pointer
scalar_value : (us : Units) (at : ℕ) (type : Ty) (a : Operand) → value_flaw true us false at Integer type a ≡ None
    → value_flaw true us false at Scalar type a ≡ None
scalar_value us at type a none =
    let typed = type_flaw true us false Integer type in
    let value = operand_flaw true us false at type a in
    then_none (type_flaw true us false Scalar type) value (integer_scalar us type (none_first typed value none)) (none_second typed value none)

pub compared_value : (us : Units) (at : ℕ) (pred : Pred) (type : Ty) (a : Operand) → value_flaw true us false at (compared pred) type a ≡ None
    → value_flaw true us false at Scalar type a ≡ None
compared_value us at Pred.Eq type a none = none
compared_value us at Pred.Ne type a none = none
compared_value us at _ type a none = scalar_value us at type a none

-- a part of what a checked load gives is one of a register

left_struct : (us : Units) (text : List ℕ) (types : List Ty) (type : Ty) → out-Ty type ≡ Ty-F.Struct types → left_constant_flaw
    (Some type) text ≡ None → ⊥
left_struct us text types type is none =
    choose (number_at_struct type is) (is_number text) none where
      number_at_struct : (type : Ty) → out-Ty type ≡ Ty-F.Struct types → is_none (number_at (out-Ty type) text) ≡ true
      number_at_struct type is = ap (λ layer. is_none (number_at layer text)) is

      choose : is_none (number_at (out-Ty type) text) ≡ true → (number : Bool)
          → cond number (when (is_none (number_at (out-Ty type) text)) E06) (worded_when true E07 (left_constant_word text)) ≡ None → ⊥
      choose none_at true broken = absurd (grind (arith, none_at, broken))
      choose none_at false broken = absurd (grind (arith, broken))

left_pair : (us : Units) (constant : Const) (text : List ℕ) → out-Const constant ≡ Const-F.Left text → constant_flaw true us false
    (Some pair) constant ≡ None → ⊥
left_pair us constant text is none =
    let rolls : roll-Const (Const-F.Left text) ≡ constant = ap roll-Const (sym is) ∙ roll-out-Const constant in
    let weighs = weighed_rolled constant (Const-F.Left text) rolls in
    let known_pair : known us (Some pair) ≡ Some pair = ap (type_head (named_head us) pair) (outs-Struct (ty.Ptr ∷ ty.Int W1 ∷ [])) in
    left_struct us text (ty.Ptr ∷ ty.Int W1 ∷ []) pair (outs-Struct (ty.Ptr ∷ ty.Int W1 ∷ []))
    (sym (ap (λ type. left_constant_flaw type text) known_pair) ∙ sym (ap (λ w. w.flaw true us false NonVoid (Some pair)) weighs) ∙ none)

unextracted : (us : Units) (constant : Const) (layer : Const-F Const Operand) → out-Const constant ≡ layer → is_left true layer ≡ true
    → constant_flaw true us false (Some pair) constant ≡ None → ⊥
unextracted us constant (Const-F.Left text) is left none = left_pair us constant text is none
unextracted us constant _ is left none = absurd (cc left)

pub extracted_named : (us : Units) (at : ℕ) (value : Operand) → IsSaidOperand ty.Pair value → extracted_flaw true us at value ≡ None → IsName
    (register_in value)
extracted_named us at (operand.Reg name) said none = register_named us at pair name said none
extracted_named us at (operand.Const constant) said none =
    let own = constant_flaw true us false (Some pair) constant in
    let other = when (not (is_left true (out-Const constant))) E06 in
    absurd (unextracted us constant (out-Const constant) refl
    (holds (is_left true (out-Const constant)) (unbroken (not (is_left true (out-Const constant))) E06 (none_second own other none)))
    (none_first own other none))

-- cases

zero_small : (width : Width) → 0 < 2 ^ bits width
zero_small W1 = omega arith
zero_small W8 = omega arith
zero_small W16 = omega arith
zero_small W32 = omega arith
zero_small W64 = omega arith

number_small : (width other : Width) (n : ℕ) → n < 2 ^ bits other → number_or (cond (nat_eq (bits other) (bits width)) (Some n) None) < 2 ^ bits width
number_small width other n small = choose (nat_eq (bits other) (bits width)) refl where
  choose : (same : Bool) → nat_eq (bits other) (bits width) ≡ same → number_or (cond same (Some n) None) < 2 ^ bits width
  choose true is = let equal : bits other ≡ bits width = grind (arith, nat_tests, is) in subst (λ k. n < 2 ^ k) equal small
  choose false is = zero_small width

int_small : (n : ℕ) (P : Ty → Const → Type 0) (type : Ty) (layer : Ty-F Ty) (width : Width) (value : ℕ) → ConstLayer n P type layer
    (Const-F.Int width value)
    → value < 2 ^ bits width
int_small n P type (Ty-F.Int own) width value is = is.1
int_small n P type Ty-F.Void width value is = absurd is
int_small n P type Ty-F.Ptr width value is = absurd is
int_small n P type Ty-F.Pair width value is = absurd is
int_small n P type (Ty-F.Array count part) width value is = absurd is
int_small n P type (Ty-F.Struct parts) width value is = absurd is
int_small n P type (Ty-F.Named name) width value is = absurd is
int_small n P type (Ty-F.Left text) width value is = absurd is

layer_small : (width : Width) (n : ℕ) (P : Ty → Const → Type 0) (type : Ty) (layer : Const-F Const Operand) → ConstLayer n P type (out-Ty type) layer
    → number_or (number_of width layer) < 2 ^ bits width
layer_small width n P type (Const-F.Int other value) is = number_small width other value (int_small n P type (out-Ty type) other value is)
layer_small width n P type _ is = zero_small width

case_small : (width : Width) (n : ℕ) (type : Ty) (constant : Const) → IsConstWithin n type constant → number_or
    (number_of width (out-Const constant)) < 2 ^ bits width
case_small width zero type constant is = absurd is
case_small width (suc n) type constant is = layer_small width n (IsConstWithin n) type (out-Const constant) is

case_good : (us : Units) → IsFile us → (at : ℕ) (type : Ty) (width : Width) (case : Case) → IsSaidCase case → case_flaw true us at type case ≡ None
    → IsCase width (goal_of us width case)
case_good us of at type width case said none =
    let typed = type_flaw true us false Integer case.0 in
    let differs = other_flaw us false case.0 type in
    let value = constant_flaw true us false (Some case.0) case.1 in
    let valued = when (not (is_valued true us case)) E06 in
    let label = label_flaw true us at case.2 in
    let behind = none_second typed (differs then (value then (valued then label))) none in
    let of_value = none_second differs (value then (valued then label)) behind in
    let own = integer_good us of at case.0 (operand.Const case.1) said.0 said.1
    (then_none typed value (none_first typed (differs then (value then (valued then label))) none)
    (none_first value (valued then label) of_value)) in (
      case_small width levels (ty.Int (width_at us case.0)) (case_kept us case) own.0,
      label_named us at case.2 said.2 (none_second valued label (none_second value (valued then label) of_value)),
    )

pub cases_good : (us : Units) → IsFile us → (at : ℕ) (type : Ty) (width : Width) (cases : List Case) → AllByRecursion IsSaidCase cases
    → each (case_flaw true us at type) cases ≡ None → AllByRecursion (IsCase width) (goals_of us width cases)
cases_good us of at type width [] said none = tt
cases_good us of at type width (case ∷ cases) said none =
    let flaw = case_flaw true us at type in (
      case_good us of at type width case said.0 (none_first (flaw case) (each flaw cases) none),
      cases_good us of at type width cases said.1 (none_second (flaw case) (each flaw cases) none),
    )

-- indices and arms

pub index_good : (us : Units) → IsFile us → (at : ℕ) (index : List (Ty × Operand)) → AllByRecursion IsSaidValue index → each
    (index_flaw true us at) index ≡ None
    → AllByRecursion IsIndex (map (index_kept us) index) × AllByRecursion IsKeptOperand (map (λ one. one.1) (map (index_kept us) index))
index_good us of at [] said none = (tt, tt)
index_good us of at (one ∷ index) said none =
    let flaw = index_flaw true us at in
    let own = integer_good us of at one.0 one.1 said.0.0 said.0.1 (none_first (flaw one) (each flaw index) none) in
    let others = index_good us of at index said.1 (none_second (flaw one) (each flaw index) none) in
    ((own.0, others.0), (own.1, others.1))

pub arms_good : (us : Units) → IsFile us → (at : ℕ) (type : Ty) → type_flaw true us false Scalar type ≡ None → IsSaidTy type → (arms : List Arm)
    → AllByRecursion (IsSaidArm type) arms → each (arm_flaw true us at type) arms ≡ None
    → AllByRecursion (IsArm (replaced us type)) (kept_arms us type arms) × AllByRecursion IsKeptOperand (map (λ arm. arm.0) (kept_arms us type arms))
arms_good us of at type typed said_type [] said none = (tt, tt)
arms_good us of at type typed said_type (arm ∷ arms) said none =
    let flaw = arm_flaw true us at type in
    let one = none_first (flaw arm) (each flaw arms) none in
    let value = operand_flaw true us false at type arm.0 in
    let label = label_flaw true us at arm.1 in
    let own = scalar_good us of at type arm.0 said_type said.0.0
    (then_none (type_flaw true us false Scalar type) value typed (none_first value label one)) in
    let others = arms_good us of at type typed said_type arms said.1 (none_second (flaw arm) (each flaw arms) none) in
    (((own.1.0, label_named us at arm.1 said.0.1 (none_second value label one)), others.0), (own.1.1, others.1))
