-- Instructions without flaws.
use Rattle.std.proofs.Common.{◌≡◌, refl, sym, ap, subst, ◌∙◌, arith, ℕ, Bool, true, false, not, ◌||◌, nat_lt, List, length, Some, None, slice_get}
use Rattle.std.specs.Prelude.{IfSome}
use Rattle.std.specs.Prelude.{is_some}
use Rattle.std.proofs.lemmas.List.{length-map}
use Rattle.ltt_base.specs.declared.refusal.Code.TheVariants.{E06}
use Rattle.ltt_base.specs.declared.refusal.Placed.{Placed}
use Rattle.ir_values.specs.declared.types.Width.TheVariants.{W1}
use Rattle.ir_values.specs.declared.types.Ty.{Ty}
use Rattle.ir_values.specs.declared.types.Ty.TheVariants as ty
use Rattle.ir_values.specs.declared.types.Ty.TheVariants.{outs-Struct}
use Rattle.ir_values.specs.declared.instructions.Inst.{Inst}
use Rattle.ir_values.specs.declared.modules.Func.{Func}
use Rattle.ir_values.specs.declared.units.Unit.{Unit as TheUnit}
use Rattle.ir_values.specs.declared.units.BranchText.{BranchText}
use Rattle.ir_values.specs.declared.units.BranchText.TheVariants as branch
use Rattle.ir_values.specs.declared.units.EndText.{EndText}
use Rattle.ir_values.specs.declared.units.EndText.TheVariants as end
use Rattle.ir_values.specs.declared.units.Form.{Form}
use Rattle.ir_values.specs.declared.units.Form.TheVariants as form
use Rattle.type_grammar.specs.Levels.{levels}
use Rattle.check_names.specs.Flaws.{◌then◌, each, when}
use Rattle.check_bodies.specs.declared.standing.Spot.{Spot}
use Rattle.check_bodies.specs.declared.standing.Standing.TheVariants.{Inside}
use Rattle.check_bodies.specs.Numbers.{name_or}
use Rattle.check_bodies.specs.Sorts.{sort_of, is_instruction, written_name}
use Rattle.check_bodies.specs.Standing.{standing, is_named, opened}
use Rattle.check_types.specs.declared.places.Allowed.TheVariants.{NonVoid, Scalar, Integer, Bit}
use Rattle.check_types.specs.Differences.{differ}
use Rattle.check_types.specs.Heads.{head}
use Rattle.check_types.specs.Written.{type_flaw}
use Rattle.check_operands.specs.Registers.{head_at}
use Rattle.check_operands.specs.Operands.{other_flaw, label_flaw, operand_flaw, value_flaw, operand_kept}
use Rattle.check_instructions.specs.Addresses.{indices_of, index_flaw}
use Rattle.check_instructions.specs.Branches.{branch_flaw, returned_flaw, end_flaw}
use Rattle.check_instructions.specs.Cases.{case_flaw, cases_flaw, cases_again}
use Rattle.check_instructions.specs.Instructions.{own_flaw, form_flaw, instruction_flaw}
use Rattle.kept_parts.specs.Arms.{Arm, kept_arms}
use Rattle.check_instructions.specs.Phis.{arm_flaw, torn_flaw}
use Rattle.kept_parts.specs.Widths.{width_of}
use Rattle.check_instructions.specs.Plain.{compared, source_flaw, is_miscast, is_pair_part, extracted_flaw}
use Rattle.check_constants.specs.Indices.{known, indices_flaw}
use Rattle.built_instructions.specs.Branches.{branch_kept, end_kept}
use Rattle.built_instructions.specs.Instructions.{form_kept, instruction_of}
use Rattle.built_instructions.specs.Values.{width_at, number_or}
use Rattle.ir_check.specs.Units.{place_flaw, flaw_at}
use Rattle.printed_units.specs.Written.{IsName, IsInst}
use Rattle.printed_modules.specs.Printed.{IsKeptInst}
use Rattle.sized_modules.proofs.FlawLemmas.{none_first, none_second, unbroken}
use Rattle.sized_modules.proofs.UnitLemmas.{Units}
use Rattle.said_units.specs.Sayable.{IsSaidBranch, IsSaidEnd, IsSaid}
use Rattle.clean_outputs.specs.Shallow.{IsShallowInst}
use Rattle.clean_outputs.proofs.FileLemmas.{IsFile, said_at, clean_at}
use Rattle.clean_outputs.proofs.TypeLemmas.{IsSoundPart, sound_of, sound_written, scalar_at}
use Rattle.clean_outputs.proofs.DifferLemmas.{same_replaced}
use Rattle.clean_outputs.proofs.OperandLemmas.{IsGood, label_named, pointer_good, bit_good, scalar_good, integer_good, test_good}
use Rattle.clean_outputs.proofs.PlaceLemmas.{replaced_unvoid}
use Rattle.clean_outputs.proofs.ResultLemmas.{result_named}
use Rattle.clean_outputs.proofs.OperandPlaces.{second_typed, first_typed, compared_value, extracted_named, cases_good, index_good, arms_good}
use Rattle.clean_outputs.proofs.FunctionsKnown.{KnowsFunctions}
use Rattle.clean_outputs.proofs.IntrinsicCalls.{byte_small}
use Rattle.clean_outputs.proofs.CallLemmas.{call_good}

-- what a call that is no call keeps
abbrev IsGoodInst : List Func → Inst → Type 0
IsGoodInst funcs i = IsInst i × IsKeptInst funcs i

-- an instruction that is good where its types have at most the levels that may be
abbrev IsGoodWhere : List Func → Inst → Type 0
IsGoodWhere funcs i = IsShallowInst i → IsGoodInst funcs i

any_or : (a : Bool) → a || true ≡ true
any_or true = refl
any_or false = refl

some_arms : (us : Units) (type : Ty) (arms : List Arm) → nat_lt 0 (length arms) ≡ true → nat_lt 0 (length (kept_arms us type arms)) ≡ true
some_arms us type arms some = ap (nat_lt 0) (length-map arms (λ arm. (operand_kept us type arm.0, arm.1))) ∙ some

branch_good : (us : Units) → IsFile us → (funcs : List Func) (at : ℕ) (text : BranchText) → IsSaidBranch text → branch_flaw true us at text ≡ None
    → IsGoodInst funcs (branch_kept us text)
branch_good us of funcs at (branch.Br to) said none = (label_named us at to said none, record { operands = tt; calls = tt })
branch_good us of funcs at (branch.CondBr test met unmet) said none =
    let value = operand_flaw true us false at (ty.Int W1) test in
    let one = label_flaw true us at met in
    let other = label_flaw true us at unmet in
    let behind = none_second value (one then other) none in
    let own = bit_good us of at test said.0 (none_first value (one then other) none) in (
      (own.0, label_named us at met said.1 (none_first one other behind), label_named us at unmet said.2 (none_second one other behind)),
      record { operands = (own.1, tt); calls = tt },
    )
branch_good us of funcs at (branch.Switch type value other cases) said none =
    let read = value_flaw true us false at Integer type value in
    let label = label_flaw true us at other in
    let rest = cases_flaw true us at type cases in
    let behind = none_second read (label then rest) none in
    let own = integer_good us of at type value said.0 said.1 (none_first read (label then rest) none) in
    let each_case = none_first (each (case_flaw true us at type) cases) (cases_again us (width_of (head us type)) cases)
    (none_second label rest behind) in (
      (own.0, label_named us at other said.2 (none_first label rest behind), cases_good us of at type (width_at us type) cases said.3 each_case),
      record { operands = (own.1, tt); calls = tt },
    )

end_good : (us : Units) → IsFile us → (funcs : List Func) (at : ℕ) (text : EndText) → IsSaidEnd text → end_flaw true us at text ≡ None
    → IsGoodInst funcs (end_kept us text)
end_good us of funcs at end.RetVoid said none = (refl, record { operands = tt; calls = tt })
end_good us of funcs at end.Unreachable said none = (tt, record { operands = tt; calls = tt })
end_good us of funcs at (end.Ret type value) said none =
    let read = value_flaw true us false at Scalar type value in
    let returned = returned_flaw us (head_at us at) type in
    let own = none_first read returned none in
    let typed = none_first (type_flaw true us false Scalar type) (operand_flaw true us false at type value) own in
    let scalar = scalar_at us of type said.0 typed in
    let part : IsSoundPart us type = record { sound = sound_of us Scalar type refl said.0 typed; unvoid = scalar.1 } in
    let is = scalar_good us of at type value said.0 said.1 own in
    ((replaced_unvoid us of type part, is.0, is.1.0), record { operands = (is.1.1, tt); calls = tt })

-- what a unit in a body becomes, where its result has a name
module _ (us : Units) (of : IsFile us) (funcs : List Func) (known : KnowsFunctions us funcs) (file at next : ℕ) where
  abbrev IsNamed : Form → Type 0
  IsNamed says = is_named says ≡ true → IsName (name_or next (written_name says))

  form_good : (says : Form) → IsSaid says → form_flaw true us at says ≡ None → IsNamed says → IfSome (form_kept true us file next says)
      (IsGoodWhere funcs)
  form_good (form.BinaryForm dst op type a b) said none named = λ shallow.
      let one = integer_good us of at type a said.1 said.2 (first_typed us at Integer type a b none) in
      let other = integer_good us of at type b said.1 said.3 (second_typed us at Integer type a b none) in
      ((named (any_or (is_some dst)), one.0, other.0), record { operands = (one.1, (other.1, tt)); calls = tt })
  form_good (form.CompareForm dst pred type a b) said none named = λ shallow.
      let one = scalar_good us of at type a said.1 said.2 (compared_value us at pred type a (first_typed us at (compared pred) type a b none)) in
      let other = scalar_good us of at type b said.1 said.3 (compared_value us at pred type b (second_typed us at (compared pred) type a b none)) in
      ((named (any_or (is_some dst)), one.0, one.1.0, other.1.0), record { operands = (one.1.1, (other.1.1, tt)); calls = tt })
  form_good (form.SelectForm dst test_type test type a other_type b) said none named = λ shallow.
      let of_test = value_flaw true us false at Bit test_type test in
      let of_a = value_flaw true us false at Scalar type a in
      let of_b = value_flaw true us false at Scalar other_type b in
      let differs = other_flaw us false other_type type in
      let behind = none_second of_test (of_a then (of_b then differs)) none in
      let none_a = none_first of_a (of_b then differs) behind in
      let behind_a = none_second of_a (of_b then differs) behind in
      let none_b = none_first of_b differs behind_a in
      let tested = test_good us of at test_type test said.1.0 said.1.1 (none_first of_test (of_a then (of_b then differs)) none) in
      let one = scalar_good us of at type a said.2.0 said.2.1 none_a in
      let other = scalar_good us of at other_type b said.3.0 said.3.1 none_b in
      let sound = sound_of us Scalar type refl said.2.0
      (none_first (type_flaw true us false Scalar type) (operand_flaw true us false at type a) none_a) in
      let also = sound_of us Scalar other_type refl said.3.0
      (none_first (type_flaw true us false Scalar other_type) (operand_flaw true us false at other_type b) none_b) in
      let same = same_replaced us of other_type type also sound (unbroken (differ us other_type type) E06 (none_second of_b differs behind_a)) in
      let value = subst (λ whole. IsGood whole (operand_kept us other_type b)) same other.1 in
      ((named (any_or (is_some dst)), tested.0, one.0, one.1.0, value.0), record { operands = (tested.1, (one.1.1, (value.1, tt))); calls = tt })
  form_good (form.CastForm dst op from a to) said none named = λ shallow.
      let value = value_flaw true us false at Integer from a in
      let rest = type_flaw true us false Integer to then when (is_miscast op (width_of (head us from)) (width_of (head us to))) E06 in
      let own = integer_good us of at from a said.1 said.2 (none_first value rest none) in
      ((named (any_or (is_some dst)), own.0), record { operands = (own.1, tt); calls = tt })
  form_good (form.AddressForm dst type base index) said none named = λ shallow.
      let typed = type_flaw true us false NonVoid type in
      let value = operand_flaw true us false at ty.Ptr base in
      let each_index = each (index_flaw true us at) index in
      let last = indices_flaw true us false type (indices_of us index) in
      let behind = none_second typed (value then (each_index then last)) none in
      let sound = sound_of us NonVoid type refl said.1 (none_first typed (value then (each_index then last)) none) in
      let own = pointer_good us of at base said.2 (none_first value (each_index then last) behind) in
      let others = index_good us of at index said.3 (none_first each_index last (none_second value (each_index then last) behind)) in (
        (named (any_or (is_some dst)), sound_written us of levels type sound shallow, own.0, others.0),
        record {
          operands =
              (own.1, others.1);
          calls = tt;
        },
      )
  form_good (form.LoadForm dst type addr) said none named = λ shallow.
      let typed = type_flaw true us false Scalar type in
      let value = operand_flaw true us false at ty.Ptr addr in
      let own = pointer_good us of at addr said.2 (none_second typed value none) in (
        (named (any_or (is_some dst)), (scalar_at us of type said.1 (none_first typed value none)).0, own.0),
        record {
          operands =
              (own.1, tt);
          calls = tt;
        },
      )
  form_good (form.StoreForm type value addr) said none named = λ shallow.
      let read = value_flaw true us false at Scalar type value in
      let place = operand_flaw true us false at ty.Ptr addr in
      let one = scalar_good us of at type value said.0 said.1 (none_first read place none) in
      let other = pointer_good us of at addr said.2 (none_second read place none) in
      ((one.0, one.1.0, other.0), record { operands = (one.1.1, (other.1, tt)); calls = tt })
  form_good (form.CallForm dst result whole dots callee args bundle) said none named = λ shallow.
      call_good us of funcs known file at next dst result whole dots callee args bundle said none named
  form_good (form.ExtractForm dst value part) said none named = λ shallow.
      let own = extracted_flaw true us at value in
      let other = when (not (is_pair_part part)) E06 in (
        (named (any_or (is_some dst)), extracted_named us at value said.1 (none_first own other none), byte_small (number_or part)),
        record { operands = tt; calls = tt },
      )
  form_good (form.PhiForm dst type arms) said none named = λ shallow.
      let torn = torn_flaw us type arms in
      let typed = type_flaw true us false Scalar type in
      let each_arm = each (arm_flaw true us at type) arms in
      let behind = none_second torn (typed then each_arm) none in
      let none_typed = none_first typed each_arm behind in
      let own = arms_good us of at type none_typed said.1 arms said.3 (none_second typed each_arm behind) in (
        (
          named (any_or (is_some dst)),
          (scalar_at us of type said.1 none_typed).0,
          some_arms us type arms said.2,
          own.0,
        ),
        record { operands = own.1; calls = tt },
      )
  form_good (form.BranchForm text) said none named = λ shallow. branch_good us of funcs at text said none
  form_good (form.EndForm text) said none named = λ shallow. end_good us of funcs at text said none
  form_good (form.NumberForm dst value) said none named = λ shallow.
      let source = source_flaw true in
      let read = operand_flaw true us false at ty.Ptr value in
      let own = pointer_good us of at value said.1 (none_second source read none) in
      ((named (any_or (is_some dst)), own.0), record { operands = (own.1, tt); calls = tt })
  form_good _ said none named = tt

-- units that become an instruction are instructions
becomes_one : (us : Units) (file next : ℕ) (says : Form) (i : Inst) → form_kept true us file next says ≡ Some i → is_instruction (sort_of says) ≡ true
becomes_one us file next (form.BinaryForm dst op type a b) i is = refl
becomes_one us file next (form.CompareForm dst pred type a b) i is = refl
becomes_one us file next (form.SelectForm dst test_type test type a other_type b) i is = refl
becomes_one us file next (form.CastForm dst op from a to) i is = refl
becomes_one us file next (form.AddressForm dst type base index) i is = refl
becomes_one us file next (form.LoadForm dst type addr) i is = refl
becomes_one us file next (form.StoreForm type value addr) i is = refl
becomes_one us file next (form.CallForm dst result whole dots callee args bundle) i is = refl
becomes_one us file next (form.ExtractForm dst value part) i is = refl
becomes_one us file next (form.PhiForm dst type arms) i is = refl
becomes_one us file next (form.BranchForm text) i is = refl
becomes_one us file next (form.EndForm text) i is = refl
becomes_one us file next (form.NumberForm dst value) i is = refl
becomes_one us file next _ i is = absurd (grind arith)

-- a unit inside has no flaw as an instruction
inside_none : (us : Units) (at : ℕ) (spot : Spot) (says : Form) → flaw_at true us at (Inside spot) says ≡ None
    → instruction_flaw true us spot.head at spot says ≡ None
inside_none us at spot says none =
    none_second (place_flaw us spot.head at spot says) (instruction_flaw true us spot.head at spot says) none

both_none : (us : Units) (at : ℕ) (spot : Spot) (says : Form) → instruction_flaw true us spot.head at spot says ≡ None
    → (own_flaw true at spot says ≡ None) × (form_flaw true us spot.head says ≡ None)
unfolding instruction_flaw
both_none us at spot says none = (
  none_first (own_flaw true at spot says) (form_flaw true us spot.head says) none,
  none_second (own_flaw true at spot says) (form_flaw true us spot.head says) none,
)

-- the instruction that the unit at a place in a body becomes
pub inst_good : (us : Units) → IsFile us → (funcs : List Func) → KnowsFunctions us funcs → (file at : ℕ) (u : Placed TheUnit) (spot : Spot) (i : Inst)
    → slice_get us at ≡ Some u → standing us at ≡ Inside spot → instruction_of true us file at spot u.value.form ≡ Some i → IsShallowInst i
    → IsInst i × IsKeptInst funcs i
unfolding instruction_of
inst_good us of funcs known file at u spot i here stands is shallow =
    let says = u.value.form in
    let said = said_at us of at u here in
    let none = both_none us at spot says
    (inside_none us at spot says (ap (λ place. flaw_at true us at place says) (sym stands) ∙ clean_at us of at u here)) in
    let next = (opened at spot).next in
    let named = result_named at spot says said none.0 (becomes_one us file next says i is) in
    subst (λ o. IfSome o (IsGoodWhere funcs)) is (form_good us of funcs known file spot.head next says said none.1 named) shallow
