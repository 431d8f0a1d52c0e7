-- What is known of a call without a flaw in an output.
use Rattle.std.proofs.Common.{◌≡◌, refl, subst, ℕ, Bool, true, false, ◌&&◌, ◌||◌, cond, List, Option, Some, None, codes}
use Rattle.std.specs.Prelude.{is_none}
use Rattle.std.specs.Str.{bytes_eq}
use Rattle.ltt_base.specs.declared.refusal.Code.TheVariants.{E06, E07}
use Rattle.ir_values.specs.declared.types.Ty.{Ty}
use Rattle.ir_values.specs.declared.types.Ty.TheVariants.{Ptr}
use Rattle.ir_values.specs.declared.constants.Operand.{Operand}
use Rattle.ir_values.specs.declared.units.Head.{Head}
use Rattle.ir_values.specs.declared.units.Arg.{Arg}
use Rattle.check_names.specs.Flaws.{◌then◌, worded_when}
use Rattle.ir_names.specs.Words.{named_word}
use Rattle.check_types.specs.declared.places.Allowed.TheVariants.{Returned}
use Rattle.check_types.specs.Written.{type_flaw}
use Rattle.check_constants.specs.declared.intrinsics.Intrinsic.{Intrinsic}
use Rattle.check_constants.specs.declared.intrinsics.Intrinsic.TheVariants.{Test, CheckedLoad, Assume, Trap, CodedTrap, Rotate}
use Rattle.check_constants.specs.Intrinsics.{intrinsic_of, is_declared_intrinsic}
use Rattle.kept_parts.specs.Called.{called, called_intrinsic}
use Rattle.check_calls.specs.Callees.{is_left_call, callee_flaw}
use Rattle.check_calls.specs.Arguments.{arguments_from}
use Rattle.check_calls.specs.Calls.{results, whole_flaw, written_flaw, rotation_flaw, is_named_void, fit_flaw, bundle_flaw, parts_flaw, call_of, call_to, call_flaw}
use Rattle.check_calls.specs.Fitting.{is_misfit, is_mistyped}
use Rattle.check_operands.specs.Operands.{operand_flaw}
use Rattle.sized_modules.proofs.FlawLemmas.{none_first, none_second, unbroken, unbroken_word, neither_first, neither_second}
use Rattle.sized_modules.proofs.UnitLemmas.{Units}

-- the intrinsics of an output

abbrev pub IsOutputs : Option Intrinsic → Type 0
IsOutputs (Some Test) = ⊥
IsOutputs (Some CheckedLoad) = ⊥
IsOutputs (Some Assume) = ⊥
IsOutputs _ = Unit {0}

choices : (trap coded rotate : Bool) → IsOutputs (cond trap (Some Trap) (cond coded (Some CodedTrap) (cond rotate (Some Rotate) None)))
choices true coded rotate = tt
choices false true rotate = tt
choices false false true = tt
choices false false false = tt

outputs_or_none : (any : Bool) (intrinsic : Option Intrinsic) → IsOutputs intrinsic → IsOutputs (cond any intrinsic None)
outputs_or_none true intrinsic is = is
outputs_or_none false intrinsic is = tt

pub called_outputs : (us : Units) (function : Option Head) → IsOutputs (called_intrinsic true us function)
called_outputs us None = tt
called_outputs us (Some function) =
    outputs_or_none (is_declared_intrinsic us function.name) (intrinsic_of true function.name)
    (choices (bytes_eq function.name (codes "llvm.trap")) (bytes_eq function.name (codes "llvm.ubsantrap"))
    (bytes_eq function.name (codes "llvm.fshr.i64")))

outputs_return : (intrinsic : Option Intrinsic) → IsOutputs intrinsic → results intrinsic ≡ Returned
outputs_return (Some CheckedLoad) is = absurd is
outputs_return _ is = refl

-- the parts of a call that has no flaw
pub record IsFlawless (us : Units) (at : ℕ) (function : Option Head) (intrinsic : Option Intrinsic) (result : Ty) (whole : Option (List Ty))
    (dots : Bool) (callee : Operand) (args : List Arg) : Type 0 where
  pub returned : type_flaw true us false Returned result ≡ None
  pub types : whole_flaw true us false whole ≡ None
  pub dotless : dots ≡ false
  pub direct : is_left_call true us function ≡ false
  pub calls : callee_flaw true us at function callee ≡ None
  pub arguments : arguments_from true us false at intrinsic 0 args ≡ None
  pub fits : is_misfit us function result whole dots args ≡ false
  pub typed : is_mistyped us dots whole args ≡ false

module _ (us : Units) (at : ℕ) (function : Option Head) (intrinsic : Option Intrinsic) (dst : Option (List ℕ)) (result : Ty)
    (whole : Option (List Ty)) (dots : Bool) (callee : Operand) (args : List Arg) (bundle : Bool) where
  -- the callee of a call without a flaw has none
  callee_clean : (quiet : Bool) → call_of true us at quiet function intrinsic dst result whole dots callee args bundle ≡ None
      → callee_flaw true us at function callee ≡ None
  unfolding call_of parts_flaw
  callee_clean quiet none =
      let written = written_flaw true us quiet intrinsic result whole dots in
      let calls = callee_flaw true us at function callee in
      let given = arguments_from true us quiet at intrinsic 0 args then rotation_flaw us intrinsic args in
      let rest = bundle_flaw bundle then fit_flaw us quiet function dst result whole dots args in
      none_first calls given (none_first (calls then given) rest (none_second written ((calls then given) then rest) none))

  unquiet_flawless : IsOutputs intrinsic → is_left_call true us function ≡ false
      → call_of true us at false function intrinsic dst result whole dots callee args bundle ≡ None
      → IsFlawless us at function intrinsic result whole dots callee args
  unfolding call_of written_flaw parts_flaw fit_flaw
  unquiet_flawless outputs direct none =
      let own = type_flaw true us false (results intrinsic) result in
      let types = whole_flaw true us false whole in
      let dotted = worded_when dots E07 (codes "...") in
      let written = own then (types then dotted) in
      let calls = callee_flaw true us at function callee in
      let given = arguments_from true us false at intrinsic 0 args in
      let rotates = rotation_flaw us intrinsic args in
      let parts = calls then (given then rotates) in
      let bundled = bundle_flaw bundle in
      let misfit = is_misfit us function result whole dots args in
      let mistyped = is_mistyped us dots whole args in
      let fit = fit_flaw us false function dst result whole dots args in
      let of_written : written ≡ None = none_first written (parts then (bundled then fit)) none in
      let of_types : types then dotted ≡ None = none_second own (types then dotted) of_written in
      let of_rest : parts then (bundled then fit) ≡ None = none_second written (parts then (bundled then fit)) none in
      let of_parts : parts ≡ None = none_first parts (bundled then fit) of_rest in
      let of_fit : fit ≡ None = none_second bundled fit (none_second parts (bundled then fit) of_rest) in
      let unfit = unbroken (is_named_void us dst result || (misfit || mistyped)) E06 of_fit in
      let neither = neither_second (is_named_void us dst result) (misfit || mistyped) unfit in
      record {
        returned = subst (λ allowed. type_flaw true us false allowed result ≡ None) (outputs_return intrinsic outputs)
            (none_first own (types then dotted) of_written);
        types = none_first types dotted of_types;
        dotless = unbroken_word dots E07 (codes "...") (none_second types dotted of_types);
        direct = direct;
        calls = none_first calls (given then rotates) of_parts;
        arguments = none_first given rotates (none_second calls (given then rotates) of_parts);
        fits = neither_first misfit mistyped neither;
        typed = neither_second misfit mistyped neither;
      }

-- it calls no intrinsic that is left out
unquiet : (us : Units) (at : ℕ) (function : Option Head) (callee : Operand) → callee_flaw true us at function callee ≡ None
    → is_left_call true us function ≡ false
unquiet us at None callee none = refl
unquiet us at (Some function) callee none =
    either (is_declared_intrinsic us function.name) (intrinsic_of true function.name) none where
      either : (any : Bool) (intrinsic : Option Intrinsic)
          → cond any (worded_when (any && is_none intrinsic) E07 (named_word (codes "@") function.name))
          (operand_flaw true us false at Ptr callee) ≡ None → any && is_none intrinsic ≡ false
      either true intrinsic none = unbroken_word (is_none intrinsic) E07 (named_word (codes "@") function.name) none
      either false intrinsic none = refl

pub flawless : (us : Units) (at : ℕ) (dst : Option (List ℕ)) (result : Ty) (whole : Option (List Ty)) (dots : Bool) (callee : Operand)
    (args : List Arg) (bundle : Bool) → call_flaw true us at dst result whole dots callee args bundle ≡ None
    → IsFlawless us at (called us callee) (called_intrinsic true us (called us callee)) result whole dots callee args
unfolding call_flaw call_to
flawless us at dst result whole dots callee args bundle none =
    let function = called us callee in
    let intrinsic = called_intrinsic true us function in
    let calls = callee_clean us at function intrinsic dst result whole dots callee args bundle (is_left_call true us function) none in
    let direct = unquiet us at function callee calls in
    unquiet_flawless us at function intrinsic dst result whole dots callee args bundle (called_outputs us function) direct
    (subst (λ quiet. call_of true us at quiet function intrinsic dst result whole dots callee args bundle ≡ None) direct none)
