-- Some text is an output without flaws.
use Rattle.std.proofs.Common.{◌≡◌, refl, sym, ap, subst, ◌∙◌, ℕ, zero, suc, true, false, List, [], ◌∷◌, codes, map, take, Some, None, arith}
use Rattle.std.specs.Fmt.{digits}
use Rattle.ltt_base.specs.declared.refusal.Place.{Place}
use Rattle.ltt_base.specs.declared.refusal.Placed.{Placed}
use Rattle.ir_values.specs.declared.types.Width.TheVariants.{W64}
use Rattle.ir_values.specs.declared.types.Ty.{Ty, fold_out-Ty}
use Rattle.ir_values.specs.declared.types.Ty.TheVariants as ty
use Rattle.ir_values.specs.declared.constants.Const.{Const, fold_out-Const}
use Rattle.ir_values.specs.declared.constants.Const.TheVariants as const
use Rattle.ir_values.specs.declared.constants.Const.TheOpen.{Const-F}
use Rattle.ir_values.specs.declared.units.Unit.{Unit as TheUnit}
use Rattle.ir_values.specs.declared.units.Form.{Form}
use Rattle.ir_values.specs.declared.units.Form.TheVariants.{VariableForm}
use Rattle.type_grammar.specs.Levels.{levels}
use Rattle.ir_print.specs.ModuleText.{module_text}
use Rattle.ir_names.specs.Names.{is_name_start, is_name_byte, is_bare, is_decimal, is_digit, name_text}
use Rattle.ir_names.specs.Numbers.{integer_text}
use Rattle.ir_print.specs.Types.{ty_step}
use Rattle.ir_print.specs.Constants.{Printed, const_step, operand_step}
use Rattle.ir_print.specs.Items.{content_text, var_pieces}
use Rattle.ir_text.specs.Answers.{IsRead}
use Rattle.check_types.specs.declared.places.Allowed.TheVariants.{NonVoid}
use Rattle.check_types.specs.Measures.{measure, single, past_flaw}
use Rattle.check_types.specs.Replaced.{replaced}
use Rattle.check_types.specs.Written.{Written, written_step, written, place_flaw, type_flaw}
use Rattle.check_names.specs.Reserved.{definition_flaw, intrinsic_flaw}
use Rattle.check_names.specs.declared.spaces.Space.TheVariants.{Globals}
use Rattle.check_constants.specs.Judged.{constant_flaw}
use Rattle.check_bodies.specs.Standing.{standing, behind}
use Rattle.check_items.specs.Attached.{attached_flaw}
use Rattle.check_items.specs.Counts.{counts_before, most_entries, variables_flaw, carriers_flaw}
use Rattle.check_items.specs.Identifiers.{identifiers_of, most_counted, has_too_many, identifiers_flaw}
use Rattle.check_items.specs.Items.{item_flaw}
use Rattle.check_items.specs.Variables.{number_flaw, variable_flaw}
use Rattle.ir_check.specs.Answers.{IsClean}
use Rattle.ir_check.specs.Units.{unit_flaw}
use Rattle.built_modules.specs.Modules.{module_of}
use Rattle.built_modules.specs.Functions.{funcs_from}
use Rattle.printed_units.specs.Written.{IsBytes, IsName, IsWritten}
use Rattle.printed_units.specs.Lines.{forms_of}
use Rattle.printed_units.specs.Said.{const_said}
use Rattle.printed_units.proofs.WrittenLemmas.{int_is_ty, integer_is, int_within}
use Rattle.printed_units.proofs.ReadsAgain.{printed_reads_again}
use Rattle.printed_modules.proofs.TypeKept.{Units, integer_head, measure_opened, ty_replaced}
use Rattle.printed_modules.proofs.WeighedLemmas.{weighed_rolled}
use Rattle.clean_outputs.proofs.PlaceLemmas.{then_none}
use Rattle.clean_outputs.specs.Examples.{example}
use Rattle.clean_outputs.specs.Laws.{ExampleIsOutput, IsCleanOutput}
use Rattle.clean_outputs.specs.Shallow.{IsShallowTy, IsShallow}

abbrev long : Ty
long = ty.Int W64

abbrev seven : Const
seven = const.Int W64 7

-- the module can be read again

name_written : IsName (codes "v")
unfolding is_decimal is_digit
name_written = record { bytes = refl; small = λ e. absurd cc }

module_written : IsWritten example
module_written = record {
  vars = (record { name = name_written; type = int_is_ty W64; init = integer_is W64 7 (grind (arith)); align = grind (arith) }, tt);
  tables = tt;
  funcs = tt;
}

-- what its line says
abbrev said : Form
said = VariableForm (codes "v") None false long (Some seven) (Some (Some 8)) []

seven_said : const_said long seven ≡ seven
unfolding levels
seven_said = rw (const.outs-Int W64 7) refl

-- its text is of bytes

content_says : content_text long (Some seven) ≡ codes "i64 7"
unfolding integer_text digits
content_says =
    ap (λ p. p.typed long) (fold_out-Const Printed Printed const_step operand_step seven)
    ∙ rw (const.outs-Int W64 7, fold_out-Ty (List ℕ) ty_step long, ty.outs-Int W64) refl

text_bytes : IsBytes (module_text example)
unfolding var_pieces name_text is_bare is_name_start is_name_byte is_digit digits
text_bytes = rw content_says refl

-- a unit that says so
abbrev placed : Place → List ℕ → Placed TheUnit
placed place first = record { place = place; value = record { first = first; form = said } }

-- the flaws that it hasn't

long_measure : (us : Units) → measure us long ≡ single 8 8
long_measure us = measure_opened us long ∙ rw (ty.outs-Int W64) refl

long_small : (us : Units) → past_flaw us long ≡ None
long_small us = rw (long_measure us) refl

long_clean : (us : Units) → written true us false long ≡ record { void = false; flaw = None }
long_clean us = fold_out-Ty Written (written_step true us false) long ∙ rw (ty.outs-Int W64) refl

long_placed : (us : Units) → place_flaw us false NonVoid long ≡ None
long_placed us = rw (integer_head us W64, ty.outs-Int W64) refl

long_flaw : (us : Units) → type_flaw true us false NonVoid long ≡ None
long_flaw us = then_none _ _ (then_none _ _ (ap (λ w. w.flaw) (long_clean us)) (long_placed us)) (long_small us)

seven_flaw : (us : Units) → constant_flaw true us false (Some long) seven ≡ None
seven_flaw us =
    ap (λ w. w.flaw true us false NonVoid (Some long)) (weighed_rolled seven (Const-F.Int W64 7) (const.rolls-Int W64 7))
    ∙ rw (ty.outs-Int W64, ty.outs-Int W64) refl

name_flaw : (us : Units) → definition_flaw true us 0 Globals (codes "v") ≡ None
unfolding is_decimal is_digit
name_flaw us = refl

intrinsic_none : intrinsic_flaw (codes "v") ≡ None
intrinsic_none = refl

align_none : number_flaw (Some 8) ≡ None
unfolding lib.Count.ones
align_none = refl

attached_none : (us : Units) → attached_flaw true us (Some long) [] ≡ None
unfolding attached_flaw
attached_none us = refl

variables_none : (us : Units) → variables_flaw (counts_before us 0) ≡ None
variables_none us = refl

carriers_none : (us : Units) → carriers_flaw (counts_before us 0) said ≡ None
unfolding most_entries
carriers_none us = refl

take_none : (n : ℕ) → take {A = List ℕ} n [] ≡ []
take_none zero = refl
take_none (suc n) = refl

identifiers_none : (place : Place) (first : List ℕ) → identifiers_flaw (placed place first ∷ []) 0 ≡ None
unfolding has_too_many identifiers_of
identifiers_none place first = rw (take_none most_counted) refl

variable_none : (us : Units) → variable_flaw true us 0 (codes "v") None long (Some seven) (Some (Some 8)) [] ≡ None
variable_none us =
    then_none _ _ (then_none _ _ (name_flaw us) (then_none _ _ intrinsic_none refl))
    (then_none _ _ (then_none _ _ (long_flaw us) (then_none _ _ refl (seven_flaw us))) (then_none _ _ align_none (attached_none us)))

form_none : (place : Place) (first : List ℕ) → item_flaw true (placed place first ∷ []) 0 said ≡ None
unfolding item_flaw
form_none place first =
    let us = placed place first ∷ [] in
    then_none _ _ (variables_none us)
    (then_none _ _ (variable_none us) (then_none _ _ (identifiers_none place first) (carriers_none us)))

unit_none : (place : Place) (first : List ℕ) → unit_flaw true (placed place first ∷ []) 0 (placed place first) ≡ None
unfolding unit_flaw standing behind
unit_none place first = form_none place first

unit_clean : (place : Place) (first : List ℕ) → IsClean true (placed place first ∷ [])
unit_clean place first zero u near stands =
    let same : placed place first ≡ u = cc in
    subst (λ w. unit_flaw true (placed place first ∷ []) 0 w ≡ None) same (unit_none place first)
unit_clean place first (suc at) u near stands = absurd (omega arith)

-- its type is shallow

long_shallow : (us : Units) → IsShallowTy (replaced us long)
unfolding levels
long_shallow us = rw (ty_replaced us 1 long (int_within 0 W64), ty.outs-Int W64) tt

module_shallow : (place : Place) (first : List ℕ) → IsShallow (module_of true (placed place first ∷ []) 1)
unfolding module_of funcs_from
module_shallow place first = record { vars = (long_shallow (placed place first ∷ []), tt); funcs = tt }

-- the units of the text

-- the list is of one such unit
record IsOneUnit (us : Units) : Type 0 where
  place : Place
  first : List ℕ
  is : placed place first ∷ [] ≡ us

said_placed : (u : Placed TheUnit) → u.value.form ≡ said → placed u.place u.value.first ≡ u
said_placed u says = ap (λ form. record u { value = record { first = u.value.first; form = form } }) (sym says)

one_unit : (us : Units) → map (λ u. u.value.form) us ≡ said ∷ [] → IsOneUnit us
one_unit [] says = absurd cc
one_unit (u ∷ []) says = record { place = u.place; first = u.value.first; is = ap (λ u. u ∷ []) (said_placed u (cc)) }
one_unit (u ∷ other ∷ us) says = absurd cc

example_says : forms_of example ≡ said ∷ []
example_says = ap (λ init. VariableForm (codes "v") None false long (Some init) (Some (Some 8)) [] ∷ []) seven_said

output_is : (us : Units) → IsOneUnit us → IsRead 1 (module_text example) us
    → IsCleanOutput 1 (module_text example) us × IsShallow (module_of true us 1)
output_is us one read = (
  record { bytes = text_bytes; read = read; clean = subst (IsClean true) one.is (unit_clean one.place one.first) },
  subst (λ us. IsShallow (module_of true us 1)) one.is (module_shallow one.place one.first),
)

pub example_is_output : ExampleIsOutput
example_is_output =
    let again = printed_reads_again 1 example module_written in
    let is = output_is again.us (one_unit again.us (again.say ∙ example_says)) again.read in
    (again.us, is.0, is.1)
