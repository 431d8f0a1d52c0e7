-- The flaws of a switch's cases.
-- Source: LLVM Language Reference, "'switch' Instruction". Differs: the codes are this project's own.
use Rattle.std.specs.Prelude.{ℕ, suc, nat_eq, nat_lt, Bool, true, false, not, List, [], ◌∷◌, map, Option, Some, None}
use Rattle.std.specs.List.{position_from}
use Rattle.ltt_base.specs.declared.refusal.Code.TheVariants.{E04, E06}
use Rattle.ltt_base.specs.declared.refusal.Placed.{Placed}
use Rattle.ir_values.specs.declared.types.Width.{Width}
use Rattle.ir_values.specs.declared.types.Ty.{Ty}
use Rattle.ir_values.specs.declared.constants.Const.{Const, out-Const}
use Rattle.ir_values.specs.declared.constants.Const.TheOpen.{Const-F}
use Rattle.ir_values.specs.declared.constants.Operand.{Operand}
use Rattle.ir_values.specs.declared.units.Unit.{Unit}
use Rattle.ir_names.specs.Numbers.{integer_text}
use Rattle.check_names.specs.declared.flaws.Flaw.{Flaw}
use Rattle.check_names.specs.Flaws.{◌then◌, each, when, worded_when}
use Rattle.check_types.specs.declared.places.Allowed.TheVariants.{Integer}
use Rattle.check_types.specs.Heads.{head}
use Rattle.check_types.specs.Written.{type_flaw}
use Rattle.check_constants.specs.Judged.{constant_flaw}
use Rattle.check_operands.specs.Operands.{other_flaw, label_flaw}
use Rattle.kept_parts.specs.CaseNumbers.{Case, case_kept, case_number}
use Rattle.kept_parts.specs.Widths.{width_of}

-- a kept constant that is a number, or has another flaw: it is left out, as the number of an address is in a source, or it is the zero
-- of a type that no case may have
abbrev pub is_case_value : Bool → Const-F Const Operand → Bool
is_case_value output (Const-F.Int width n) = true
is_case_value output (Const-F.Number name offset) = not output
is_case_value output (Const-F.Left text) = true
is_case_value output (Const-F.Zero own) = true
is_case_value output _ = false

abbrev pub is_valued : Bool → List (Placed Unit) → Case → Bool
is_valued output us case = is_case_value output (out-Const (case_kept us case))

-- a case of a switch on values of a type
abbrev pub case_flaw : Bool → List (Placed Unit) → ℕ → Ty → Case → Option Flaw
case_flaw output us head ty case =
    type_flaw output us false Integer case.0
    then (other_flaw us false case.0 ty
    then (constant_flaw output us false (Some case.0) case.1
    then (when (not (is_valued output us case)) E06 then label_flaw output us head case.2)))

abbrev pub is_number : ℕ → Option ℕ → Bool
is_number n None = false
is_number n (Some other) = nat_eq other n

abbrev pub is_before : ℕ → Option ℕ → Bool
is_before at None = false
is_before at (Some place) = nat_lt place at

-- a number that stands again
abbrev pub repeated_flaw : Width → Bool → ℕ → Option Flaw
repeated_flaw width again n = worded_when again E04 (integer_text width n)

-- a number of which one before stands among others
abbrev pub number_again : Width → List (Option ℕ) → ℕ → Option ℕ → Option Flaw
number_again width ns at None = None
number_again width ns at (Some n) = repeated_flaw width (is_before at (position_from (is_number n) 0 ns)) n

-- numbers from a place on that stand before it too, among others
unfoldable pub again_from : Width → List (Option ℕ) → ℕ → List (Option ℕ) → Option Flaw
again_from width ns at [] = None
again_from width ns at (n ∷ rest) = number_again width ns at n then again_from width ns (suc at) rest

abbrev pub numbers_again : Width → List (Option ℕ) → Option Flaw
numbers_again width ns = again_from width ns 0 ns

-- a value of the switch's type that stands twice
abbrev pub cases_again : List (Placed Unit) → Option Width → List Case → Option Flaw
cases_again us None cases = None
cases_again us (Some width) cases = numbers_again width (map (case_number us width) cases)

abbrev pub cases_flaw : Bool → List (Placed Unit) → ℕ → Ty → List Case → Option Flaw
cases_flaw output us at ty cases =
    each (case_flaw output us at ty) cases then cases_again us (width_of (head us ty)) cases
