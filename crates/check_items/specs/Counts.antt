-- How many variables, functions and type entries a file has up to a place.
-- Source: none; the limits are this project's own (docs/refusals.md).
use Rattle.std.specs.Prelude.{ℕ, ◌+◌, ◌-◌, ◌^◌, min, Bool, true, false, not, ◌&&◌, nat_le, nat_lt, cond, List, [], Option, is_none, take, count_by, sum_by, codes}
use Rattle.ltt_base.specs.declared.refusal.Code.TheVariants.{E12}
use Rattle.ltt_base.specs.declared.refusal.Placed.{Placed}
use Rattle.ir_values.specs.declared.units.Unit as unit
use Rattle.ir_values.specs.declared.units.Attach.{Attach}
use Rattle.ir_values.specs.declared.units.Form.{Form}
use Rattle.ir_values.specs.declared.units.Form.TheVariants.{VariableForm, DeclareForm, DefineForm}
use Rattle.check_names.specs.declared.flaws.Flaw.{Flaw}
use Rattle.check_names.specs.Flaws.{worded_when}
use Rattle.check_names.specs.Reserved.{is_intrinsic}
use Rattle.check_items.specs.declared.counts.Counts.{Counts}
use Rattle.check_items.specs.Attached.{is_type}

abbrev pub is_variable : Form → Bool
is_variable (VariableForm name linkage constant ty init align attached) = true
is_variable _ = false

-- a function that is declared or defined, but no intrinsic
abbrev pub is_function : Form → Bool
is_function (DeclareForm head) = not (is_intrinsic head.name)
is_function (DefineForm head) = true
is_function _ = false

-- the attachments that count: those of definitions
abbrev pub kept_attached : Form → List Attach
kept_attached (VariableForm name linkage constant ty init align attached) = cond (is_none init) [] attached
kept_attached (DefineForm head) = head.attached
kept_attached _ = []

abbrev pub entry_count : Form → ℕ
entry_count form = count_by is_type (kept_attached form)

-- the count of entries ends there
unfoldable pub most_entries : ℕ
most_entries = 2 ^ 64 - 1

-- what the units before a place have
abbrev pub counts_before : List (Placed unit.Unit) → ℕ → Counts
counts_before us at = record {
  variables = count_by (λ u. is_variable u.value.form) (take at us);
  functions = count_by (λ u. is_function u.value.form) (take at us);
  entries = min (sum_by (λ u. entry_count u.value.form) (take at us)) most_entries;
}

-- one variable more than a file may have
abbrev pub variables_flaw : Counts → Option Flaw
variables_flaw counts = worded_when (nat_le 65536 counts.variables) E12 (codes "variables")

-- one function more than a file may have
abbrev pub functions_flaw : Counts → Form → Option Flaw
functions_flaw counts form = worded_when (is_function form && nat_le 65536 counts.functions) E12 (codes "functions")

-- more entries than a file may have
abbrev pub carriers_flaw : Counts → Form → Option Flaw
carriers_flaw counts form = worded_when (nat_lt 1048576 (min (counts.entries + entry_count form) most_entries)) E12 (codes "carriers")
