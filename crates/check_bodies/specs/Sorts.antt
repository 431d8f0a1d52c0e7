-- What a unit is in a body, and which instructions have a result.
-- Source: LLVM Language Reference, "Functions", "Terminator Instructions" and "Identifiers".
use Rattle.std.specs.Prelude.{ℕ, Bool, true, false, not, List, Option, Some, None}
use Rattle.ir_values.specs.declared.types.Ty.{Ty, out-Ty}
use Rattle.ir_values.specs.declared.types.Ty.TheOpen.{Ty-F}
use Rattle.ir_values.specs.declared.units.Form.{Form}
use Rattle.ir_values.specs.declared.units.Form.TheVariants as form
use Rattle.check_bodies.specs.declared.sorts.Sort.{Sort}
use Rattle.check_bodies.specs.declared.sorts.Sort.TheVariants.{Head, Label, Close, Phi, Plain, Terminator, Left, Outer}

abbrev pub sort_of : Form → Sort
sort_of (form.DefineForm _) = Head
sort_of (form.LabelForm _) = Label
sort_of form.CloseForm = Close
sort_of (form.BinaryForm _ _ _ _ _) = Plain
sort_of (form.CompareForm _ _ _ _ _) = Plain
sort_of (form.SelectForm _ _ _ _ _ _ _) = Plain
sort_of (form.CastForm _ _ _ _ _) = Plain
sort_of (form.AddressForm _ _ _ _) = Plain
sort_of (form.LoadForm _ _ _) = Plain
sort_of (form.StoreForm _ _ _) = Plain
sort_of (form.CallForm _ _ _ _ _ _ _) = Plain
sort_of (form.ExtractForm _ _ _) = Plain
sort_of (form.PhiForm _ _ _) = Phi
sort_of (form.BranchForm _) = Terminator
sort_of (form.EndForm _) = Terminator
sort_of (form.NumberForm _ _) = Plain
sort_of (form.LeftForm _) = Left
sort_of _ = Outer

abbrev pub is_void : Ty-F Ty → Bool
is_void Ty-F.Void = true
is_void _ = false

abbrev pub is_instruction : Sort → Bool
is_instruction Phi = true
is_instruction Plain = true
is_instruction Terminator = true
is_instruction _ = false

-- the written name of a label, or of an instruction's result
abbrev pub written_name : Form → Option (List ℕ)
written_name (form.LabelForm name) = Some name
written_name (form.BinaryForm dst _ _ _ _) = dst
written_name (form.CompareForm dst _ _ _ _) = dst
written_name (form.SelectForm dst _ _ _ _ _ _) = dst
written_name (form.CastForm dst _ _ _ _) = dst
written_name (form.AddressForm dst _ _ _) = dst
written_name (form.LoadForm dst _ _) = dst
written_name (form.CallForm dst _ _ _ _ _ _) = dst
written_name (form.ExtractForm dst _ _) = dst
written_name (form.PhiForm dst _ _) = dst
written_name (form.NumberForm dst _) = dst
written_name _ = None

-- the instruction has a result though none is written: any but stores, branches, ends and calls of type `void`
abbrev pub has_result : Form → Bool
has_result (form.BinaryForm _ _ _ _ _) = true
has_result (form.CompareForm _ _ _ _ _) = true
has_result (form.SelectForm _ _ _ _ _ _ _) = true
has_result (form.CastForm _ _ _ _ _) = true
has_result (form.AddressForm _ _ _ _) = true
has_result (form.LoadForm _ _ _) = true
has_result (form.CallForm _ result _ _ _ _ _) = not (is_void (out-Ty result))
has_result (form.ExtractForm _ _ _) = true
has_result (form.PhiForm _ _ _) = true
has_result (form.NumberForm _ _) = true
has_result _ = false
