-- The instruction that a unit becomes.
-- Source: LLVM Language Reference, "Instruction Reference". Differs: registers and blocks that aren't named have their numbers as names, and
-- names of types are replaced by what they stand for.
use Rattle.std.specs.Prelude.{ℕ, Bool, List, Option, Some, None}
use Rattle.ltt_base.specs.declared.refusal.Placed.{Placed}
use Rattle.ir_values.specs.declared.instructions.Inst.{Inst}
use Rattle.ir_values.specs.declared.units.Unit as unit
use Rattle.ir_values.specs.declared.units.Form.{Form}
use Rattle.ir_values.specs.declared.units.Form.TheVariants as form
use Rattle.check_bodies.specs.declared.standing.Spot.{Spot}
use Rattle.check_bodies.specs.Standing.{is_named, opened}
use Rattle.built_instructions.specs.Plain.{binary_kept, compare_kept, select_kept, cast_kept, address_kept, load_kept, store_kept, extract_kept, phi_kept, number_kept}
use Rattle.built_instructions.specs.Branches.{branch_kept, end_kept}
use Rattle.built_instructions.specs.Calls.{call_kept}

-- the instruction that a form says, in the file of a number, where an unnamed result has the next number
abbrev pub form_kept : Bool → List (Placed unit.Unit) → ℕ → ℕ → Form → Option Inst
form_kept output us file next (form.BinaryForm dst op ty a b) = Some (binary_kept us next dst op ty a b)
form_kept output us file next (form.CompareForm dst pred ty a b) = Some (compare_kept us next dst pred ty a b)
form_kept output us file next (form.SelectForm dst cond_ty test ty a other_ty b) =
    Some (select_kept us next dst cond_ty test ty a other_ty b)
form_kept output us file next (form.CastForm dst op from a to) = Some (cast_kept us next dst op from a to)
form_kept output us file next (form.AddressForm dst ty base index) = Some (address_kept us next dst ty base index)
form_kept output us file next (form.LoadForm dst ty addr) = Some (load_kept us next dst ty addr)
form_kept output us file next (form.StoreForm ty value addr) = Some (store_kept us ty value addr)
form_kept output us file next (form.CallForm dst result whole dots callee args bundle) =
    Some (call_kept output us file next (is_named (form.CallForm dst result whole dots callee args bundle)) dst result whole callee args)
form_kept output us file next (form.ExtractForm dst value part) = Some (extract_kept next dst value part)
form_kept output us file next (form.PhiForm dst ty arms) = Some (phi_kept us next dst ty arms)
form_kept output us file next (form.BranchForm text) = Some (branch_kept us text)
form_kept output us file next (form.EndForm text) = Some (end_kept us text)
form_kept output us file next (form.NumberForm dst value) = Some (number_kept us next dst value)
form_kept output us file next _ = None

-- the instruction that the unit at a place becomes, which stands at a spot of a body: an instruction outside a block begins one, which takes
-- a number before its result does
unfoldable pub instruction_of : Bool → List (Placed unit.Unit) → ℕ → ℕ → Spot → Form → Option Inst
instruction_of output us file at spot form = form_kept output us file (opened at spot).next form
