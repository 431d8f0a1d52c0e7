-- The flaws of an instruction, apart from those of its place and of names that it defines again.
-- Source: LLVM Language Reference, "Instruction Reference". Differs: the codes are this project's own.
use Rattle.std.specs.Prelude.{ℕ, Bool, true, false, List, Option, None, codes}
use Rattle.ltt_base.specs.declared.refusal.Code.TheVariants.{E07}
use Rattle.ltt_base.specs.declared.refusal.Placed.{Placed}
use Rattle.ir_values.specs.declared.units.Unit.{Unit}
use Rattle.ir_values.specs.declared.units.Form.{Form}
use Rattle.ir_values.specs.declared.units.Form.TheVariants as form
use Rattle.check_names.specs.declared.flaws.Flaw.{Flaw}
use Rattle.check_names.specs.Flaws.{◌then◌, each, worded_when}
use Rattle.check_names.specs.Reserved.{reserved_flaw}
use Rattle.check_types.specs.declared.places.Allowed.TheVariants.{Integer}
use Rattle.check_bodies.specs.declared.standing.Spot.{Spot}
use Rattle.check_bodies.specs.declared.names.Defined.{Defined}
use Rattle.check_bodies.specs.Names.{names_at}
use Rattle.check_instructions.specs.Plain.{both_flaw, compared, select_flaw, cast_flaw, load_flaw, store_flaw, number_flaw, extract_flaw}
use Rattle.check_instructions.specs.Addresses.{address_flaw}
use Rattle.check_instructions.specs.Branches.{branch_flaw, end_flaw}
use Rattle.check_instructions.specs.Phis.{phi_flaw}
use Rattle.check_calls.specs.Calls.{call_flaw}

-- a name that a unit of a body defines
abbrev pub defined_flaw : Bool → Defined → Option Flaw
defined_flaw output defined = reserved_flaw output (codes "%") defined.name

-- the names that a unit at a spot defines, implied ones too
abbrev pub own_flaw : Bool → ℕ → Spot → Form → Option Flaw
own_flaw output at spot form = each (defined_flaw output) (names_at at spot form)

-- what a form writes, in the function whose head stands at a place
abbrev pub form_flaw : Bool → List (Placed Unit) → ℕ → Form → Option Flaw
form_flaw output us head (form.BinaryForm dst op ty a b) = both_flaw output us head Integer ty a b
form_flaw output us head (form.CompareForm dst pred ty a b) = both_flaw output us head (compared pred) ty a b
form_flaw output us head (form.SelectForm dst cond_ty test ty a other_ty b) = select_flaw output us head cond_ty test ty a other_ty b
form_flaw output us head (form.CastForm dst op from a to) = cast_flaw output us head op from a to
form_flaw output us head (form.AddressForm dst ty base index) = address_flaw output us head ty base index
form_flaw output us head (form.LoadForm dst ty addr) = load_flaw output us head ty addr
form_flaw output us head (form.StoreForm ty value addr) = store_flaw output us head ty value addr
form_flaw output us head (form.CallForm dst result whole dots callee args bundle) =
    call_flaw output us head dst result whole dots callee args bundle
form_flaw output us head (form.ExtractForm dst value part) = extract_flaw output us head value part
form_flaw output us head (form.PhiForm dst ty arms) = phi_flaw output us head ty arms
form_flaw output us head (form.BranchForm text) = branch_flaw output us head text
form_flaw output us head (form.EndForm text) = end_flaw output us head text
form_flaw output us head (form.NumberForm dst value) = number_flaw output us head value
form_flaw output us head (form.LeftForm word) = worded_when true E07 word
form_flaw output us head _ = None

-- the flaws of a unit at a spot of a body
unfoldable pub instruction_flaw : Bool → List (Placed Unit) → ℕ → ℕ → Spot → Form → Option Flaw
instruction_flaw output us head at spot form = own_flaw output at spot form then form_flaw output us head form
