-- What an instruction keeps of the unit that it is made of: its sort, and the register that it sets.
-- Source: LLVM Language Reference, "Instruction Reference" and "Identifiers".
use Rattle.std.specs.Prelude.{◌≡◌, ℕ, Bool, true, not, cond, List, [], map, Option, Some, None}
use Rattle.std.specs.List.{filter}
use Rattle.std.specs.Option.{option_map, option_to_list}
use Rattle.ltt_base.specs.declared.refusal.Placed.{Placed}
use Rattle.ir_values.specs.declared.instructions.Inst.{Inst}
use Rattle.ir_values.specs.declared.instructions.Inst.TheVariants as inst
use Rattle.ir_values.specs.declared.units.Unit as unit
use Rattle.ir_values.specs.declared.units.Form.{Form}
use Rattle.ir_values.specs.declared.units.Form.TheVariants as form
use Rattle.check_bodies.specs.declared.sorts.Sort.{Sort}
use Rattle.check_bodies.specs.declared.sorts.Sort.TheVariants.{Phi, Plain, Terminator}
use Rattle.check_bodies.specs.declared.standing.Spot.{Spot}
use Rattle.check_bodies.specs.declared.names.Defined.{Defined}
use Rattle.check_bodies.specs.Sorts.{sort_of, is_instruction}
use Rattle.check_bodies.specs.Standing.{is_named}
use Rattle.check_bodies.specs.Names.{is_label, names_at}
use Rattle.check_constants.specs.declared.intrinsics.Intrinsic.{Intrinsic}
use Rattle.check_constants.specs.declared.intrinsics.Intrinsic.TheVariants.{Test, CheckedLoad, Rotate}
use Rattle.kept_parts.specs.Called.{called, called_intrinsic}
use Rattle.built_instructions.specs.Instructions.{instruction_of}

-- what an instruction is in its block
abbrev pub sort_in : Inst → Sort
sort_in (inst.Phi dst ty arms) = Phi
sort_in (inst.Br to) = Terminator
sort_in (inst.CondBr test one other) = Terminator
sort_in (inst.Switch width value other cases) = Terminator
sort_in (inst.Ret ty value) = Terminator
sort_in inst.Unreachable = Terminator
sort_in _ = Plain

-- the sort of a unit that is an instruction
abbrev pub instruction_sort : Form → Option Sort
instruction_sort form = cond (is_instruction (sort_of form)) (Some (sort_of form)) None

-- exactly the units that are instructions become one, and it is of their sort
abbrev pub SortsAreKept : Type 0
SortsAreKept = (output : Bool) (us : List (Placed unit.Unit)) (file at : ℕ) (spot : Spot) (form : Form)
    → option_map sort_in (instruction_of output us file at spot form) ≡ instruction_sort form

-- the register that an instruction sets
abbrev pub register_of : Inst → Option (List ℕ)
register_of (inst.Binary dst op width a b) = Some dst
register_of (inst.Compare dst pred ty a b) = Some dst
register_of (inst.Select dst test ty a b) = Some dst
register_of (inst.Cast dst op from a to) = Some dst
register_of (inst.Gep dst ty base index) = Some dst
register_of (inst.Load dst ty addr) = Some dst
register_of (inst.Call dst fty callee args) = dst
register_of (inst.Extract dst pair part) = Some dst
register_of (inst.Phi dst ty arms) = Some dst
register_of (inst.Test dst ptr id) = Some dst
register_of (inst.PublicTest dst ptr id) = Some dst
register_of (inst.CheckedLoad dst ptr offset id) = Some dst
register_of (inst.Number dst ptr) = Some dst
register_of (inst.Rotate dst value by) = Some dst
register_of _ = None

abbrev pub registers_of : Option Inst → List (List ℕ)
registers_of None = []
registers_of (Some i) = option_to_list (register_of i)

-- the names of values, without those of labels
abbrev pub value_names : List Defined → List (List ℕ)
value_names ds = map (λ d. d.name) (filter (λ d. not (is_label d.local)) ds)

-- a call of an intrinsic has a result exactly where the intrinsic gives one
abbrev pub fits_result : Option Intrinsic → Bool → Bool
fits_result None named = true
fits_result (Some Test) named = named
fits_result (Some CheckedLoad) named = named
fits_result (Some Rotate) named = named
fits_result (Some _) named = not named

abbrev pub has_fit_result : Bool → List (Placed unit.Unit) → Form → Bool
has_fit_result output us (form.CallForm dst result whole dots callee args bundle) =
    fits_result (called_intrinsic output us (called us callee)) (is_named (form.CallForm dst result whole dots callee args bundle))
has_fit_result output us _ = true

-- the register that an instruction sets is the value that its unit defines in its body
abbrev pub RegistersAreDefined : Type 0
RegistersAreDefined = (output : Bool) (us : List (Placed unit.Unit)) (file at : ℕ) (spot : Spot) (form : Form)
    → has_fit_result output us form ≡ true
    → registers_of (instruction_of output us file at spot form) ≡ value_names (names_at at spot form)
