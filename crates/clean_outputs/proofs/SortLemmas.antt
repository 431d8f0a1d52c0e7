-- The sorts of instructions are those of their units.
use Rattle.std.proofs.Common.{◌≡◌, refl, ◌∙◌, ap, ℕ, Bool, true, false, cond, Some, None}
use Rattle.std.specs.Option.{option_map}
use Rattle.ir_values.specs.declared.instructions.Inst.{Inst}
use Rattle.ir_values.specs.declared.instructions.Inst.TheVariants as inst
use Rattle.ir_values.specs.declared.units.Form.{Form}
use Rattle.check_bodies.specs.declared.sorts.Sort.{Sort}
use Rattle.check_bodies.specs.declared.sorts.Sort.TheVariants.{Terminator}
use Rattle.check_bodies.specs.declared.standing.Spot.{Spot}
use Rattle.check_bodies.specs.Sorts.{sort_of, is_instruction}
use Rattle.built_instructions.specs.Instructions.{instruction_of}
use Rattle.built_instructions.specs.Laws.{sort_in}
use Rattle.built_instructions.proofs.SortLaws.{sorts_kept}
use Rattle.printed_units.specs.Written.{is_terminator}
use Rattle.sized_modules.proofs.UnitLemmas.{Units}

-- by a sort that its unit is known to have
pub of_sort : (us : Units) (file at : ℕ) (spot : Spot) (form : Form) (sort : Sort) → sort_of form ≡ sort
    → option_map sort_in (instruction_of true us file at spot form) ≡ cond (is_instruction sort) (Some sort) None
of_sort us file at spot form sort is = sorts_kept true us file at spot form ∙ ap (λ s. cond (is_instruction s) (Some s) None) is

abbrev pub is_end : Sort → Bool
is_end Terminator = true
is_end _ = false

pub ends_by_sort : (i : Inst) → is_terminator i ≡ is_end (sort_in i)
ends_by_sort (inst.Br to) = refl
ends_by_sort (inst.CondBr test one other) = refl
ends_by_sort (inst.Switch width value other cases) = refl
ends_by_sort (inst.Ret ty value) = refl
ends_by_sort inst.Unreachable = refl
ends_by_sort (inst.Phi dst ty arms) = refl
ends_by_sort _ = refl
