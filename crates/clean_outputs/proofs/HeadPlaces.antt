-- Where units stand in a file without flaws.
use Rattle.std.proofs.Common.{◌≡◌, refl, sym, ap, ◌∙◌, ℕ, true, ◌||◌, Some, None, slice_get}
use Rattle.ltt_base.specs.declared.refusal.Code.TheVariants.{E03}
use Rattle.ltt_base.specs.declared.refusal.Placed.{Placed}
use Rattle.ir_values.specs.declared.units.Unit.{Unit as TheUnit}
use Rattle.ir_values.specs.declared.units.Form.{Form}
use Rattle.check_names.specs.Flaws.{◌then◌}
use Rattle.check_bodies.specs.declared.standing.Standing.{Standing}
use Rattle.check_bodies.specs.declared.standing.Standing.TheVariants.{Outside, Inside}
use Rattle.check_bodies.specs.Standing.{standing}
use Rattle.check_bodies.specs.Sorts.{sort_of}
use Rattle.check_bodies.specs.Structure.{is_misplaced_inside}
use Rattle.check_bodies.specs.Bodies.{structure_flaw, own_flaw, limit_flaw, is_to_entry, is_torn}
use Rattle.check_instructions.specs.Instructions.{instruction_flaw}
use Rattle.ir_check.specs.Units.{place_flaw, flaw_at}
use Rattle.sized_modules.proofs.FlawLemmas.{none_first, unbroken, neither_first, clash}
use Rattle.sized_modules.proofs.UnitLemmas.{Units, IsOuter}
use Rattle.clean_outputs.proofs.FileLemmas.{IsFile, clean_at}

outside_at : (us : Units) (at : ℕ) (form : Form) → IsOuter form → (place : Standing) → flaw_at true us at place form ≡ None → place ≡ Outside
unfolding place_flaw
outside_at us at form outer Outside none = refl
outside_at us at form outer (Inside spot) none =
    let placed = none_first (place_flaw us spot.head at spot form) (instruction_flaw true us spot.head at spot form) none in
    let structure = none_first (structure_flaw us spot.head at spot form) (own_flaw us spot.head at spot form then limit_flaw spot form) placed in
    let other = is_to_entry us spot.head form || is_torn us spot.head at spot form in
    let unplaced = unbroken (is_misplaced_inside spot (sort_of form) || other) E03 structure in
    clash (is_misplaced_inside spot (sort_of form)) (outer spot) (neither_first (is_misplaced_inside spot (sort_of form)) other unplaced)

-- what may not stand in a body stands outside all
pub stands_outside : (us : Units) → IsFile us → (at : ℕ) (u : Placed TheUnit) (form : Form) → slice_get us at ≡ Some u → u.value.form ≡ form
    → IsOuter form → standing us at ≡ Outside
stands_outside us of at u form here is outer =
    outside_at us at form outer (standing us at) (ap (flaw_at true us at (standing us at)) (sym is) ∙ clean_at us of at u here)
