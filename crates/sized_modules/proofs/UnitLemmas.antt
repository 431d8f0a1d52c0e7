-- What is known of a unit without a flaw.
use Rattle.std.proofs.Common.{◌≡◌, ◌∙◌, ap, sym, subst, ℕ, Bool, true, false, ◌||◌, List, Option, Some, None, slice_get}
use Rattle.std.specs.Prelude.{All}
use Rattle.std.proofs.lemmas.Option.{slice_get_within, get_or_from_slice_get}
use Rattle.ltt_base.specs.declared.refusal.Code.TheVariants.{E03}
use Rattle.ltt_base.specs.declared.refusal.Placed.{Placed}
use Rattle.ir_values.specs.declared.types.Ty.{Ty}
use Rattle.ir_values.specs.declared.constants.Const.{Const}
use Rattle.ir_values.specs.declared.units.Unit.{Unit as TheUnit}
use Rattle.ir_values.specs.declared.units.Attach.{Attach}
use Rattle.ir_values.specs.declared.units.Form.{Form}
use Rattle.ir_values.specs.declared.units.Form.TheVariants.{TypeForm, VariableForm}
use Rattle.check_names.specs.declared.spaces.Space.TheVariants.{Types}
use Rattle.check_names.specs.Flaws.{◌then◌}
use Rattle.check_names.specs.Reserved.{definition_flaw}
use Rattle.check_bodies.specs.declared.standing.Spot.{Spot}
use Rattle.check_bodies.specs.declared.standing.Standing.{Standing}
use Rattle.check_bodies.specs.declared.standing.Standing.TheVariants.{Outside, Inside}
use Rattle.check_bodies.specs.Standing.{standing}
use Rattle.check_bodies.specs.Sorts.{sort_of}
use Rattle.check_bodies.specs.Structure.{is_misplaced_inside}
use Rattle.check_bodies.specs.Bodies.{outside_flaw, structure_flaw, own_flaw, limit_flaw, is_to_entry, is_torn}
use Rattle.check_types.specs.declared.places.Allowed.TheVariants.{Every, NonVoid}
use Rattle.check_types.specs.Written.{type_flaw}
use Rattle.check_items.specs.Counts.{counts_before, variables_flaw}
use Rattle.check_items.specs.Items.{item_flaw, limits_flaw}
use Rattle.check_items.specs.Variables.{variable_flaw, named_flaw, held_flaw, bare_flaw, init_flaw, align_flaw, own_attached_flaw}
use Rattle.check_instructions.specs.Instructions.{instruction_flaw}
use Rattle.ir_check.specs.Units.{unclosed, place_flaw, flaw_at, unit_flaw}
use Rattle.ir_check.specs.Answers.{IsClean}
use Rattle.sized_modules.proofs.FlawLemmas.{none_first, none_second, unbroken, neither_first, clash}

abbrev pub Units : Type 0
Units = List (Placed TheUnit)

-- may not stand in a body
abbrev pub IsOuter : Form → Type 0
IsOuter form = (spot : Spot) → is_misplaced_inside spot (sort_of form) ≡ true

-- what holds of each item of a list holds of the one at a place
pub all_at : {X : Type 0} (P : X → Type 0) (xs : List X) (at : ℕ) (x : X) → All P xs → slice_get xs at ≡ Some x → P x
all_at P xs at x all is = subst P (get_or_from_slice_get xs at x x is) (all at x (slice_get_within xs at x is))

module _ (output : Bool) where
  -- such a unit without a flaw, wherever it stands, has none as an item
  outer_item : (us : Units) (at : ℕ) (form : Form) → IsOuter form → (place : Standing) → flaw_at output us at place form ≡ None
      → item_flaw output us at form ≡ None
  unfolding place_flaw
  outer_item us at form outer Outside none =
      none_second (unclosed us at form) (item_flaw output us at form)
      (none_second (outside_flaw form) (unclosed us at form then item_flaw output us at form) none)
  outer_item us at form outer (Inside spot) none =
      let placed = none_first (place_flaw us spot.head at spot form) (instruction_flaw output us spot.head at spot form) none in
      let structure = none_first (structure_flaw us spot.head at spot form) (own_flaw us spot.head at spot form then limit_flaw spot form) placed in
      let other = is_to_entry us spot.head form || is_torn us spot.head at spot form in
      let unplaced = unbroken (is_misplaced_inside spot (sort_of form) || other) E03 structure in
      clash (is_misplaced_inside spot (sort_of form)) (outer spot) (neither_first (is_misplaced_inside spot (sort_of form)) other unplaced)

  -- in a file without flaws such a unit has none as an item
  pub clean_item : (us : Units) (at : ℕ) (u : Placed TheUnit) (form : Form) → IsClean output us → slice_get us at ≡ Some u
      → u.value.form ≡ form → IsOuter form → item_flaw output us at form ≡ None
  unfolding unit_flaw
  clean_item us at u form clean here is outer =
      outer_item us at form outer (standing us at)
      (ap (flaw_at output us at (standing us at)) (sym is) ∙ clean at u (slice_get_within us at u here) here)

  -- nor has the type of a type unit
  pub clean_type : (us : Units) (at : ℕ) (name : List ℕ) (ty : Ty) → item_flaw output us at (TypeForm name (Some ty)) ≡ None
      → type_flaw output us false Every ty ≡ None
  unfolding item_flaw
  clean_type us at name ty none = none_second (definition_flaw output us at Types name) (type_flaw output us false Every ty) none

  -- nor the type of a variable
  pub clean_variable : (us : Units) (at : ℕ) (name : List ℕ) (linkage : Option (List ℕ)) (constant : Bool) (ty : Ty) (init : Option Const)
      (align : Option (Option ℕ)) (attached : List Attach)
      → item_flaw output us at (VariableForm name linkage constant ty init align attached) ≡ None → type_flaw output us false NonVoid ty ≡ None
  unfolding item_flaw
  clean_variable us at name linkage constant ty init align attached none =
      let form = VariableForm name linkage constant ty init align attached in
      let counts = counts_before us at in
      let own = variable_flaw output us at name linkage ty init align attached in
      let behind = limits_flaw us at counts form in
      let of_own : own ≡ None = none_first own behind (none_second (variables_flaw counts) (own then behind) none) in
      let held = held_flaw output us linkage ty init in
      let rest = align_flaw align then own_attached_flaw output us ty init attached in
      let of_held : held ≡ None = none_first held rest (none_second (named_flaw output us at name linkage) (held then rest) of_own) in
      none_first (type_flaw output us false NonVoid ty) (bare_flaw linkage init then init_flaw output us ty init) of_held
