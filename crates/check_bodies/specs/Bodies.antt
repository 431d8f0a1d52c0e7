-- The flaws of a unit that a body shows: its place, the names that it defines, the labels and values that it uses.
-- Source: LLVM Language Reference, "Functions", "Identifiers" and "'phi' Instruction". Differs: the codes are this project's own.
use Rattle.std.specs.Prelude.{ℕ, Bool, true, false, ◌&&◌, ◌||◌, not, nat_eq, List, Option, Some, None, is_some, codes}
use Rattle.std.specs.List.{list_any}
use Rattle.std.specs.Str.{bytes_eq}
use Rattle.ltt_base.specs.declared.refusal.Code.TheVariants.{E03, E04, E05, E12}
use Rattle.ltt_base.specs.declared.refusal.Placed.{Placed}
use Rattle.ir_values.specs.declared.units.Unit.{Unit}
use Rattle.ir_values.specs.declared.units.Form.{Form}
use Rattle.ir_values.specs.declared.units.Form.TheVariants as form
use Rattle.check_names.specs.declared.flaws.Flaw.{Flaw}
use Rattle.check_names.specs.Flaws.{◌then◌, each, when, worded_when, named_when}
use Rattle.check_bodies.specs.declared.standing.Spot.{Spot}
use Rattle.check_bodies.specs.declared.standing.Standing.{Standing}
use Rattle.check_bodies.specs.declared.standing.Standing.TheVariants.{Outside, Inside}
use Rattle.check_bodies.specs.declared.names.Local.{Local}
use Rattle.check_bodies.specs.declared.names.Local.TheVariants.{Parameter, Block, Result}
use Rattle.check_bodies.specs.declared.names.Defined.{Defined}
use Rattle.check_bodies.specs.declared.names.Asked.{Asked}
use Rattle.check_bodies.specs.declared.names.Asked.TheVariants.{Either}
use Rattle.check_bodies.specs.Sorts.{sort_of}
use Rattle.check_bodies.specs.Standing.{opened}
use Rattle.check_bodies.specs.Structure.{is_misplaced, is_past_limit, is_closed}
use Rattle.check_bodies.specs.Names.{head_names, names_at, names_of, first_local, entry_label}
use Rattle.check_bodies.specs.Blocks.{targets, block_at, predecessors, are_same_labels, arm_labels}

-- a name that no label, or no value, of the function has
abbrev pub missing_flaw : List (Placed Unit) → ℕ → Asked → List ℕ → Option Flaw
missing_flaw us head asked name = named_when (not (is_some (first_local asked name (names_of us head)))) E05 (codes "%") name

abbrev pub is_same_local : Local → Local → Bool
is_same_local (Parameter one) (Parameter other) = nat_eq one other
is_same_local (Block one) (Block other) = nat_eq one other
is_same_local (Result one) (Result other) = nat_eq one other
is_same_local _ _ = false

abbrev pub is_local : Local → Option Local → Bool
is_local local None = false
is_local local (Some found) = is_same_local found local

-- a name of which one before stands among others
abbrev pub again_among : List Defined → Defined → Option Flaw
again_among ds d = named_when (not (is_local d.local (first_local Either d.name ds))) E04 (codes "%") d.name

-- a parameter's name that stands twice in a head
abbrev pub head_flaw : List (Placed Unit) → ℕ → Form → Option Flaw
head_flaw us head form = each (again_among (names_of us head)) (head_names form)

-- a name that the unit defines, and something before it in the function
abbrev pub own_flaw : List (Placed Unit) → ℕ → ℕ → Spot → Form → Option Flaw
own_flaw us head at spot form = each (again_among (names_of us head)) (names_at at spot form)

abbrev pub is_among_targets : Option (List ℕ) → Form → Bool
is_among_targets None form = false
is_among_targets (Some label) form = list_any (bytes_eq label) (targets form)

-- a branch to the entry block
abbrev pub is_to_entry : List (Placed Unit) → ℕ → Form → Bool
is_to_entry us head form = is_among_targets (entry_label (names_of us head)) form

abbrev pub is_phi_form : Form → Bool
is_phi_form (form.PhiForm _ _ _) = true
is_phi_form _ = false

-- a phi whose arms have other labels than its block's predecessors
abbrev pub is_torn : List (Placed Unit) → ℕ → ℕ → Spot → Form → Bool
is_torn us head at spot form =
    is_phi_form form && not (are_same_labels (arm_labels form) (predecessors us head (block_at (opened at spot))))

-- what is wrong with where a unit stands in a body, and with where it leads
abbrev pub structure_flaw : List (Placed Unit) → ℕ → ℕ → Spot → Form → Option Flaw
structure_flaw us head at spot form =
    when (is_misplaced (Inside spot) (sort_of form) || (is_to_entry us head form || is_torn us head at spot form)) E03

-- an instruction past the limit of its block
abbrev pub limit_flaw : Spot → Form → Option Flaw
limit_flaw spot form = worded_when (is_past_limit (Inside spot) (sort_of form)) E12 (codes "instructions")

-- the flaws of a unit that its body alone shows
abbrev pub body_flaw : List (Placed Unit) → ℕ → ℕ → Spot → Form → Option Flaw
body_flaw us head at spot form = structure_flaw us head at spot form then (own_flaw us head at spot form then limit_flaw spot form)

-- a head whose body is never closed
abbrev pub unclosed_flaw : List (Placed Unit) → ℕ → Option Flaw
unclosed_flaw us head = when (not (is_closed us head)) E03

-- a unit that may not stand outside all bodies
abbrev pub outside_flaw : Form → Option Flaw
outside_flaw form = when (is_misplaced Outside (sort_of form)) E03
