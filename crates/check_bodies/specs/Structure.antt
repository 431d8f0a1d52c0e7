-- The faults of structure that a unit's place shows, and the length of blocks.
-- Source: LLVM Language Reference, "Functions", "Terminator Instructions" and "'phi' Instruction". Differs: the limit of instructions
-- is this project's own.
use Rattle.std.specs.Prelude.{ℕ, ◌+◌, Bool, true, false, ◌&&◌, ◌||◌, not, nat_le, List, drop}
use Rattle.std.specs.List.{list_any}
use Rattle.ltt_base.specs.declared.refusal.Placed.{Placed}
use Rattle.ir_values.specs.declared.units.Unit.{Unit}
use Rattle.check_bodies.specs.declared.sorts.Sort.{Sort}
use Rattle.check_bodies.specs.declared.sorts.Sort.TheVariants.{Head, Label, Close, Phi, Plain, Terminator, Left, Outer}
use Rattle.check_bodies.specs.declared.standing.Spot.{Spot}
use Rattle.check_bodies.specs.declared.standing.Standing.{Standing}
use Rattle.check_bodies.specs.declared.standing.Standing.TheVariants.{Outside, Inside}
use Rattle.check_bodies.specs.Sorts.{sort_of, is_instruction}
use Rattle.check_bodies.specs.Standing.{is_begun}

-- outside a body: an instruction, a label, a close
abbrev pub is_misplaced_outside : Sort → Bool
is_misplaced_outside Head = false
is_misplaced_outside Left = false
is_misplaced_outside Outer = false
is_misplaced_outside _ = true

-- in a body: a label or a close behind a label, or behind an instruction that is no terminator; a close of a body without an
-- instruction; a phi behind another instruction of its block; what is no instruction, label or close and isn't left out
abbrev pub is_misplaced_inside : Spot → Sort → Bool
is_misplaced_inside spot Label = is_begun spot.stage
is_misplaced_inside spot Close = not spot.any || is_begun spot.stage
is_misplaced_inside spot Phi = is_begun spot.stage && not spot.only_phis
is_misplaced_inside spot Head = true
is_misplaced_inside spot Outer = true
is_misplaced_inside spot _ = false

abbrev pub is_misplaced : Standing → Sort → Bool
is_misplaced Outside sort = is_misplaced_outside sort
is_misplaced (Inside spot) sort = is_misplaced_inside spot sort

-- the block has as many instructions as it may have
abbrev pub is_full : Spot → Bool
is_full spot = is_begun spot.stage && nat_le 4096 spot.count

-- one more instruction than its block may have
abbrev pub is_past_limit : Standing → Sort → Bool
is_past_limit Outside sort = false
is_past_limit (Inside spot) sort = is_instruction sort && is_full spot

abbrev pub is_close : Sort → Bool
is_close Close = true
is_close _ = false

abbrev pub closes : Placed Unit → Bool
closes unit = is_close (sort_of unit.value.form)

-- a close stands behind the head at a place
abbrev pub is_closed : List (Placed Unit) → ℕ → Bool
is_closed us head = list_any closes (drop (head + 1) us)
