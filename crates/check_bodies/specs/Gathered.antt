-- What the units of a body give, one after another.
-- Source: LLVM Language Reference, "Functions". Differs: a body runs to the next close.
use Rattle.std.specs.Prelude.{ℕ, ◌+◌, List, [], ◌∷◌, ◌++◌, drop, slice_get, Option, Some, None}
use Rattle.ltt_base.specs.declared.refusal.Placed.{Placed}
use Rattle.ir_values.specs.declared.units.Unit.{Unit}
use Rattle.ir_values.specs.declared.units.Form.{Form}
use Rattle.check_bodies.specs.declared.standing.Spot.{Spot}
use Rattle.check_bodies.specs.declared.standing.Standing.{Standing}
use Rattle.check_bodies.specs.declared.standing.Standing.TheVariants.{Outside, Inside}
use Rattle.check_bodies.specs.Standing.{after}

-- what units give, up to the close of the body in which the first of them stands; `own` is what one gives at a spot
unfoldable pub gathered : {X : Type 0} → (ℕ → Spot → Form → List X) → ℕ → Standing → List (Placed Unit) → List X
gathered own at standing [] = []
gathered own at Outside (u ∷ us) = []
gathered own at (Inside spot) (u ∷ us) = own at spot u.value.form ++ gathered own (at + 1) (after at (Inside spot) u.value.form) us

abbrev pub behind_head : {X : Type 0} → (Form → List X) → (ℕ → Spot → Form → List X) → List (Placed Unit) → ℕ → Option (Placed Unit) → List X
behind_head first own us head None = []
behind_head first own us head (Some u) = first u.value.form ++ gathered own (head + 1) (after head Outside u.value.form) (drop (head + 1) us)

-- what the function gives whose head stands at a place: the head, and then its body
unfoldable pub of_function : {X : Type 0} → (Form → List X) → (ℕ → Spot → Form → List X) → List (Placed Unit) → ℕ → List X
of_function first own us head = behind_head first own us head (slice_get us head)
