-- Slots of a combined variable don't overlap.
use Rattle.std.proofs.Common.{ℕ, ◌+◌, ◌-◌, ◌≤◌, zero, suc, List, [], ◌∷◌, arith}
use Rattle.std.specs.Prelude.{All}
use Rattle.global_layout.specs.declared.ids.Shape.{Shape}
use Rattle.global_layout.specs.Slots.{raised, home_behind, end_behind}
use Rattle.global_layout.specs.Layout.{IsShape, shape_at}
use Rattle.global_layout.specs.Laws.{bytes_from, AreApart, SlotsAreApart}
use Rattle.global_layout.proofs.PadLemmas.{raised-reaches, align-some, pad-reaches, end-grows}
use Rattle.global_layout.proofs.PlacingLemmas.{shape-is}

-- an object's bytes end before its slot does, and begin behind the slot before
inside : (end : ℕ) (shape : Shape) → IsShape shape
    → (end ≤ home_behind end shape - shape.before) × (home_behind end shape + shape.extent + shape.after ≤ end_behind end shape)
inside end shape is =
    let some = align-some shape.align is.align in
    let start = raised-reaches end shape.align some in
    let before = raised-reaches shape.before shape.align some in
    let padded = pad-reaches (raised shape.before shape.align + shape.extent + shape.after) in
    (omega (arith, start, before), omega (arith, padded))

all_behind : (shapes : List Shape) (low end : ℕ) (objects : List ℕ) → All IsShape shapes → low ≤ end → All (λ other. low ≤ other.from) (bytes_from shapes end objects)
all_behind shapes low end [] all below k d within = absurd (omega arith)
all_behind shapes low end (object ∷ more) all below zero d within =
    let in_slot = inside end (shape_at shapes object) (shape-is shapes object all) in
    omega (arith, in_slot.0, below)
all_behind shapes low end (object ∷ more) all below (suc k) d within =
    let grown = end-grows end (shape_at shapes object) (shape-is shapes object all) in
    all_behind shapes low (end_behind end (shape_at shapes object)) more all (omega (arith, grown, below)) k d (omega arith)

apart_from : (shapes : List Shape) (end : ℕ) (objects : List ℕ) → All IsShape shapes → AreApart (bytes_from shapes end objects)
unfolding AreApart
apart_from shapes end [] all = tt
apart_from shapes end (object ∷ more) all = (
  all_behind shapes (home_behind end (shape_at shapes object) + (shape_at shapes object).extent + (shape_at shapes object).after) (end_behind end (shape_at shapes object)) more all
      (inside end (shape_at shapes object) (shape-is shapes object all)).1,
  apart_from shapes (end_behind end (shape_at shapes object)) more all,
)

pub slots-apart : SlotsAreApart
slots-apart shapes objects all = apart_from shapes 0 objects all
