-- Lengths only grow.
use Rattle.std.proofs.Common.{◌≡◌, ℕ, ◌+◌, ◌<◌, ◌≤◌, inl, inr, Bool, true, false, List, [], ◌∷◌, length, get_or, take, drop, fold, Option, refl, sym, ap, subst, ◌∙◌, arith}
use Rattle.std.specs.Prelude.{All, if◌then◌else◌}
use Rattle.std.proofs.lemmas.Bool.{cases_lt}
use Rattle.std.proofs.Math.ListN.{get_or-eq_default}
use Rattle.std.proofs.lemmas.List.{take-append-drop, get_or_default}
use Rattle.std.proofs.lemmas.List.Sums.{fold-append, fold_more}
use Rattle.global_layout.specs.declared.ids.Shape.{Shape}
use Rattle.global_layout.specs.declared.groups.Home.{Home}
use Rattle.global_layout.specs.declared.slots.Slots.{Slots}
use Rattle.global_layout.specs.declared.placing.Placing.{Placing}
use Rattle.global_layout.specs.Layout.{IsShape, no_shape, shape_at, slot_by, slot_more, variable_slots, most_bytes, is_table, fragment_more, variable_more, table_more, placed_in, none_placed}
use Rattle.global_layout.proofs.PadLemmas.{end-grows}

pub shape-is : (shapes : List Shape) (object : ℕ) → All IsShape shapes → IsShape (shape_at shapes object)
shape-is shapes object all = elim (cases_lt object (length shapes)) [
  | inl within ↦ all object no_shape within
  | inr past ↦ subst IsShape (sym (get_or-eq_default shapes no_shape past)) (record { extent = omega arith; align = (0, omega arith, refl) })
]

slots_grow : (shapes : List Shape) (number : ℕ) (slots : Slots) (objects : List ℕ) → All IsShape shapes
    → slots.length ≤ (fold (slot_more shapes number) slots objects).length
slots_grow shapes number slots [] all = omega arith
slots_grow shapes number slots (object ∷ more) all =
    let once = end-grows slots.length (shape_at shapes object) (shape-is shapes object all) in
    let rest = slots_grow shapes number (slot_more shapes number slots object) more all in
    omega (arith, once, rest)

pub variable-too-long : (shapes : List Shape) (number : ℕ) (homes : List (Option Home)) (objects : List ℕ) (k : ℕ) (slots : Slots) (d : Shape) → All IsShape shapes
    → k < length objects → get_or objects k 0 < length shapes → slots ≡ variable_slots shapes number homes (take k objects)
    → most_bytes < (slot_by (get_or shapes (get_or objects k 0) d) number slots (get_or objects k 0)).length
    → most_bytes < (variable_slots shapes number homes objects).length
variable-too-long shapes number homes objects k slots d all within inside so_far long =
    let object : ℕ = get_or objects k 0 in
    let first : Slots = record { length = 0; align = 1; homes = homes } in
    let next : slot_by (get_or shapes object d) number slots object ≡ variable_slots shapes number homes (take (k + 1) objects) =
    ap (λ (s : Shape). slot_by s number slots object) (get_or_default shapes object d no_shape inside) ∙ ap (λ s. slot_more shapes number s object) so_far
    ∙ sym (fold_more (slot_more shapes number) first objects k 0 within) in
    let whole : fold (slot_more shapes number) (variable_slots shapes number homes (take (k + 1) objects)) (drop (k + 1) objects) ≡ variable_slots shapes number homes objects =
    sym (fold-append (slot_more shapes number) first (take (k + 1) objects) (drop (k + 1) objects)) ∙ ap (variable_slots shapes number homes) (take-append-drop (k + 1) objects) in
    let grown = slots_grow shapes number (variable_slots shapes number homes (take (k + 1) objects)) (drop (k + 1) objects) all in
    let long' : most_bytes < (variable_slots shapes number homes (take (k + 1) objects)).length = subst (λ (s : Slots). most_bytes < s.length) next long in
    subst (λ (s : Slots). most_bytes < s.length) whole (omega (arith, grown, long'))

more_bytes : (shapes : List Shape) (placing : Placing) (objects : List ℕ) → placing.bytes ≤ (fragment_more shapes placing objects).bytes
more_bytes shapes placing objects = by_sort (is_table shapes objects) where
  by_sort : (t : Bool) → placing.bytes ≤ (if t then table_more placing objects else variable_more shapes placing objects).bytes
  by_sort true = omega arith
  by_sort false = omega arith

bytes_grow : (shapes : List Shape) (placing : Placing) (fragments : List (List ℕ)) → placing.bytes ≤ (fold (fragment_more shapes) placing fragments).bytes
bytes_grow shapes placing [] = omega arith
bytes_grow shapes placing (objects ∷ more) =
    let once = more_bytes shapes placing objects in
    let rest = bytes_grow shapes (fragment_more shapes placing objects) more in
    omega (arith, once, rest)

pub placing-step : (shapes : List Shape) (fragments : List (List ℕ)) (k : ℕ) (placing : Placing) (objects : List ℕ) → k < length fragments
    → objects ≡ get_or fragments k objects → placing ≡ placed_in shapes (take k fragments)
    → fragment_more shapes placing objects ≡ placed_in shapes (take (k + 1) fragments)
placing-step shapes fragments k placing objects within is so_far =
    ap (λ p. fragment_more shapes p objects) so_far ∙ ap (fragment_more shapes (placed_in shapes (take k fragments))) is
    ∙ sym (fold_more (fragment_more shapes) (none_placed (length shapes)) fragments k objects within)

pub placed-too-long : (shapes : List Shape) (fragments : List (List ℕ)) (k : ℕ) (placing : Placing) (objects : List ℕ) → k < length fragments
    → objects ≡ get_or fragments k objects → placing ≡ placed_in shapes (take k fragments)
    → most_bytes < (fragment_more shapes placing objects).bytes → most_bytes < (placed_in shapes fragments).bytes
placed-too-long shapes fragments k placing objects within is so_far long =
    let next = placing-step shapes fragments k placing objects within is so_far in
    let whole : fold (fragment_more shapes) (placed_in shapes (take (k + 1) fragments)) (drop (k + 1) fragments) ≡ placed_in shapes fragments =
    sym (fold-append (fragment_more shapes) (none_placed (length shapes)) (take (k + 1) fragments) (drop (k + 1) fragments))
    ∙ ap (placed_in shapes) (take-append-drop (k + 1) fragments) in
    let grown = bytes_grow shapes (placed_in shapes (take (k + 1) fragments)) (drop (k + 1) fragments) in
    let long' : most_bytes < (placed_in shapes (take (k + 1) fragments)).bytes = subst (λ (p : Placing). most_bytes < p.bytes) next long in
    subst (λ (p : Placing). most_bytes < p.bytes) whole (omega (arith, grown, long'))
