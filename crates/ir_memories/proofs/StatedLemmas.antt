-- The stated addresses: multiples of the alignments, each behind the object before.
use Rattle.std.proofs.Common.{◌≡◌, ◌∙◌, ◌⊎◌, inl, inr, ℕ, suc, ◌+◌, ◌*◌, ◌-◌, ◌/◌, ◌%◌, ◌<◌, ◌≤◌, List, [], ◌∷◌, length, drop, get_or, ap, subst, arith, eq-zero-or-pos, mod-eq_of_lt, suc-mul, true, false}
use Rattle.std.specs.Int.{next_multiple_of}
use Rattle.std.specs.List.{All}
use Rattle.std.proofs.lemmas.Nat.{mod-mul-add, div-add-mod'}
use Rattle.std.proofs.lemmas.List.{at_drop_more}
use Rattle.std.proofs.lemmas.List.Elements.{All-append, All-map}
use Rattle.ir_values.specs.declared.modules.Func.{Func}
use Rattle.ir_values.specs.declared.modules.Jump.{Jump}
use Rattle.ir_values.specs.declared.modules.Module.{Module}
use Rattle.ir_memories.specs.declared.stated.Room.{Room}
use Rattle.ir_memories.specs.Placement.{of_variable, of_table, of_function}
use Rattle.ir_memories.specs.Stated.{room_of, rooms, functions_that, end_from}

itself : (y : ℕ) → 0 < y → y % y ≡ 0
itself y some = let one : 1 * y + 0 ≡ y = omega arith in subst (λ n. n % y ≡ 0) one (mod-mul-add 1 y 0 some)

multiple_cases : (x y : ℕ) → 0 < y → (x % y ≡ 0) ⊎ (0 < x % y) → next_multiple_of x y % y ≡ 0
multiple_cases x y some (inl even) =
    let whole = div-add-mod' x y in
    let off : y - x % y ≡ y = omega arith in
    let more : (y - x % y) % y ≡ 0 = ap (λ n. n % y) off ∙ itself y some in
    let same : x + (y - x % y) % y ≡ x = omega arith in
    ap (λ n. n % y) same ∙ even
multiple_cases x y some (inr odd) =
    let whole = div-add-mod' x y in
    let below : y - x % y < y = omega arith in
    let more : (y - x % y) % y ≡ y - x % y = mod-eq_of_lt below in
    let step : suc (x / y) * y ≡ x / y * y + y = suc-mul (x / y) y in
    let less : x % y < y = omega arith in
    let same : suc (x / y) * y + 0 ≡ x + (y - x % y) % y = omega arith in
    subst (λ n. n % y ≡ 0) same (mod-mul-add (suc (x / y)) y 0 some)

pub multiple : (x y : ℕ) → 0 < y → next_multiple_of x y % y ≡ 0
multiple x y some = multiple_cases x y some (eq-zero-or-pos (x % y))

pub end_grows : (end : ℕ) (rooms : List Room) → end ≤ end_from end rooms
end_grows end [] = omega arith
end_grows end (room ∷ rooms) = let more = end_grows (next_multiple_of end room.align + room.size) rooms in omega arith

-- a room of the list ends before the last ends
pub room_fits : (rooms : List Room) (i end : ℕ) (d : Room) → i < length rooms →
    next_multiple_of end (get_or rooms i d).align + (get_or rooms i d).size ≤ end_from end (drop i rooms)
room_fits rooms i end d within =
    let here = at_drop_more (end_from end) rooms i d within in
    let more = end_grows (next_multiple_of end (get_or rooms i d).align + (get_or rooms i d).size) (drop (i + 1) rooms) in
    omega arith

abbrev IsAligned : Room → Type 0
IsAligned room = 1 ≤ room.align

every_function : (fs : List Func) → All (λ f. IsAligned (room_of (of_function f))) fs
every_function fs k d within = omega arith

every_table : (ts : List Jump) → All (λ t. IsAligned (room_of (of_table t))) ts
every_table ts k d within = omega arith

pub rooms_aligned : (m : Module) → All (λ v. 1 ≤ v.align) m.vars → All (λ room. 1 ≤ room.align) (rooms m)
rooms_aligned m aligned =
    All-append IsAligned _ _ (All-map IsAligned (λ v. room_of (of_variable v)) m.vars aligned)
    (All-append IsAligned _ _ (All-map IsAligned (λ t. room_of (of_table t)) m.jumps (every_table m.jumps))
    (All-append IsAligned _ _
    (All-map IsAligned (λ f. room_of (of_function f)) (functions_that true m.funcs) (every_function (functions_that true m.funcs)))
    (All-map IsAligned (λ f. room_of (of_function f)) (functions_that false m.funcs) (every_function (functions_that false m.funcs)))))
