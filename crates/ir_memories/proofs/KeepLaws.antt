-- Cells outside the stored range stay.
use Rattle.std.proofs.Common.{◌≡◌, ◌≢◌, ◌∙◌, ◌⊎◌, inl, inr, ℕ, zero, suc, ◌+◌, ◌-◌, ◌≤◌, Bool, true, false, ◌&&◌, List, [], ◌∷◌, refl, sym, ap, subst, arith, Option, Some, None}
use Rattle.std.specs.Prelude.{nat_eq, nat_le, nat_lt, if◌then◌else◌, slice_get, slice_set}
use Rattle.type_metadata.specs.declared.objects.Object.{Object}
use Rattle.type_metadata.specs.declared.items.Item.{Item}
use Rattle.type_metadata.specs.Same.{same_object}
use Rattle.type_metadata.proofs.SameLaws.{object_one}
use Rattle.ir_memories.specs.declared.values.Value.{Value}
use Rattle.ir_memories.specs.declared.symbolic.SPtr.{SPtr}
use Rattle.ir_memories.specs.declared.symbolic.Space.{Space}
use Rattle.ir_memories.specs.declared.symbolic.Symbolic.{Symbolic}
use Rattle.ir_memories.specs.declared.cells.Cell.{Cell}
use Rattle.ir_memories.specs.Cells.{cells_in, cell_at, written}
use Rattle.ir_memories.specs.Symbolic.{store_at, store_in, may_store, with_value, place_of, at_place}
use Rattle.ir_memories.specs.Laws.{SymbolicKeeps, Outside, cell_in, cell_of}
use Rattle.ir_memories.proofs.StoreLaws.{get_set, some_one}

outside_test : (at n i : ℕ) → Outside at n i → (nat_le at i && nat_lt i (at + n)) ≡ false
outside_test at n i (inl before) = grind arith
outside_test at n i (inr after) = grind arith

pub written_outside : (at n : ℕ) (v : Value SPtr) (i k : ℕ) (cells : List Cell) → Outside at n (i + k) →
    slice_get (written at n v i cells) k ≡ slice_get cells k
written_outside at n v i k [] out = refl
written_outside at n v i zero (cell ∷ cells) out =
    let here : i + 0 ≡ i = omega arith in
    ap (λ t. Some (if t then cell_at v (i - at) else cell)) (outside_test at n i (subst (Outside at n) here out))
written_outside at n v i (suc k) (cell ∷ cells) out =
    let next : i + suc k ≡ i + 1 + k = omega arith in written_outside at n v (i + 1) k cells (subst (Outside at n) next out)

pub get_set_other : {X : Type 0} (xs : List X) (i j : ℕ) (y : X) → j ≢ i → slice_get (slice_set xs i y) j ≡ slice_get xs j
get_set_other [] i j y apart = refl
get_set_other (x ∷ xs) zero zero y apart = absurd (apart refl)
get_set_other (x ∷ xs) zero (suc j) y apart = refl
get_set_other (x ∷ xs) (suc i) zero y apart = refl
get_set_other (x ∷ xs) (suc i) (suc j) y apart = get_set_other xs i j y (λ same. apart (ap suc same))

-- An object has one place, and no other object has it.

above_cases : (object : Object) (k : ℕ) (item : Item) (items : List Item) (at : ℕ) (b : Bool) →
    (if b then Some k else place_of object (k + 1) items) ≡ Some at → (place_of object (k + 1) items ≡ Some at → k + 1 ≤ at) → k ≤ at
above_cases object k item items at true is rest = let same : k ≡ at = some_one k at is in omega arith
above_cases object k item items at false is rest = let more = rest is in omega arith

above : (object : Object) (k : ℕ) (items : List Item) (at : ℕ) → place_of object k items ≡ Some at → k ≤ at
above object k [] at is = cc
above object k (item ∷ items) at is = above_cases object k item items at (same_object item.object object) is (above object (k + 1) items at)

one_cases : (one other : Object) (k : ℕ) (item : Item) (items : List Item) (at : ℕ) (b c : Bool) →
    same_object item.object one ≡ b → same_object item.object other ≡ c →
    (if b then Some k else place_of one (k + 1) items) ≡ Some at → (if c then Some k else place_of other (k + 1) items) ≡ Some at →
    (place_of one (k + 1) items ≡ Some at → place_of other (k + 1) items ≡ Some at → one ≡ other) → one ≡ other
one_cases one other k item items at true true is is' here here' rest = sym (object_one item.object one is) ∙ object_one item.object other is'
one_cases one other k item items at true false is is' here here' rest =
    let same : k ≡ at = some_one k at here in let more = above other (k + 1) items at here' in absurd (omega arith)
one_cases one other k item items at false true is is' here here' rest =
    let same : k ≡ at = some_one k at here' in let more = above one (k + 1) items at here in absurd (omega arith)
one_cases one other k item items at false false is is' here here' rest = rest here here'

one_object : (one other : Object) (k : ℕ) (items : List Item) (at : ℕ) → place_of one k items ≡ Some at → place_of other k items ≡ Some at → one ≡ other
one_object one other k [] at is is' = cc
one_object one other k (item ∷ items) at is is' =
    one_cases one other k item items at (same_object item.object one) (same_object item.object other) refl refl is is' (one_object one other (k + 1) items at)

-- The cell of another place, or of the same outside the range.

abbrev Changed : List Space → ℕ → Space → List Space
Changed spaces at space = slice_set spaces at space

kept_at : (spaces : List Space) (v : Value SPtr) (offset at j i : ℕ) (space : Space) (b : Bool) → nat_eq j at ≡ b → slice_get spaces at ≡ Some space →
    (j ≡ at → Outside offset (cells_in v) i) →
    cell_in (slice_get (Changed spaces at (with_value space v offset)) j) i ≡ cell_in (slice_get spaces j) i
kept_at spaces v offset at j i space true is found out =
    let same : j ≡ at = grind arith in
    ap (λ k. cell_in (slice_get (Changed spaces at (with_value space v offset)) k) i) same
    ∙ ap (λ s. cell_in s i) (get_set spaces at space (with_value space v offset) found)
    ∙ written_outside offset (cells_in v) v 0 i space.cells (subst (Outside offset (cells_in v)) (let none : i ≡ 0 + i = omega arith in none) (out same))
    ∙ ap (λ s. cell_in s i) (sym found) ∙ ap (λ k. cell_in (slice_get spaces k) i) (sym same)
kept_at spaces v offset at j i space false is found out =
    let apart : j ≢ at = grind arith in
    ap (λ s. cell_in s i) (get_set_other spaces at j (with_value space v offset) apart)

kept_place : (w : Symbolic) (v : Value SPtr) (object other : Object) (offset at i : ℕ) (space : Space) (place : Option ℕ) →
    place_of object 0 w.items ≡ Some at → slice_get w.spaces at ≡ Some space → place_of other 0 w.items ≡ place →
    (other ≢ object) ⊎ Outside offset (cells_in v) i →
    cell_in (at_place (Changed w.spaces at (with_value space v offset)) place) i ≡ cell_in (at_place w.spaces place) i
kept_place w v object other offset at i space None here found there out = refl
kept_place w v object other offset at i space (Some j) here found there (inl apart) =
    kept_at w.spaces v offset at j i space (nat_eq j at) refl found
    (λ same. absurd (apart (one_object other object 0 w.items at (there ∙ ap Some same) here)))
kept_place w v object other offset at i space (Some j) here found there (inr out) =
    kept_at w.spaces v offset at j i space (nat_eq j at) refl found (λ same. out)

keep_test : (w after : Symbolic) (v : Value SPtr) (object other : Object) (offset at i : ℕ) (space : Space) (b : Bool) →
    place_of object 0 w.items ≡ Some at → slice_get w.spaces at ≡ Some space →
    (if b then Some (record w { spaces = slice_set w.spaces at (with_value space v offset) }) else None) ≡ Some after →
    (other ≢ object) ⊎ Outside offset (cells_in v) i → cell_of after other i ≡ cell_of w other i
keep_test w after v object other offset at i space false here found stored out = cc
keep_test w after v object other offset at i space true here found stored out =
    subst (λ (u : Symbolic). cell_of u other i ≡ cell_of w other i) (some_one _ _ stored)
    (kept_place w v object other offset at i space (place_of other 0 w.items) here found refl out)

keep_space : (w after : Symbolic) (v : Value SPtr) (object other : Object) (offset at i : ℕ) (space : Option Space) →
    place_of object 0 w.items ≡ Some at → slice_get w.spaces at ≡ space → store_in w v offset at space ≡ Some after →
    (other ≢ object) ⊎ Outside offset (cells_in v) i → cell_of after other i ≡ cell_of w other i
keep_space w after v object other offset at i None here found stored out = cc
keep_space w after v object other offset at i (Some space) here found stored out =
    keep_test w after v object other offset at i space (may_store space v offset) here found stored out

keep_place : (w after : Symbolic) (v : Value SPtr) (object other : Object) (offset i : ℕ) (place : Option ℕ) →
    place_of object 0 w.items ≡ place → store_at w v offset place ≡ Some after →
    (other ≢ object) ⊎ Outside offset (cells_in v) i → cell_of after other i ≡ cell_of w other i
keep_place w after v object other offset i None here stored out = cc
keep_place w after v object other offset i (Some at) here stored out =
    keep_space w after v object other offset at i (slice_get w.spaces at) here refl stored out

pub symbolic_keeps : SymbolicKeeps
symbolic_keeps w after v object offset stored other i out = keep_place w after v object other offset i (place_of object 0 w.items) refl stored out
